-- Limits that are reported, and the lines that are left out.
use Rattle.std.proofs.Common.{◌≡◌, ℕ, zero, suc, List, [], ◌∷◌, ◌++◌, length, take, drop, Some, refl, sym, ap, subst, ◌∙◌, arith, append_assoc}
use Rattle.std.specs.List.{slice_get}
use Rattle.syntect_buffer.specs.syntect_base.declared.limits.Limits.{Limits}
use Rattle.syntect_buffer.specs.syntect_parsing.declared.within.LineLimit.{LineLimit}
use Rattle.syntect_buffer.specs.syntect_parsing.declared.within.LineLimit.TheVariants.{Steps, Turns, Levels, Operations}
use Rattle.syntect_buffer.specs.syntect_grammar_contexts.declared.error.ParsingError.{ParsingError}
use Rattle.syntect_buffer.specs.syntect_grammar_contexts.declared.error.ParsingError.TheVariants as parsing
use Rattle.syntect_buffer.specs.syntect_easy.Within.{ReachesLimit}
use Rattle.syntect_buffer.specs.syntect_easy.declared.within.HighlightWithinError.TheVariants as within
use Rattle.syntect_buffer.specs.Answers.{HasLimit, HasNoLimit, IsRefusal, TellsOf, given_line, given_lines}
use Rattle.syntect_buffer.specs.Kept.{AllTell, answers_of}
use Rattle.syntect_buffer.specs.declared.answer.LineAnswer.{LineAnswer}
use Rattle.syntect_buffer.specs.declared.answer.LineAnswer.TheVariants as answer
use Rattle.syntect_buffer.specs.declared.reading.Reading.{Reading}
use Rattle.syntect_buffer.proofs.HeldLaws.{some_same, none_is_some}

-- ---- one line ----

-- a limit that was reached is one of the limits
pub reached_told : (limits : Limits) (turns steps : ℕ) (l : LineLimit) → ReachesLimit limits turns steps (within.LimitReached l) → HasLimit limits l
reached_told limits turns steps (Steps context index place) e = λ n. none_is_some (sym n ∙ e)
reached_told limits turns steps (Turns place) e = λ n. none_is_some (sym n ∙ e)
reached_told limits turns steps (Levels place levels) e = λ n. none_is_some (sym n ∙ e.0)
reached_told limits turns steps (Operations place operations) e = λ n. none_is_some (sym n ∙ e.0)

-- a refusal tells none
pub never_limit : (e : ParsingError) (l : LineLimit) → IsRefusal e (answer.LimitReached l) → ⊥
never_limit parsing.MissingMainContext l h = h
never_limit (parsing.MissingContext id) l h = h
never_limit (parsing.BadMatchIndex index) l h = h
never_limit (parsing.UnresolvedContextReference r) l h = h
never_limit parsing.Memory l h = h

pub refusal_told : (limits : Limits) (e : ParsingError) (a : LineAnswer) → IsRefusal e a → TellsOf limits a
refusal_told limits e (answer.Pieces ps) h = tt
refusal_told limits e (answer.Refused x) h = tt
refusal_told limits e (answer.LimitReached l) h = absurd (never_limit e l h)

-- where there is none, none is reported
pub no_limit : (limits : Limits) (l : LineLimit) → HasNoLimit limits → HasLimit limits l → ⊥
no_limit limits (Steps context index place) n t = t n.0
no_limit limits (Turns place) n t = t n.1
no_limit limits (Levels place levels) n t = t n.2
no_limit limits (Operations place operations) n t = t n.3

-- and no line is left out
line_whole : (limits : Limits) (line : List ℕ) (a : LineAnswer) → HasNoLimit limits → TellsOf limits a → given_line line a ≡ line ∷ []
line_whole limits line (answer.Pieces ps) n t = refl
line_whole limits line (answer.Refused e) n t = refl
line_whole limits line (answer.LimitReached l) n t = absurd (no_limit limits l n t)

-- ---- lists of lines ----

pub told_front : (limits : Limits) (n : ℕ) (rs : List Reading) → AllTell limits rs → AllTell limits (take n rs)
told_front limits zero rs h = tt
told_front limits (suc n) [] h = tt
told_front limits (suc n) (r ∷ rs) h = (h.0, told_front limits n rs h.1)

pub told_rest : (limits : Limits) (n : ℕ) (rs : List Reading) → AllTell limits rs → AllTell limits (drop n rs)
told_rest limits zero rs h = h
told_rest limits (suc n) [] h = tt
told_rest limits (suc n) (r ∷ rs) h = told_rest limits n rs h.1

pub told_joined : (limits : Limits) (rs others : List Reading) → AllTell limits rs → AllTell limits others → AllTell limits (rs ++ others)
told_joined limits [] others h k = k
told_joined limits (r ∷ rs) others h k = (h.0, told_joined limits rs others h.1 k)

pub told_at : (limits : Limits) (rs : List Reading) (place : ℕ) (r : Reading) → AllTell limits rs → slice_get rs place ≡ Some r → TellsOf limits r.answer
told_at limits [] place r h e = absurd (none_is_some e)
told_at limits (x ∷ rs) zero r h e = subst (λ (y : Reading). TellsOf limits y.answer) (some_same e) h.0
told_at limits (x ∷ rs) (suc place) r h e = told_at limits rs place r h.1 e

pub lines_whole : (limits : Limits) (ls : List (List ℕ)) (rs : List Reading) (n : ℕ) → HasNoLimit limits → length ls ≡ length rs → AllTell limits rs
    → given_lines (take n ls) (take n (answers_of rs)) ≡ take n ls
lines_whole limits ls rs zero h e t = refl
lines_whole limits [] rs (suc n) h e t = refl
lines_whole limits (l ∷ ls) [] (suc n) h e t = absurd (omega (arith, e))
lines_whole limits (l ∷ ls) (r ∷ rs) (suc n) h e t =
    ap (λ (xs : List (List ℕ)). xs ++ given_lines (take n ls) (take n (answers_of rs))) (line_whole limits l r.answer h t.0)
    ∙ ap (λ (xs : List (List ℕ)). l ∷ xs) (lines_whole limits ls rs n h (omega (arith, e)) t.1)

-- ---- the lines that are given ----

-- all of them, in two ways
pub given_all : (ls : List (List ℕ)) (bs : List LineAnswer) → given_lines (take (length ls) ls) (take (length ls) bs) ≡ given_lines ls bs
given_all [] bs = refl
given_all (l ∷ ls) [] = refl
given_all (l ∷ ls) (a ∷ bs) = ap (λ (xs : List (List ℕ)). given_line l a ++ xs) (given_all ls bs)

given_none : (ls : List (List ℕ)) → given_lines ls [] ≡ []
given_none [] = refl
given_none (l ∷ ls) = refl

-- those of the first lines, and of the others
pub given_parted : (n : ℕ) (ls : List (List ℕ)) (bs : List LineAnswer) → given_lines (take n ls) (take n bs) ++ given_lines (drop n ls) (drop n bs) ≡ given_lines ls bs
given_parted zero ls bs = refl
given_parted (suc n) [] bs = refl
given_parted (suc n) (l ∷ ls) [] = given_none (drop n ls)
given_parted (suc n) (l ∷ ls) (a ∷ bs) =
    append_assoc (given_line l a) (given_lines (take n ls) (take n bs)) (given_lines (drop n ls) (drop n bs))
    ∙ ap (λ (xs : List (List ℕ)). given_line l a ++ xs) (given_parted n ls bs)
