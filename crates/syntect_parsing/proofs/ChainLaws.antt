-- A chain in which each test finds the same has the same winner.
use Rattle.std.proofs.Common.{◌≡◌, ℕ, Bool, true, false, not, ◌&&◌, List, [], ◌∷◌, find, length, Option, Some, None, refl, ap, sym, ◌∙◌, if◌then◌else◌}
use Rattle.syntect_parsing.specs.syntect_grammar.Walk.{FindsSame}
use Rattle.syntect_parsing.proofs.syntect_grammar_proofs.SameLaws.{same_filter_map, same_all}
use Rattle.syntect_reading_choice.specs.Engine.{Engine}
use Rattle.syntect_reading_choice.specs.Chain.{Member, chain, last, prototypes_in}
use Rattle.std.specs.Prelude.{is_none}
use Rattle.std.specs.Option.{option_map, option_map_or}
use Rattle.syntect_parsing.specs.syntect_grammar_contexts.declared.error.ParsingError.TheVariants as error
use Rattle.syntect_reading_choice.specs.Engine.{dialect}
use Rattle.syntect_parsing.specs.Line.{step, turn_in, turn_on, unless_refused}
use Rattle.syntect_reading_choice.specs.declared.level.Level.{Level}
use Rattle.syntect_reading_choice.specs.ChoiceViews.{live_in}
use Rattle.syntect_reading_choice.specs.Best.{choice_by}
use Rattle.syntect_reading_choice.specs.declared.search.Best.{Best}
use Rattle.syntect_parsing.specs.syntect_grammar.Contexts.{context_at}
use Rattle.syntect_parsing.specs.syntect_grammar_contexts.declared.context.Context.{Context}
use Rattle.syntect_parsing.specs.syntect_grammar.declared.syntax_set.SyntaxSet.{SyntaxSet}
use Rattle.syntect_reading_choice.specs.Turn.{Live, live, live_match, is_least, loops, choice_of, winner}
use Rattle.syntect_reading_choice.specs.declared.position.Position.{Position}

-- ---- its winner ----

find_by : {X : Type 0} (f g : X → Bool) → ((x : X) → f x ≡ g x) → (xs : List X) → find f xs ≡ find g xs
find_by f g h [] = refl
find_by f g h (x ∷ xs) = by (f x) (g x) (h x) (find_by f g h xs)
  where
    by : (a b : Bool) → a ≡ b → find f xs ≡ find g xs → (if a then Some x else find f xs) ≡ (if b then Some x else find g xs)
    by true true e r = refl
    by true false e r = cc
    by false true e r = cc
    by false false e r = r

choice_same : (line : List ℕ) (place : ℕ) (xs ys : List Live) → FindsSame xs ys → (o : Option Live) → choice_of line place xs o ≡ choice_of line place ys o
choice_same line place xs ys h (Some m) = refl
choice_same line place [] [] h None = refl
choice_same line place [] (y ∷ ys) h None = let k : None ≡ Some y = h (λ m. true) in cc
choice_same line place (x ∷ xs) [] h None = let k : Some x ≡ None = h (λ m. true) in cc
choice_same line place (x ∷ xs) (y ∷ ys) h None = refl

winner_same : (line : List ℕ) (p : Position) (xs ys : List Live) → FindsSame xs ys → winner line p xs ≡ winner line p ys
winner_same line p xs ys h =
    let tests : (m : Live) → (is_least xs m && not (loops p m)) ≡ (is_least ys m && not (loops p m)) = λ m. ap (λ (b : Bool). b && not (loops p m)) (same_all _ xs ys h) in
    let found : find (λ m. is_least xs m && not (loops p m)) xs ≡ find (λ m. is_least ys m && not (loops p m)) ys =
    find_by _ _ tests xs ∙ h (λ m. is_least ys m && not (loops p m)) in
    ap (choice_of line p.place xs) found ∙ choice_same line p.place xs ys h (find (λ m. is_least ys m && not (loops p m)) ys)

pub same_winner : (engine : Engine) (line : List ℕ) (p : Position) (ms ns : List Member) → FindsSame ms ns → winner line p (live engine line p ms) ≡ winner line p (live engine line p ns)
same_winner engine line p ms ns h = winner_same line p (live engine line p ms) (live engine line p ns) (same_filter_map (live_match engine (length p.levels) line p.place) ms ns h)

-- ---- the chain of a turn ----

module _ (set : SyntaxSet) (line : List ℕ) (p : Position) (top : Level) (c : Context) (ms : List Member) (b : Best)
    (on_top : Some top ≡ last p.levels) (held : Some c ≡ context_at set top.context) (same : FindsSame ms (chain set p top c))
    (chosen : choice_by line p.place b ≡ winner line p (live dialect line p ms)) where
  of_chain : choice_by line p.place b ≡ winner line p (live dialect line p (chain set p top c))
  of_chain = chosen ∙ same_winner dialect line p ms (chain set p top c) same

  live_known : live_in dialect set line p ≡ live dialect line p (chain set p top c)
  live_known =
      ap (λ (o : Option Level). option_map_or (λ t. option_map_or (λ k. live dialect line p (chain set p t k)) (context_at set t.context) []) o []) (sym on_top)
      ∙ ap (λ (o : Option Context). option_map_or (λ k. live dialect line p (chain set p top k)) o []) (sym held)

  pub chain_wins : choice_by line p.place b ≡ winner line p (live_in dialect set line p)
  chain_wins = of_chain ∙ ap (winner line p) (sym live_known)

  pub chain_steps : None ≡ find (λ id. is_none (context_at set id)) (prototypes_in p c) → turn_on dialect set line p (last p.levels) ≡ step dialect set line p (choice_by line p.place b)
  chain_steps m =
      ap (turn_on dialect set line p) (sym on_top) ∙ ap (turn_in dialect set line p top) (sym held)
      ∙ ap (λ o. unless_refused (option_map error.MissingContext o) (step dialect set line p (winner line p (live dialect line p (chain set p top c))))) (sym m)
      ∙ ap (step dialect set line p) (sym of_chain)
