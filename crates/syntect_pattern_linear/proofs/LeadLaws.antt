-- Whether a cell leads on.
use Rattle.std.proofs.Common.{◌≡◌, ℕ, ◌-◌, ◌<◌, Bool, true, false, List, length, get_or, set, replicate, Option, Some, None, refl, sym, ap, ◌∙◌, arith}
use Rattle.std.specs.Prelude.{IfSome, is_some, unwrap_or, option_map, option_and_then, IsCharBoundary}
use Rattle.std.specs.Option.{option_or}
use Rattle.syntect_pattern_linear.specs.syntect_pattern.Text.{char_at}
use Rattle.syntect_pattern_linear.specs.syntect_pattern.Sets.{Set, holds}
use Rattle.syntect_pattern_linear.specs.syntect_pattern.Trees.{one_of}
use Rattle.syntect_pattern_linear.specs.syntect_pattern_steps.Steps.{after_char}
use Rattle.syntect_pattern_plan.specs.Cells.{cell_at}
use Rattle.syntect_pattern_plan.specs.Onward.{prefer_end}
use Rattle.syntect_pattern_linear.specs.Ground.{IsIn, ends_at}
use Rattle.syntect_pattern_linear.specs.Marks.{IsMarked, KnowsLeads}
use Rattle.syntect_pattern_plan.specs.Sights.{row_flag}
use Rattle.syntect_pattern_linear.specs.Step.{IsTreeAt}
use Rattle.syntect_pattern_linear.specs.declared.ground.Ground.{Ground}
use Rattle.syntect_pattern_linear.proofs.GroundLaws.{char-on, past-on, next-inside}
use Rattle.syntect_pattern_linear.proofs.RowLaws.{set-cases}
use Rattle.syntect_pattern_linear.proofs.StepsLaws.{none-known}

-- an answer to the same
pub same-lead : (r : Option Bool) (a b : Bool) → a ≡ b → IfSome r (λ l. l ≡ a) → IfSome r (λ l. l ≡ b)
same-lead None a b e h = h
same-lead (Some l) a b e h = h ∙ e

pub known-lead : (x : Ground) (place k : ℕ) (here : List (Option Bool)) (o : Option Bool) → o ≡ get_or here k None → KnowsLeads x place here → IfSome o (λ b. b ≡ is_some (ends_at x k place))
known-lead x place k here None e h = tt
known-lead x place k here (Some b) e h = h k b (sym e)

-- one of two branches
pub either-first : (a b : Option ℕ) → is_some a ≡ true → true ≡ is_some (option_or a b)
either-first None b h = cc
either-first (Some v) b h = refl

pub either-last : (a b : Option ℕ) → is_some a ≡ false → is_some b ≡ is_some (option_or a b)
either-last None b h = refl
either-last (Some v) b h = cc

-- one of a loop's two ways
pub loop-turn : (greedy : Bool) (turn leave : Option ℕ) → is_some turn ≡ true → true ≡ is_some (prefer_end greedy turn leave)
loop-turn greedy None leave h = cc
loop-turn true (Some v) leave h = refl
loop-turn false (Some v) None h = refl
loop-turn false (Some v) (Some w) h = refl

pub loop-leave : (greedy : Bool) (turn leave : Option ℕ) → is_some turn ≡ false → is_some leave ≡ is_some (prefer_end greedy turn leave)
loop-leave greedy (Some v) leave h = cc
loop-leave true None leave h = refl
loop-leave false None None h = refl
loop-leave false None (Some w) h = refl

-- a character is read
pub char-leads : (x : Ground) (marks : List (List Bool)) (place k : ℕ) → IsMarked x marks place → (a : Set) → IsTreeAt x k (one_of a) → (n : ℕ) (o : Option ℕ) → n ≡ (cell_at x.plan.now.cells k).next
    → o ≡ after_char (holds a) (char_at x.text.now place) place → IfSome o (λ j. IsCharBoundary x.text.now j)
    → unwrap_or (option_map (λ j. row_flag marks (length x.text.now - j) n) o) false ≡ is_some (ends_at x k place)
char-leads x marks place k r a h n o q e b = by o e b ∙ sym (ap is_some (char-on x place k r.ground a h n o q e))
  where
    by : (o : Option ℕ) → o ≡ after_char (holds a) (char_at x.text.now place) place → IfSome o (λ j. IsCharBoundary x.text.now j)
        → unwrap_or (option_map (λ j. row_flag marks (length x.text.now - j) n) o) false ≡ is_some (option_and_then (ends_at x n) o)
    by None e b = refl
    by (Some j) e b =
        let past = past-on x place k r.ground (holds a) (char_at x.text.now place) j (sym e) in
        r.marks_are j n (let l = r.later in let w = b.0 in omega (arith, past, l, w)) b (next-inside x place k r.ground (one_of a) h n q)

-- one more is known
pub knows-set : (x : Ground) (place k : ℕ) (here new : List (Option Bool)) (o : Option Bool) → new ≡ set here k o → IfSome o (λ b. b ≡ is_some (ends_at x k place)) → KnowsLeads x place here → KnowsLeads x place new
knows-set x place k here new o e h a j p q =
    set-cases here k j o p (λ i w. w ≡ is_some (ends_at x i place)) h (λ z. a j p z) (ap (λ (l : List (Option Bool)). get_or l j None) (sym e) ∙ q)

pub knows-none : (x : Ground) (place : ℕ) (here : List (Option Bool)) (n : ℕ) → here ≡ replicate n None → KnowsLeads x place here
knows-none x place here n e k b q = absurd (none-known here n e k b q)

-- what is known of all cells is a row
pub row-leads : (x : Ground) (place : ℕ) (here : List (Option Bool)) (made : Option (List Bool)) → KnowsLeads x place here → length here ≡ length x.plan.now.cells
    → IfSome made (λ row. (k : ℕ) → k < length here → get_or here k None ≡ Some (get_or row k false))
    → IfSome made (λ row. (k : ℕ) → IsIn x k → get_or row k false ≡ is_some (ends_at x k place))
row-leads x place here None knows long h = h
row-leads x place here (Some row) knows long h = λ k i. knows k (get_or row k false) (h k (omega (arith, long, i)))
