-- Where what matches need is absent.
use Rattle.std.proofs.Common.{◌≡◌, ◌≢◌, ◌<◌, ◌≤◌, ◌-◌, ◌+◌, ◌==◌, ◌&&◌, inl, inr, ℕ, suc, Bool, true, false, List, length, drop, get_or, refl, sym, ◌∙◌, ap, subst, arith, Option, Some, None, ne_eqb, eq-eqb, length-drop}
use Rattle.std.proofs.lemmas.List.{get_or-drop}
use Rattle.std.proofs.lemmas.Bool.{cases_lt}
use Rattle.memchr.specs.Find.{IsFirstByte, Passes, is_byte}
use Rattle.std.specs.Prelude.{IfNone, IsUtf8}
use Rattle.syntect_pattern_backtrack.specs.syntect_pattern.Matches.{found_at}
use Rattle.syntect_pattern_backtrack.specs.syntect_pattern.Trees.{Tree}
use Rattle.syntect_pattern_backtrack.specs.syntect_pattern_table.Needs.{IsAbsent, MayNeed, Needs, has_pair_at}
use Rattle.syntect_pattern_backtrack.specs.syntect_pattern_table.declared.needs.Need.{Need}
use Rattle.syntect_pattern_backtrack.specs.syntect_pattern_table.Starts.{is_in, start_at}
use Rattle.syntect_pattern_backtrack.specs.syntect_pattern_table.declared.starts.Places.{Places}
use Rattle.syntect_pattern_backtrack.proofs.syntect_pattern_table_proofs.BeginLaws.{start-past, start-ascii, start-wide}
use Rattle.syntect_pattern_backtrack.proofs.syntect_pattern_table_proofs.StartLaws.{found_at-absent}

and_false : (a b : Bool) → b ≡ false → (a && b) ≡ false
and_false true b e = e
and_false false b e = refl

module _ (here next : ℕ → Bool) (s : List ℕ) (k : ℕ) where
  -- none of the first stands there
  pub not-here : here (start_at s k) ≡ false → has_pair_at here next s k ≡ false
  not-here e = ap (λ b. b && next (start_at s (suc k))) e

  -- none of the second comes right after it
  pub not-next : (j : ℕ) → j ≡ suc k → next (start_at s j) ≡ false → has_pair_at here next s k ≡ false
  not-next j behind e = and_false (here (start_at s k)) (next (start_at s (suc k))) (ap (λ i. next (start_at s i)) (sym behind) ∙ e)

-- the end is none of these
pub not-past : (here : Places) (next : ℕ → Bool) (s : List ℕ) (k : ℕ) → here.end ≡ false → length s ≤ k → has_pair_at (is_in here) next s k ≡ false
unfolding is_in
not-past here next s k e past = not-here (is_in here) next s k (ap (is_in here) (start-past s k past) ∙ e)

-- -- One byte

start-other : (s : List ℕ) (k b : ℕ) → b < 128 → k < length s → get_or s k 0 ≢ b → start_at s k ≢ b
start-other s k b low inside other e = elim (cases_lt (get_or s k 0) 128) [
  | inl l ↦ other (sym (start-ascii s k inside l) ∙ e)
  | inr g ↦ (let w : start_at s k ≡ 128 = start-wide s k inside g in omega (arith, w, e))
]

-- the bytes from a place on
module _ (s rest : List ℕ) (b from : ℕ) (is : rest ≡ drop from s) (low : b < 128) (next : ℕ → Bool) where
  not-byte : (k : ℕ) → from ≤ k → k < length s → ¬ Passes (is_byte b) rest (k - from) → has_pair_at (λ x. x == b) next s k ≡ false
  not-byte k p inside other =
      let at : get_or rest (k - from) 0 ≡ get_or s k 0 =
      ap (λ (t : List ℕ). get_or t (k - from) 0) is ∙ get_or-drop from s (k - from) 0 ∙ ap (λ j. get_or s j 0) (let j : from + (k - from) ≡ k = omega arith in j) in
      not-here (λ x. x == b) next s k
      (ne_eqb (start_at s k) b (start-other s k b low inside (λ e. other (eq-eqb (get_or rest (k - from) 0) b (at ∙ e)))))

  -- the byte isn't found
  pub absent-behind : (r : Option ℕ) → r ≡ None → IsFirstByte (is_byte b) rest r → IsAbsent (λ x. x == b) next s from
  absent-behind r none first k p =
      let nowhere : IsFirstByte (is_byte b) rest None = subst (λ (o : Option ℕ). IsFirstByte (is_byte b) rest o) none first in
      elim (cases_lt k (length s)) [
        | inl l ↦ not-byte k p l (nowhere (k - from) (omega arith) (omega (arith, ap length is, length-drop from s)))
        | inr past ↦
            (let w : start_at s k ≡ 129 = start-past s k past in
            not-here (λ x. x == b) next s k (ne_eqb (start_at s k) b (λ e. omega (arith, w, e))))
      ]

  -- it is found, with none of the second right after it
  pub absent-up_to : (found : ℕ) → IsFirstByte (is_byte b) rest (Some found) → next (start_at s (from + (found + 1))) ≡ false
      → (k : ℕ) → from ≤ k → k < from + (found + 1) → has_pair_at (λ x. x == b) next s k ≡ false
  absent-up_to found first e k p q = elim (cases_lt k (from + found)) [
    | inl l ↦ not-byte k p (omega (arith, first.0.high, ap length is, length-drop from s)) (first.0.before (k - from) (omega arith) (omega arith))
    | inr g ↦ not-next (λ x. x == b) next s k (from + (found + 1)) (omega arith) e
  ]

-- -- No match

module _ (s : List ℕ) (u : IsUtf8 s) (place : ℕ) where
  never : (here next : ℕ → Bool) → IsAbsent here next s place → (tree : Tree) (k : ℕ) → Needs here next tree → place ≤ k → found_at s tree k ≡ None
  never here next absent tree k needs p = found_at-absent s u tree here next k needs (λ j q. absent j (omega arith))

  -- where nothing is found, there is no match
  pub none-byte : (need : Need) (byte : ℕ) (next : Places) → need ≡ Need.Byte byte next → (r : Option ℕ) → IfNone r (byte < 128 → IsAbsent (λ x. x == byte) (is_in next) s place)
      → IfNone r ((tree : Tree) (k : ℕ) → MayNeed need tree → place ≤ k → found_at s tree k ≡ None)
  none-byte need byte next is (Some x) h = h
  none-byte need byte next is None h = λ tree k may p.
      let m : MayNeed (Need.Byte byte next) tree = subst (λ (n : Need). MayNeed n tree) is may in
      never (λ x. x == byte) (is_in next) (h m.0) tree k m.1 p

  pub none-one : (need : Need) (here next : Places) → need ≡ Need.One here next → (r : Option ℕ) → IfNone r (here.end ≡ false → IsAbsent (is_in here) (is_in next) s place)
      → IfNone r ((tree : Tree) (k : ℕ) → MayNeed need tree → place ≤ k → found_at s tree k ≡ None)
  none-one need here next is (Some x) h = h
  none-one need here next is None h = λ tree k may p.
      let m : MayNeed (Need.One here next) tree = subst (λ (n : Need). MayNeed n tree) is may in
      never (is_in here) (is_in next) (h m.0) tree k m.1 p
