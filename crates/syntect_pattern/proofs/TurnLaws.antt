-- A loop's turns do not depend on their bound, where it is above what is left of the text.
use Rattle.std.proofs.Common.{◌≡◌, ◌≢◌, ℕ, zero, suc, ◌+◌, ◌-◌, ◌≤◌, ◌<◌, List, [], ◌∷◌, ◌++◌, length, Bool, true, false, Option, Some, None, refl, ap, ◌∙◌, arith}
use Rattle.std.specs.Prelude.{◌==◌, slice_set, option_map, IsUtf8, IsCharBoundary}
use Rattle.std.specs.List.{flat_map}
use Rattle.std.specs.Char.{len_utf8}
use Rattle.syntect_pattern.specs.Text.{char_at}
use Rattle.syntect_pattern.specs.Trees.{Tree}
use Rattle.syntect_pattern.specs.Matches.{Groups, Member, Way, prefer, while_left, after_turn, turns, only_if, matches}
use Rattle.syntect_pattern.specs.Nesting.{TurnsEnough}
use Rattle.syntect_pattern.proofs.Each.{Each, each_of}
use Rattle.syntect_pattern.proofs.TextLemmas.{boundary-past}
use Rattle.syntect_pattern.proofs.MatchLaws.{Step, IsClosed, steps-matches}
use Rattle.syntect_pattern.proofs.FoundLaws.{in_look-fails}

-- a step from a boundary goes on to a boundary
abbrev pub Forward : List ℕ → Bool → Step
Forward s true i g j h = Unit {0}
Forward s false i g j h = IsCharBoundary s i → (i ≤ j) × IsCharBoundary s j

forward-join : (s : List ℕ) (b : Bool) (i j k : ℕ) (g h l : Groups) → Forward s b i g j h → Forward s b j h k l → Forward s b i g k l
forward-join s true i j k g h l p q = tt
forward-join s false i j k g h l p q = λ c. let a = p c in let d = q a.1 in (omega (arith, a.0, d.0), d.1)

forward : (s : List ℕ) → IsUtf8 s → IsClosed s (λ _. false) (Forward s)
forward s u = record {
  here = λ b i g. here b i g;
  reads = λ b i c g e. reads b i c g e;
  joins = forward-join s;
  closes = λ b n i j g h t p. closes b n i j g h p;
  looks = λ b k i j g h at p. here_or b i g h;
}
  where
    here : (b : Bool) (i : ℕ) (g : Groups) → Forward s b i g i g
    here true i g = tt
    here false i g = λ c. (omega arith, c)

    reads : (b : Bool) (i c : ℕ) (g : Groups) → char_at s i ≡ Some c → Forward s b i g (i + len_utf8 c) g
    reads true i c g e = tt
    reads false i c g e = λ b. (omega arith, boundary-past s i c u b e)

    closes : (b : Bool) (n i j : ℕ) (g h : Groups) → Forward s b i g j h → Forward s b i g j (slice_set h n (Some (i, j)))
    closes true n i j g h p = tt
    closes false n i j g h p = p

    here_or : (b : Bool) (i : ℕ) (g h : Groups) → Forward s b i g i h
    here_or true i g h = tt
    here_or false i g h = λ c. (omega arith, c)

-- a match ends on a boundary, not before its start
pub matches-forward : (s : List ℕ) → IsUtf8 s → (t : Tree) (i : ℕ) (g : Groups) → IsCharBoundary s i
    → Each (λ m. (i ≤ m.0) × IsCharBoundary s m.0) (matches s t i g)
matches-forward s u t i g c =
    each_of (λ m. Forward s false i g m.0 m.1) (λ m. (i ≤ m.0) × IsCharBoundary s m.0) (matches s t i g) (λ m r. r c)
    (steps-matches s u (λ _. false) (Forward s) (forward s u) false t (in_look-fails (λ _. false) false t (λ n e. refl)) i g)

flat_map-same : (f k : Member → List Member) (P : Member → Type 0) (ms : List Member) → Each P ms → ((m : Member) → P m → f m ≡ k m) → flat_map f ms ≡ flat_map k ms
flat_map-same f k P [] e same = refl
flat_map-same f k P (m ∷ ms) e same = ap (λ xs. xs ++ flat_map f ms) (same m e.0) ∙ ap (λ xs. k m ++ xs) (flat_map-same f k P ms e.1 same)

turn-same : (test : Bool) (more more' : Way) (j : ℕ) (h : Groups) → (test ≡ false → more j h ≡ more' j h) → after_turn test more j h ≡ after_turn test more' j h
turn-same true more more' j h e = refl
turn-same false more more' j h e = e refl

while-same : (most : Option ℕ) (turn turn' : Way) (i : ℕ) (g : Groups) → turn i g ≡ turn' i g → while_left most turn i g ≡ while_left most turn' i g
while-same None turn turn' i g e = e
while-same (Some zero) turn turn' i g e = refl
while-same (Some (suc n)) turn turn' i g e = e

apart : (i j : ℕ) → (j == i) ≡ false → j ≢ i
apart i j e = grind arith

module _ (s : List ℕ) (body : Way)
    (goes : (i : ℕ) (g : Groups) → IsCharBoundary s i → Each (λ m. (i ≤ m.0) × IsCharBoundary s m.0) (body i g)) where
  pub turns-enough : (greedy : Bool) (n m least : ℕ) (most : Option ℕ) (i : ℕ) (g : Groups) → IsCharBoundary s i
      → length s - i < n → length s - i < m → turns body greedy n least most i g ≡ turns body greedy m least most i g
  turns-enough greedy zero m least most i g c a b = absurd (omega arith)
  turns-enough greedy (suc n) zero least most i g c a b = absurd (omega arith)
  turns-enough greedy (suc n) (suc m) least most i g c a b =
      ap (λ xs. prefer greedy xs (only_if (least == 0) i g))
      (while-same most _ _ i g
      (flat_map-same _ _ (λ x. (i ≤ x.0) × IsCharBoundary s x.0) (body i g) (goes i g c)
      (λ x p. turn-same (x.0 == i) _ _ x.0 x.1
      (λ e. let ne = apart i x.0 e in let le = p.0 in let fits = (p.1).0 in let here = c.0 in
      turns-enough greedy n m (least - 1) (option_map (λ k. k - 1) most) x.0 x.1 p.1 (omega arith) (omega arith)))))

pub turns_enough : TurnsEnough
turns_enough s body greedy n m least most i g u c a b =
    turns-enough s (matches s body) (λ j h d. matches-forward s u body j h d) greedy n m least most i g c a b
