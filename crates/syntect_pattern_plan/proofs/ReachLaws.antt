-- The first member that leads anywhere.
use Rattle.std.proofs.Common.{◌≡◌, ℕ, List, [], ◌∷◌, ◌++◌, map, take, Bool, true, false, Option, Some, None, refl, sym, ap, ◌∙◌}
use Rattle.std.specs.Prelude.{if◌then◌else◌, is_some, option_and_then}
use Rattle.std.specs.List.{flat_map}
use Rattle.std.specs.Option.{option_or}
use Rattle.syntect_pattern_plan.specs.syntect_pattern.Matches.{Member}
use Rattle.syntect_pattern_plan.proofs.syntect_pattern_proofs.Each.{Each}
use Rattle.syntect_pattern_plan.specs.Onward.{Onward, reaches, chosen}

or-assoc : {A : Type 0} (a b c : Option A) → option_or (option_or a b) c ≡ option_or a (option_or b c)
or-assoc None b c = refl
or-assoc (Some x) b c = refl

pub reaches-append : (F : Onward) (xs ys : List Member) → reaches F (xs ++ ys) ≡ option_or (reaches F xs) (reaches F ys)
reaches-append F [] ys = refl
reaches-append F (m ∷ xs) ys = ap (option_or (F m.0)) (reaches-append F xs ys) ∙ sym (or-assoc (F m.0) (reaches F xs) (reaches F ys))

cond-or : {A : Type 0} (b : Bool) (x : A) (o p : Option A) → (if b then Some x else option_or o p) ≡ option_or (if b then Some x else o) p
cond-or true x o p = refl
cond-or false x o p = refl

pub chosen-append : (F : Onward) (xs ys : List Member) → chosen F (xs ++ ys) ≡ option_or (chosen F xs) (chosen F ys)
chosen-append F [] ys = refl
chosen-append F (m ∷ xs) ys =
    ap (λ (o : Option Member). if is_some (F m.0) then Some m else o) (chosen-append F xs ys)
    ∙ cond-or (is_some (F m.0)) m (chosen F xs) (chosen F ys)

-- a member leads on exactly where one is chosen
some-or : (o p : Option ℕ) (m : Member) (q : Option Member) → is_some p ≡ is_some q → is_some (option_or o p) ≡ is_some (if is_some o then Some m else q)
some-or None p m q e = e
some-or (Some x) p m q e = refl

pub some-chosen : (F : Onward) (ms : List Member) → is_some (reaches F ms) ≡ is_some (chosen F ms)
some-chosen F [] = refl
some-chosen F (m ∷ ms) = some-or (F m.0) (reaches F ms) m (chosen F ms) (some-chosen F ms)

-- what it leads to is what the chosen one leads to
end-or : (F : Onward) (o p : Option ℕ) (m : Member) (q : Option Member) → F m.0 ≡ o → p ≡ option_and_then (λ (x : Member). F x.0) q
    → option_or o p ≡ option_and_then (λ (x : Member). F x.0) (if is_some o then Some m else q)
end-or F None p m q e h = h
end-or F (Some x) p m q e h = sym e

pub reaches-chosen : (F : Onward) (ms : List Member) → reaches F ms ≡ option_and_then (λ (x : Member). F x.0) (chosen F ms)
reaches-chosen F [] = refl
reaches-chosen F (m ∷ ms) = end-or F (F m.0) (reaches F ms) m (chosen F ms) refl (reaches-chosen F ms)

-- -- Members that end at the same places

abbrev pub SameEnds : List Member → List Member → Type 0
SameEnds [] [] = Unit {0}
SameEnds [] (n ∷ ns) = ⊥
SameEnds (m ∷ ms) [] = ⊥
SameEnds (m ∷ ms) (n ∷ ns) = (m.0 ≡ n.0) × SameEnds ms ns

pub reaches-ends : (F : Onward) (ms ns : List Member) → SameEnds ms ns → reaches F ms ≡ reaches F ns
reaches-ends F [] [] e = refl
reaches-ends F [] (n ∷ ns) e = absurd e
reaches-ends F (m ∷ ms) [] e = absurd e
reaches-ends F (m ∷ ms) (n ∷ ns) e = ap (λ (j : ℕ). option_or (F j) (reaches F ms)) e.0 ∙ ap (option_or (F n.0)) (reaches-ends F ms ns e.1)

pub ends-append : (ms ns xs ys : List Member) → SameEnds ms ns → SameEnds xs ys → SameEnds (ms ++ xs) (ns ++ ys)
ends-append [] [] xs ys e f = f
ends-append [] (n ∷ ns) xs ys e f = absurd e
ends-append (m ∷ ms) [] xs ys e f = absurd e
ends-append (m ∷ ms) (n ∷ ns) xs ys e f = (e.0, ends-append ms ns xs ys e.1 f)

pub ends-flat_map : (f k : Member → List Member) (ms ns : List Member) → SameEnds ms ns
    → ((m n : Member) → m.0 ≡ n.0 → SameEnds (f m) (k n)) → SameEnds (flat_map f ms) (flat_map k ns)
ends-flat_map f k [] [] e h = tt
ends-flat_map f k [] (n ∷ ns) e h = absurd e
ends-flat_map f k (m ∷ ms) [] e h = absurd e
ends-flat_map f k (m ∷ ms) (n ∷ ns) e h = ends-append (f m) (k n) _ _ (h m n e.0) (ends-flat_map f k ms ns e.1 h)

pub ends-map : (f k : Member → Member) (ms ns : List Member) → SameEnds ms ns
    → ((m n : Member) → m.0 ≡ n.0 → (f m).0 ≡ (k n).0) → SameEnds (map f ms) (map k ns)
ends-map f k [] [] e h = tt
ends-map f k [] (n ∷ ns) e h = absurd e
ends-map f k (m ∷ ms) [] e h = absurd e
ends-map f k (m ∷ ms) (n ∷ ns) e h = (h m n e.0, ends-map f k ms ns e.1 h)

pub ends-take : (ms ns : List Member) → SameEnds ms ns → SameEnds (take 1 ms) (take 1 ns)
ends-take [] [] e = tt
ends-take [] (n ∷ ns) e = absurd e
ends-take (m ∷ ms) [] e = absurd e
ends-take (m ∷ ms) (n ∷ ns) e = (e.0, tt)

-- -- One way after another

-- the way goes on from each member as this says
abbrev pub EachReaches : (Member → Type 0) → Onward → (Member → List Member) → Onward → Type 0
EachReaches P F f G = (m : Member) → P m → reaches F (f m) ≡ G m.0

pub reaches-flat_map : (P : Member → Type 0) (F G : Onward) (f : Member → List Member) (ms : List Member) → Each P ms → EachReaches P F f G
    → reaches F (flat_map f ms) ≡ reaches G ms
reaches-flat_map P F G f [] e h = refl
reaches-flat_map P F G f (m ∷ ms) e h =
    reaches-append F (f m) (flat_map f ms)
    ∙ ap (λ (o : Option ℕ). option_or o (reaches F (flat_map f ms))) (h m e.0)
    ∙ ap (option_or (G m.0)) (reaches-flat_map P F G f ms e.1 h)

none-chosen : (F : Onward) (ms : List Member) → reaches F ms ≡ None → chosen F ms ≡ None
none-chosen F ms e = none (chosen F ms) (sym (some-chosen F ms) ∙ ap is_some e)
  where
    none : (o : Option Member) → is_some o ≡ false → o ≡ None
    none None e = refl
    none (Some m) e = cc

pub chosen-some : (F : Onward) (ms : List Member) → is_some (reaches F ms) ≡ true → (m : Member) × (chosen F ms ≡ Some m)
chosen-some F ms e = some (chosen F ms) (sym (some-chosen F ms) ∙ e)
  where
    some : (o : Option Member) → is_some o ≡ true → (m : Member) × (o ≡ Some m)
    some None e = absurd cc
    some (Some m) e = (m, refl)

or-first : (F : Onward) (ms : List Member) (p : Option Member) → is_some (reaches F ms) ≡ true → option_or (chosen F ms) p ≡ chosen F ms
or-first F ms p e = let c = chosen-some F ms e in ap (λ (o : Option Member). option_or o p) c.1 ∙ sym c.1

pub chosen-flat_map : (P : Member → Type 0) (F G : Onward) (f : Member → List Member) (ms : List Member) (m : Member) → Each P ms → EachReaches P F f G
    → chosen G ms ≡ Some m → chosen F (flat_map f ms) ≡ chosen F (f m)
chosen-flat_map P F G f [] m e h c = cc
chosen-flat_map P F G f (x ∷ ms) m e h c = chosen-append F (f x) (flat_map f ms) ∙ by (chosen-flat_map P F G f ms m e.1 h) (G x.0) refl c
  where
    by : (chosen G ms ≡ Some m → chosen F (flat_map f ms) ≡ chosen F (f m)) → (o : Option ℕ) → G x.0 ≡ o
        → (if is_some o then Some x else chosen G ms) ≡ Some m → option_or (chosen F (f x)) (chosen F (flat_map f ms)) ≡ chosen F (f m)
    by more None g c = ap (λ (o : Option Member). option_or o (chosen F (flat_map f ms))) (none-chosen F (f x) (h x e.0 ∙ g)) ∙ more c
    by more (Some v) g c =
        let same : x ≡ m = cc in
        or-first F (f x) (chosen F (flat_map f ms)) (ap is_some (h x e.0 ∙ g)) ∙ ap (λ (y : Member). chosen F (f y)) same

-- what follows counts only at the ends of members
abbrev pub Alike : (Member → Type 0) → Onward → Onward → Type 0
Alike P F G = (m : Member) → P m → F m.0 ≡ G m.0

pub reaches-alike : (P : Member → Type 0) (F G : Onward) (ms : List Member) → Each P ms → Alike P F G → reaches F ms ≡ reaches G ms
reaches-alike P F G [] e h = refl
reaches-alike P F G (m ∷ ms) e h = ap (λ (o : Option ℕ). option_or o (reaches F ms)) (h m e.0) ∙ ap (option_or (G m.0)) (reaches-alike P F G ms e.1 h)

pub chosen-alike : (P : Member → Type 0) (F G : Onward) (ms : List Member) → Each P ms → Alike P F G → chosen F ms ≡ chosen G ms
chosen-alike P F G [] e h = refl
chosen-alike P F G (m ∷ ms) e h =
    ap (λ (o : Option ℕ). if is_some o then Some m else chosen F ms) (h m e.0)
    ∙ ap (λ (o : Option Member). if is_some (G m.0) then Some m else o) (chosen-alike P F G ms e.1 h)
