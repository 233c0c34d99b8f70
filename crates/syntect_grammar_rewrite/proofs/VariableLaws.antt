-- Variables that are looked up, and those that are left out.
use Rattle.std.proofs.Common.{◌≡◌, ◌⊎◌, ℕ, ◌<◌, ◌≤◌, Bool, true, false, cond, List, [], ◌∷◌, length, Option, Some, None, refl, sym, ap, ◌∙◌, inl, inr, arith}
use Rattle.std.proofs.lemmas.Bool.{true≢false, false≢true}
use Rattle.std.proofs.lemmas.Slice.Eq.{bytes_eq-Decides}
use Rattle.std.proofs.lemmas.Map.Text.{is_eq-slice_cmp}
use Rattle.std.specs.BTreeMap.{is_at}
use Rattle.std.specs.Cmp.Lexicographic.{slice_cmp}
use Rattle.std.specs.Ordering.{nat_cmp}
use Rattle.std.specs.List.{list_any}
use Rattle.std.specs.Map.{lookup}
use Rattle.std.specs.Borrow.{Bor}
use Rattle.std.specs.Option.{option_map, option_copied}
use Rattle.std.specs.Str.{bytes_eq}
use Rattle.syntect_grammar_rewrite.specs.Variables.{Variables, without}
use Rattle.syntect_grammar_rewrite.specs.declared.expand.Frame.{Frame}
use Rattle.syntect_grammar_rewrite.specs.Expanding.{inner}

pub cases : (b : Bool) → (b ≡ true) ⊎ (b ≡ false)
cases true = inl refl
cases false = inr refl

pub without-le : (name : List ℕ) (vs : Variables) → length (without name vs) ≤ length vs
without-le name [] = omega arith
without-le name (v ∷ vs) = elim (cases (bytes_eq name v.0)) [
  | inl e ↦ rw e (omega (arith, without-le name vs))
  | inr e ↦ rw e (omega (arith, without-le name vs))
]

-- without a variable that there is there are fewer
pub without-lt : (name text : List ℕ) (vs : Variables) → lookup (bytes_eq name) vs ≡ Some text → length (without name vs) < length vs
without-lt name text [] e = cc
without-lt name text (v ∷ vs) e = elim (cases (bytes_eq name v.0)) [
  | inl b ↦ rw b (omega (arith, without-le name vs))
  | inr b ↦ let f = rw b at e in rw b (omega (arith, without-lt name text vs f))
]

pub same_text : (a b : List ℕ) → bytes_eq a b ≡ true → a ≡ b
same_text a b e = (bytes_eq-Decides a b).0 e

is_itself : (a : List ℕ) → bytes_eq a a ≡ true
is_itself a = (bytes_eq-Decides a a).1 refl

-- one that is left out and another
apart : (a b c : List ℕ) → bytes_eq a b ≡ true → bytes_eq a c ≡ false → bytes_eq c b ≡ false
apart a b c e f = elim (cases (bytes_eq c b)) [
  | inl g ↦ absurd (true≢false (sym ((bytes_eq-Decides a c).1 (same_text a b e ∙ sym (same_text c b g))) ∙ f))
  | inr g ↦ g
]

same_too : (a b c : List ℕ) → bytes_eq a c ≡ true → bytes_eq c b ≡ bytes_eq a b
same_too a b c e = ap (λ (x : List ℕ). bytes_eq x b) (sym (same_text a c e))

pub lookup-without : (gone name : List ℕ) (vs : Variables) → lookup (bytes_eq name) (without gone vs) ≡ cond (bytes_eq gone name) None (lookup (bytes_eq name) vs)
lookup-without gone name [] = elim (cases (bytes_eq gone name)) [ inl e ↦ rw e refl | inr e ↦ rw e refl ]
lookup-without gone name (v ∷ vs) = elim (cases (bytes_eq gone name)) [
  | inl same ↦ elim (cases (bytes_eq gone v.0)) [
    | inl e ↦ let more : lookup (bytes_eq name) (without gone vs) ≡ None = lookup-without gone name vs ∙ ap (λ (b : Bool). cond b None (lookup (bytes_eq name) vs)) same in rw (e, same) more
    | inr e ↦
        let more : lookup (bytes_eq name) (without gone vs) ≡ None = lookup-without gone name vs ∙ ap (λ (b : Bool). cond b None (lookup (bytes_eq name) vs)) same in
        let other : bytes_eq name v.0 ≡ false = same_too gone v.0 name same ∙ e in
        rw (e, same, other) more
  ]
  | inr far ↦ elim (cases (bytes_eq gone v.0)) [
    | inl e ↦
        let more : lookup (bytes_eq name) (without gone vs) ≡ lookup (bytes_eq name) vs = lookup-without gone name vs ∙ ap (λ (b : Bool). cond b None (lookup (bytes_eq name) vs)) far in
        let other : bytes_eq name v.0 ≡ false = apart gone v.0 name e far in
        rw (e, far, other) more
    | inr e ↦
        let more : lookup (bytes_eq name) (without gone vs) ≡ lookup (bytes_eq name) vs = lookup-without gone name vs ∙ ap (λ (b : Bool). cond b None (lookup (bytes_eq name) vs)) far in
        rw (e, far) (ap (λ o. cond (bytes_eq name v.0) (Some v.1) o) more)
  ]
]

pub turned : (a b : List ℕ) → bytes_eq a b ≡ bytes_eq b a
turned a b = elim (cases (bytes_eq a b)) [
  | inl e ↦ e ∙ sym ((bytes_eq-Decides b a).1 (sym (same_text a b e)))
  | inr e ↦ elim (cases (bytes_eq b a)) [
    | inl f ↦ absurd (true≢false (sym ((bytes_eq-Decides a b).1 (sym (same_text b a f))) ∙ e))
    | inr f ↦ e ∙ sym f
  ]
]

either : (b : Bool) (o : Option (List ℕ)) → o ≡ None → cond b None o ≡ None
either true o e = refl
either false o e = e

absent : (name : List ℕ) (vs : Variables) (fs : List Frame) → lookup (bytes_eq name) vs ≡ None → lookup (bytes_eq name) (inner vs fs) ≡ None
absent name vs [] e = e
absent name vs (f ∷ fs) e = absent name (without f.name vs) fs (lookup-without f.name name vs ∙ either (bytes_eq f.name name) (lookup (bytes_eq name) vs) e)

pub open_none : (name : List ℕ) (vs : Variables) (fs : List Frame) → list_any (λ f. bytes_eq f.name name) fs ≡ true → lookup (bytes_eq name) (inner vs fs) ≡ None
open_none name vs [] e = absurd (false≢true e)
open_none name vs (f ∷ fs) e = elim (cases (bytes_eq f.name name)) [
  | inl b ↦ absent name (without f.name vs) fs (lookup-without f.name name vs ∙ ap (λ (x : Bool). cond x None (lookup (bytes_eq name) vs)) b)
  | inr b ↦ let g = rw b at e in open_none name (without f.name vs) fs g
]

pub closed_same : (name : List ℕ) (vs : Variables) (fs : List Frame) → list_any (λ f. bytes_eq f.name name) fs ≡ false → lookup (bytes_eq name) (inner vs fs) ≡ lookup (bytes_eq name) vs
closed_same name vs [] e = refl
closed_same name vs (f ∷ fs) e = elim (cases (bytes_eq f.name name)) [
  | inl b ↦ let g : true ≡ false = rw b at e in absurd (true≢false g)
  | inr b ↦ let g = rw b at e in closed_same name (without f.name vs) fs g ∙ lookup-without f.name name vs ∙ ap (λ (x : Bool). cond x None (lookup (bytes_eq name) vs)) b
]

-- a look-up by the order of texts
pub lookup_by_order : {X : Type 0} (name : List ℕ) (vs : List (List ℕ × X)) → lookup (is_at (slice_cmp nat_cmp name)) vs ≡ lookup (bytes_eq name) vs
lookup_by_order name [] = refl
lookup_by_order name (v ∷ vs) =
    ap (λ (b : Bool). cond b (Some v.1) (lookup (is_at (slice_cmp nat_cmp name)) vs)) (is_eq-slice_cmp name v.0)
    ∙ ap (λ o. cond (bytes_eq name v.0) (Some v.1) o) (lookup_by_order name vs)

pub copied : (o : Option (Bor (List ℕ))) → option_map (λ v. v.now) o ≡ option_copied o
copied None = refl
copied (Some v) = refl
