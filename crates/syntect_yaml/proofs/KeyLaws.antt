-- Keys that were found, in a set and in a map.
use Rattle.std.proofs.Common.{◌≡◌, ℕ, Bool, true, false, ◌||◌, not, cond, List, [], ◌∷◌, refl, sym, ap, ◌∙◌}
use Rattle.std.proofs.lemmas.Bool.{true≢false, false≢true}
use Rattle.std.proofs.lemmas.Cmp.{nat_list_cmp_total}
use Rattle.std.proofs.lemmas.Map.Text.{is_eq-slice_cmp}
use Rattle.std.specs.BTreeSet.{contains, BTreeSet}
use Rattle.std.specs.Cmp.{int_eq_equiv, eq_by_cmp_equiv}
use Rattle.std.specs.Ordering.{is_eq}
use Rattle.std.specs.List.{list_any}
use Rattle.std.specs.Str.{bytes_eq}
use Rattle.syntect_yaml.specs.contracts.value.ScalarOrd.TheImpl.{cmp-value}
use Rattle.syntect_yaml.specs.declared.value.Scalar.{Scalar}
use Rattle.syntect_yaml.specs.declared.value.Scalar.TheVariants.{Text, Number, Truth, Null}
use Rattle.syntect_yaml.specs.Node.{Node, Entries, no_entries, entry, push_entry, same_scalar, has_scalar, has_key}

same_text : (s t : List ℕ) → bytes_eq s t ≡ bytes_eq t s
same_text s t = sym (is_eq-slice_cmp s t) ∙ (eq_by_cmp_equiv nat_list_cmp_total).symm s t ∙ is_eq-slice_cmp t s

turned : (a b : Scalar) → same_scalar a b ≡ same_scalar b a
turned (Text s) (Text t) = same_text s t
turned (Text s) (Number y) = refl
turned (Text s) (Truth b) = refl
turned (Text s) Null = refl
turned (Number x) (Text t) = refl
turned (Number x) (Number y) = int_eq_equiv.symm x y
turned (Number x) (Truth b) = refl
turned (Number x) Null = refl
turned (Truth a) (Text t) = refl
turned (Truth a) (Number y) = refl
turned (Truth true) (Truth true) = refl
turned (Truth true) (Truth false) = refl
turned (Truth false) (Truth true) = refl
turned (Truth false) (Truth false) = refl
turned (Truth a) Null = refl
turned Null (Text t) = refl
turned Null (Number y) = refl
turned Null (Truth b) = refl
turned Null Null = refl

-- scalars compare as equal where they are the same
by_order : (a b : Scalar) → is_eq (cmp-value.it a b) ≡ same_scalar a b
by_order (Text s) (Text t) = is_eq-slice_cmp s t
by_order (Text s) (Number y) = refl
by_order (Text s) (Truth b) = refl
by_order (Text s) Null = refl
by_order (Number x) (Text t) = refl
by_order (Number x) (Number y) = refl
by_order (Number x) (Truth b) = refl
by_order (Number x) Null = refl
by_order (Truth a) (Text t) = refl
by_order (Truth a) (Number y) = refl
by_order (Truth true) (Truth true) = refl
by_order (Truth true) (Truth false) = refl
by_order (Truth false) (Truth true) = refl
by_order (Truth false) (Truth false) = refl
by_order (Truth a) Null = refl
by_order Null (Text t) = refl
by_order Null (Number y) = refl
by_order Null (Truth b) = refl
by_order Null Null = refl

in_list : (q : Scalar) (ks : List Scalar) → list_any (λ k. is_eq (cmp-value.it q k)) ks ≡ has_scalar q ks
in_list q [] = refl
in_list q (k ∷ ks) = rw (by_order q k, turned q k, in_list q ks)

-- what a set contains by its order it contains
pub contains_is : (s : BTreeSet Scalar) (q : Scalar) → contains cmp-value.it s q ≡ has_scalar q s.keys
contains_is s q = in_list q s.keys

pub by_order_turned : (k q : Scalar) → is_eq (cmp-value.it k q) ≡ same_scalar k q
by_order_turned = by_order

either : (b : Bool) (c : Bool) → cond b true c ≡ (b || c)
either true c = refl
either false c = refl

pub one_more : (k q : Scalar) (old new : List Scalar) → has_scalar q new ≡ cond (is_eq (cmp-value.it k q)) true (has_scalar q old) → has_scalar q new ≡ (same_scalar k q || has_scalar q old)
one_more k q old new e = e ∙ ap (λ b. cond b true (has_scalar q old)) (by_order k q) ∙ either (same_scalar k q) (has_scalar q old)

swapped : (a b c : Bool) → (a || (b || c)) ≡ (b || (a || c))
swapped true true c = refl
swapped true false c = refl
swapped false true c = refl
swapped false false c = refl

-- a map with one entry more
pub has_key-push_entry : (q : Scalar) (es : Entries) (k : Scalar) (v : Node) → has_key q (push_entry es k v) ≡ (same_scalar k q || has_key q es)
has_key-push_entry q no_entries k v = refl
has_key-push_entry q (entry l w es) k v = ap (λ b. same_scalar l q || b) (has_key-push_entry q es k v) ∙ swapped (same_scalar l q) (same_scalar k q) (has_key q es)

-- a key that could not be added was there, and one that could was not
pub known_key : (new had : Bool) → new ≡ not had → new ≡ false → had ≡ true
known_key new true e f = refl
known_key new false e f = absurd (true≢false (sym e ∙ f))

pub new_key : (new had : Bool) → new ≡ not had → new ≡ true → had ≡ false
new_key new false e f = refl
new_key new true e f = absurd (false≢true (sym e ∙ f))
