-- Keys that differ from those found.
use Rattle.std.proofs.Common.{◌≡◌, ℕ, Bool, true, false, List, refl, sym, ◌∙◌, bytes_eq}
use Rattle.std.specs.Cmp.{int_eq_equiv}
use Rattle.std.proofs.lemmas.Bool.Decides.{same_from_decides, Decides-like}
use Rattle.std.proofs.lemmas.Slice.Eq.{bytes_eq-Decides}
use Rattle.syntect_yaml.specs.Node.{Node, Entries, no_entries, entry, push_entry, same_scalar, has_key}
use Rattle.syntect_yaml.specs.declared.value.Scalar.{Scalar}
use Rattle.syntect_yaml.specs.declared.value.Scalar.TheVariants.{Text, Number, Truth, Null}
use Rattle.syntect_yaml.proofs.KeyLaws.{has_key-push_entry}
use Rattle.syntect_laws.proofs.PlainLaws.{neither}

-- no key of the second is one of the first
abbrev pub Apart : Entries → Entries → Type 0
Apart found no_entries = Unit {0}
Apart found (entry k v es) = (has_key k found ≡ false) × Apart found es

pub apart_none : (es : Entries) → Apart no_entries es
apart_none no_entries = tt
apart_none (entry k v es) = (refl, apart_none es)

texts_turned : (s t : List ℕ) → bytes_eq s t ≡ bytes_eq t s
texts_turned s t = same_from_decides (bytes_eq s t) (bytes_eq t s) (bytes_eq-Decides s t) (Decides-like (bytes_eq t s) sym sym (bytes_eq-Decides t s))

truths_turned : (a b : Bool) → same_scalar (Truth a) (Truth b) ≡ same_scalar (Truth b) (Truth a)
truths_turned true true = refl
truths_turned true false = refl
truths_turned false true = refl
truths_turned false false = refl

pub turned : (a b : Scalar) → same_scalar a b ≡ same_scalar b a
turned (Text s) (Text t) = texts_turned s t
turned (Number x) (Number y) = int_eq_equiv.symm x y
turned (Truth a) (Truth b) = truths_turned a b
turned Null Null = refl
turned (Text s) (Number y) = refl
turned (Text s) (Truth b) = refl
turned (Text s) Null = refl
turned (Number x) (Text t) = refl
turned (Number x) (Truth b) = refl
turned (Number x) Null = refl
turned (Truth a) (Text t) = refl
turned (Truth a) (Number y) = refl
turned (Truth a) Null = refl
turned Null (Text t) = refl
turned Null (Number y) = refl
turned Null (Truth b) = refl

pub apart_more : (found : Entries) (k : Scalar) (v : Node) (es : Entries) → has_key k es ≡ false → Apart found es → Apart (push_entry found k v) es
apart_more found k v no_entries new apart = tt
apart_more found k v (entry l w es) new apart =
    let parts = neither (same_scalar l k) (has_key k es) new in
    (has_key-push_entry l found k v ∙ rw (turned k l, parts.0) apart.0, apart_more found k v es parts.1 apart.1)
