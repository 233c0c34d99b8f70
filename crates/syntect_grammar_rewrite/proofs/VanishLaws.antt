-- Uses of variables that stand for nothing.
use Rattle.std.proofs.Common.{◌≡◌, ℕ, zero, suc, ◌<◌, Bool, true, cond, List, [], ◌∷◌, ◌++◌, length, Option, Some, None, refl, sym, ap, ◌∙◌, inl, inr, subst, arith}
use Rattle.std.proofs.lemmas.List.Elements.{All-head, All-tail, All-weaker, All-nil}
use Rattle.std.proofs.lemmas.Map.Views.{All-keys-insert_entry}
use Rattle.std.specs.Prelude.{flat_map}
use Rattle.std.specs.Map.{lookup, keys_of}
use Rattle.std.specs.BTreeMap.{insert_entry, is_at}
use Rattle.std.specs.Option.{option_copied, is_some}
use Rattle.std.specs.Borrow.{Bor}
use Rattle.std.proofs.lemmas.Bool.{false≢true}
use Rattle.std.specs.Cmp.Lexicographic.{slice_cmp}
use Rattle.std.specs.Ordering.{nat_cmp}
use Rattle.std.specs.Str.{bytes_eq}
use Rattle.syntect_grammar_rewrite.specs.Cutting.{parts}
use Rattle.syntect_grammar_rewrite.specs.Variables.{Variables, Part, itself, use_of, part_len, part, without, value_by, written_by, expanded_within, expanded}
use Rattle.syntect_grammar_rewrite.specs.Marking.{marked_value, marked}
use Rattle.syntect_grammar_rewrite.specs.Expanding.{Vanishes, AllVanish}
use Rattle.syntect_grammar_rewrite.proofs.VariableLaws.{cases, same_text, without-le, lookup-without, lookup_by_order}
use Rattle.syntect_grammar_rewrite.proofs.ExpandLaws.{plain_within, without_mark, room}

both-nil : (a b : List ℕ) → a ++ b ≡ [] → (a ≡ []) × (b ≡ [])
both-nil [] b e = (refl, e)
both-nil (x ∷ a) b e = cc

flat-nil : (f g : Part → List ℕ) → ((p : Part) → f p ≡ [] → g p ≡ []) → (ps : List Part) → flat_map f ps ≡ [] → flat_map g ps ≡ []
flat-nil f g h [] e = refl
flat-nil f g h (p ∷ ps) e =
    let two = both-nil (f p) (flat_map f ps) e in
    ap (λ (x : List ℕ). x ++ flat_map g ps) (h p two.0) ∙ flat-nil f g h ps two.1

without-turned : (a b : List ℕ) (vs : Variables) → without a (without b vs) ≡ without b (without a vs)
without-turned a b [] = refl
without-turned a b (v ∷ vs) = elim (cases (bytes_eq a v.0)) [
  | inl e ↦ elim (cases (bytes_eq b v.0)) [
    | inl f ↦ rw (e, f) (without-turned a b vs)
    | inr f ↦ rw (e, f, e) (without-turned a b vs)
  ]
  | inr e ↦ elim (cases (bytes_eq b v.0)) [
    | inl f ↦ rw (e, f) (without-turned a b vs)
    | inr f ↦ rw (e, f, e) (ap (λ ws. v ∷ ws) (without-turned a b vs))
  ]
]

-- ---- with a smaller bound

less-value : (n : ℕ) (vs : Variables) (name : List ℕ) (o : Option (List ℕ)) → ((us : Variables) (t : List ℕ) → expanded_within (suc n) us t ≡ [] → expanded_within n us t ≡ []) → value_by (expanded_within (suc n)) vs name o ≡ [] → value_by (expanded_within n) vs name o ≡ []
less-value n vs name None h e = refl
less-value n vs name (Some text) h e = h (without name vs) text e

less-part : (n : ℕ) (vs : Variables) → ((us : Variables) (t : List ℕ) → expanded_within (suc n) us t ≡ [] → expanded_within n us t ≡ []) → (p : Part) → written_by (expanded_within (suc n)) vs p ≡ [] → written_by (expanded_within n) vs p ≡ []
less-part n vs h (itself c) e = e
less-part n vs h (use_of name) e = less-value n vs name (lookup (bytes_eq name) vs) h e

less : (n : ℕ) (vs : Variables) (t : List ℕ) → expanded_within (suc n) vs t ≡ [] → expanded_within n vs t ≡ []
less zero vs t e = refl
less (suc n) vs t e = flat-nil (written_by (expanded_within (suc n)) vs) (written_by (expanded_within n) vs) (less-part n vs (less n)) (parts part_len part t) e

-- ---- without a variable more what stands for nothing still does

fewer-some : (n : ℕ) (gone : List ℕ) (vs : Variables) (name : List ℕ) (o : Option (List ℕ)) → ((us : Variables) (t : List ℕ) → expanded_within n us t ≡ [] → expanded_within n (without gone us) t ≡ []) → value_by (expanded_within n) vs name o ≡ [] → value_by (expanded_within n) (without gone vs) name o ≡ []
fewer-some n gone vs name None h e = refl
fewer-some n gone vs name (Some text) h e = ap (λ us. expanded_within n us text) (without-turned name gone vs) ∙ h (without name vs) text e

fewer-value : (n : ℕ) (gone : List ℕ) (vs : Variables) (name : List ℕ) → ((us : Variables) (t : List ℕ) → expanded_within n us t ≡ [] → expanded_within n (without gone us) t ≡ []) → value_by (expanded_within n) vs name (lookup (bytes_eq name) vs) ≡ [] → value_by (expanded_within n) (without gone vs) name (lookup (bytes_eq name) (without gone vs)) ≡ []
fewer-value n gone vs name h e =
    ap (value_by (expanded_within n) (without gone vs) name) (lookup-without gone name vs)
    ∙ elim (cases (bytes_eq gone name)) [
      | inl b ↦ rw b refl
      | inr b ↦ rw b (fewer-some n gone vs name (lookup (bytes_eq name) vs) h e)
    ]

fewer-part : (n : ℕ) (gone : List ℕ) (vs : Variables) → ((us : Variables) (t : List ℕ) → expanded_within n us t ≡ [] → expanded_within n (without gone us) t ≡ []) → (p : Part) → written_by (expanded_within n) vs p ≡ [] → written_by (expanded_within n) (without gone vs) p ≡ []
fewer-part n gone vs h (itself c) e = e
fewer-part n gone vs h (use_of name) e = fewer-value n gone vs name h e

fewer : (n : ℕ) (gone : List ℕ) (vs : Variables) (t : List ℕ) → expanded_within n vs t ≡ [] → expanded_within n (without gone vs) t ≡ []
fewer zero gone vs t e = refl
fewer (suc n) gone vs t e =
    flat-nil (written_by (expanded_within n) vs) (written_by (expanded_within n) (without gone vs)) (fewer-part n gone vs (fewer n gone)) (parts part_len part t) e

-- ---- with a variable more, whose use stands for nothing, what stands for nothing still does

abbrev Back : ℕ → List ℕ → Type 0
Back n more = (us : Variables) (t : List ℕ) → value_by (expanded_within n) us more (lookup (bytes_eq more) us) ≡ [] → expanded_within n (without more us) t ≡ [] → expanded_within n us t ≡ []

more-some : (n : ℕ) (more : List ℕ) (vs : Variables) (name : List ℕ) (o : Option (List ℕ)) → Back n more → value_by (expanded_within n) vs more (lookup (bytes_eq more) vs) ≡ [] → value_by (expanded_within n) (without more vs) name o ≡ [] → value_by (expanded_within n) vs name o ≡ []
more-some n more vs name None h g e = refl
more-some n more vs name (Some text) h g e =
    h (without name vs) text (fewer-value n name vs more (fewer n name) g) (ap (λ us. expanded_within n us text) (without-turned more name vs) ∙ e)

more-value : (n : ℕ) (more : List ℕ) (vs : Variables) (name : List ℕ) → Back n more → value_by (expanded_within n) vs more (lookup (bytes_eq more) vs) ≡ [] → value_by (expanded_within n) (without more vs) name (lookup (bytes_eq name) (without more vs)) ≡ [] → value_by (expanded_within n) vs name (lookup (bytes_eq name) vs) ≡ []
more-value n more vs name h g e = elim (cases (bytes_eq more name)) [
  | inl b ↦ subst (λ (x : List ℕ). value_by (expanded_within n) vs x (lookup (bytes_eq x) vs) ≡ []) (same_text more name b) g
  | inr b ↦
      let same : lookup (bytes_eq name) (without more vs) ≡ lookup (bytes_eq name) vs = lookup-without more name vs ∙ ap (λ (x : Bool). cond x None (lookup (bytes_eq name) vs)) b in
      more-some n more vs name (lookup (bytes_eq name) vs) h g (ap (value_by (expanded_within n) (without more vs) name) (sym same) ∙ e)
]

more-part : (n : ℕ) (more : List ℕ) (vs : Variables) → Back n more → value_by (expanded_within n) vs more (lookup (bytes_eq more) vs) ≡ [] → (p : Part) → written_by (expanded_within n) (without more vs) p ≡ [] → written_by (expanded_within n) vs p ≡ []
more-part n more vs h g (itself c) e = e
more-part n more vs h g (use_of name) e = more-value n more vs name h g e

back : (n : ℕ) (more : List ℕ) (us : Variables) (t : List ℕ) → value_by (expanded_within n) us more (lookup (bytes_eq more) us) ≡ [] → expanded_within n (without more us) t ≡ [] → expanded_within n us t ≡ []
back zero more vs t g e = refl
back (suc n) more vs t g e =
    let low = less-value n vs more (lookup (bytes_eq more) vs) (less n) g in
    flat-nil (written_by (expanded_within n) (without more vs)) (written_by (expanded_within n) vs) (more-part n more vs (back n more) low) (parts part_len part t) e

-- ---- with a bound that has no effect

any_room : (n : ℕ) (vs : Variables) (t : List ℕ) → length vs < n → expanded_within n vs t ≡ expanded vs t
unfolding expanded
any_room n vs t h = sym (plain_within n vs t) ∙ room [] n (suc (length vs)) vs t h (omega arith) ∙ plain_within (suc (length vs)) vs t

value_room : (n : ℕ) (vs : Variables) (name : List ℕ) (o : Option (List ℕ)) → length vs < n → value_by (expanded_within n) vs name o ≡ value_by expanded vs name o
value_room n vs name None h = refl
value_room n vs name (Some text) h = any_room n (without name vs) text (omega (arith, without-le name vs))

-- a use that stands for nothing does so without a variable more
pub vanishes-fewer : (gone : List ℕ) (vs : Variables) (name : List ℕ) → Vanishes vs name → Vanishes (without gone vs) name
vanishes-fewer gone vs name e =
    let n = suc (length vs) in
    sym (value_room n (without gone vs) name (lookup (bytes_eq name) (without gone vs)) (omega (arith, without-le gone vs)))
    ∙ fewer-value n gone vs name (fewer n gone) (value_room n vs name (lookup (bytes_eq name) vs) (omega arith) ∙ e)

-- a use that stands for nothing without a variable does so with it, if the use of that one stands
-- for nothing
pub vanishes-more : (more : List ℕ) (vs : Variables) (name : List ℕ) → Vanishes vs more → Vanishes (without more vs) name → Vanishes vs name
vanishes-more more vs name g e =
    let n = suc (length vs) in
    sym (value_room n vs name (lookup (bytes_eq name) vs) (omega arith))
    ∙ more-value n more vs name (back n more) (value_room n vs more (lookup (bytes_eq more) vs) (omega arith) ∙ g)
    (value_room n (without more vs) name (lookup (bytes_eq name) (without more vs)) (omega (arith, without-le more vs)) ∙ e)

pub marked-value : (vs : Variables) (name : List ℕ) (o : Option (List ℕ)) → marked_value [] (marked []) vs name o ≡ value_by expanded vs name o
marked-value vs name None = refl
marked-value vs name (Some text) = without_mark (without name vs) text

-- ---- those that are remembered

pub known-vanishes : (us : Variables) (known : List (List ℕ × Bool)) (name : List ℕ) (b : Bool) → AllVanish us known → lookup (bytes_eq name) known ≡ Some b → Vanishes us name
known-vanishes us [] name b all e = cc
known-vanishes us (k ∷ ks) name b all e = elim (cases (bytes_eq name k.0)) [
  | inl s ↦ subst (Vanishes us) (sym (same_text name k.0 s)) (All-head (Vanishes us) _ _ all)
  | inr s ↦ let f = rw s at e in known-vanishes us ks name b (All-tail (Vanishes us) _ _ all) f
]

pub known-found : (known : List (List ℕ × Bool)) (name : List ℕ) (o : Option (Bor Bool)) → option_copied o ≡ lookup (is_at (slice_cmp nat_cmp name)) known → is_some o ≡ true → (us : Variables) → AllVanish us known → Vanishes us name
known-found known name None e s us all = absurd (false≢true s)
known-found known name (Some b) e s us all = known-vanishes us known name b.now all (sym (lookup_by_order name known) ∙ sym e)

pub all-fewer : (gone : List ℕ) (us : Variables) (known : List (List ℕ × Bool)) → AllVanish us known → AllVanish (without gone us) known
all-fewer gone us known all = All-weaker (Vanishes us) (Vanishes (without gone us)) (vanishes-fewer gone us) (keys_of known) all

pub all-more : (name : List ℕ) (us : Variables) (known later : List (List ℕ × Bool)) (b : Bool) → later ≡ insert_entry (slice_cmp nat_cmp) known name b → Vanishes us name → AllVanish (without name us) known → AllVanish us later
all-more name us known later b e v all =
    subst (AllVanish us) (sym e) (All-keys-insert_entry (slice_cmp nat_cmp) name b (Vanishes us) known (All-weaker (Vanishes (without name us)) (Vanishes us) (λ x. vanishes-more name us x v) (keys_of known) all) v)

pub all-none : (us : Variables) (known : List (List ℕ × Bool)) → known ≡ [] → AllVanish us known
all-none us known e = subst (AllVanish us) (sym e) (All-nil (Vanishes us))
