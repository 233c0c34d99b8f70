-- A value on one line, where its text stands alone on the line or at its end.
use Rattle.std.proofs.Common.{◌≡◌, ℕ, ◌≤◌, ◌==◌, Bool, true, false, ◌||◌, List, [], ◌∷◌, ◌++◌, length, Some, None, refl, ◌∙◌, arith, inl, inr}
use Rattle.std.specs.Prelude.{slice_index}
use Rattle.std.proofs.lemmas.Bool.{cases_Bool}
use Rattle.std.proofs.lemmas.Bool.Decides.{nat_tests}
use Rattle.syntect_yaml.specs.Node.{Node, scalar, list, map}
use Rattle.syntect_yaml.specs.declared.value.Scalar.{Scalar}
use Rattle.syntect_yaml.specs.Lines.{Rest, Cursor, first, ends_line, next_line}
use Rattle.syntect_yaml.specs.Scalars as scalars
use Rattle.syntect_yaml.specs.Scalars.{begins_plain, ends_plain, plain, after_colon, key}
use Rattle.syntect_yaml.specs.Flow.{flow}
use Rattle.syntect_yaml.specs.Blocks.{begins_item, start, starts_part, flow_or_scalar, inline}
use Rattle.syntect_laws.specs.Flow.{scalar_text, flow_text, items_text, entries_text}
use Rattle.syntect_laws.specs.YamlLaws.{ScalarFits, Fits, nesting}
use Rattle.syntect_laws.proofs.ScalarLaws.{opens_scalar, Begins, begins_more, scalar_begins, scalar_read}
use Rattle.syntect_laws.proofs.GapLaws.{opens_value}
use Rattle.syntect_laws.proofs.PartLaws.{value_begins, value_read}
use Rattle.syntect_laws.specs.YamlTexts.{Style}

-- the line ends here, and a place follows
pub record LineEnds (t : Rest) (p : Cursor) : Type 0 where
  pub ends : ends_line t ≡ true
  pub no_colon : after_colon false t ≡ None
  pub below : next_line t ≡ Some p

stops : (flow : Bool) (t : Rest) → ends_line t ≡ true → ends_plain flow false t ≡ true
unfolding ends_plain
stops flow t e = rw e

-- ---- what begins

-- a minus only before a digit
abbrev pub Signs : ℕ → List ℕ → Type 0
Signs c more = c ≡ 45 → 48 ≤ slice_index more 0

no_dash : (c : ℕ) (more : List ℕ) → Signs c more → begins_item (c ∷ more) ≡ false
unfolding begins_item
no_dash c [] h = elim (cases_Bool (c == 45)) [ inl dash ↦ let is : c ≡ 45 = grind (arith, nat_tests) in absurd (omega (arith, h is)) | inr other ↦ rw other ]
no_dash c (d ∷ more) h =
    elim (cases_Bool (c == 45)) [
      | inl dash ↦
          let is : c ≡ 45 = grind (arith, nat_tests) in
          let digit : 48 ≤ d = h is in
          let some : (length (d ∷ more) == 0) ≡ false = grind (arith, nat_tests) in
          let feed : (d == 10) ≡ false = grind (arith, nat_tests) in
          let return : (d == 13) ≡ false = grind (arith, nat_tests) in
          let spaced : (d == 32) ≡ false = grind (arith, nat_tests) in
          rw (dash, some, feed, return, spaced)
      | inr other ↦ rw other
    ]

pub no_item : (t : Rest) → Begins opens_value t → begins_item t ≡ false
no_item t b = rw b.is (no_dash b.byte b.more b.signed)

mark_no_key : (c : ℕ) (t : Rest) → (c == 91 || c == 123) ≡ true → key false (c ∷ t) ≡ None
unfolding key scalars.scalar plain begins_plain
mark_no_key c t e =
    let some : (length (c ∷ t) == 0) ≡ false = grind (arith, nat_tests) in
    elim (cases_Bool (c == 91)) [
      | inl bracket ↦ let is : c ≡ 91 = grind (arith, nat_tests) in rw (is, some)
      | inr other ↦ let is : c ≡ 123 = grind (arith, nat_tests) in rw (is, some)
    ]

-- ---- what is read

no_mark : (t : Rest) → Begins opens_scalar t → (first t == 91 || first t == 123) ≡ false
no_mark t b = let word = b.passes in rw b.is (grind (arith, nat_tests))

mark_part : (depth c : ℕ) (t : Rest) → (c == 91 || c == 123) ≡ true → flow_or_scalar depth (c ∷ t) ≡ flow depth (c ∷ t)
unfolding flow_or_scalar
mark_part depth c t e = rw e

no_bar : (t : Rest) → Begins opens_value t → (first t == 124) ≡ false
no_bar t b = let word = b.passes in rw b.is (grind (arith, nat_tests))

module _ (style : List ℕ → Style) where
  scalar_no_key : (s : Scalar) (t : Rest) (p : Cursor) → ScalarFits s → LineEnds t p → key false (scalar_text style s ++ t) ≡ None
  unfolding key
  scalar_no_key s t p fits e = rw (scalar_read style false s t fits (stops false t e.ends), e.no_colon)

  no_key : (v : Node) (t : Rest) (p : Cursor) → Fits v → LineEnds t p → key false (flow_text style v ++ t) ≡ None
  no_key (scalar s) t p fits e = scalar_no_key s t p fits e
  no_key (list vs) t p fits e = mark_no_key 91 ((items_text style vs ++ (93 ∷ [])) ++ t) refl
  no_key (map es) t p fits e = mark_no_key 123 ((entries_text style es ++ (125 ∷ [])) ++ t) refl

  pub starts : (v : Node) (t : Rest) (p : Cursor) → Fits v → LineEnds t p → start (flow_text style v ++ t) ≡ starts_part
  starts v t p fits e = rw (no_item (flow_text style v ++ t) (begins_more opens_value (flow_text style v) t (value_begins style v fits)), no_key v t p fits e)

  scalar_part : (depth : ℕ) (s : Scalar) (t : Rest) → ScalarFits s → ends_plain false false t ≡ true → flow_or_scalar depth (scalar_text style s ++ t) ≡ Some (scalar s, t)
  unfolding flow_or_scalar
  scalar_part depth s t fits e =
      let b = begins_more opens_scalar (scalar_text style s) t (scalar_begins style s fits) in
      rw (no_mark (scalar_text style s ++ t) b, scalar_read style false s t fits e)

  pub part_read : (v : Node) (depth : ℕ) (t : Rest) → Fits v → nesting v ≤ depth → ends_line t ≡ true → flow_or_scalar depth (flow_text style v ++ t) ≡ Some (v, t)
  part_read (scalar s) depth t fits deep e = scalar_part depth s t fits (stops false t e)
  part_read (list vs) depth t fits deep e = mark_part depth 91 ((items_text style vs ++ (93 ∷ [])) ++ t) refl ∙ value_read style (list vs) depth t fits deep (stops true t e)
  part_read (map es) depth t fits deep e = mark_part depth 123 ((entries_text style es ++ (125 ∷ [])) ++ t) refl ∙ value_read style (map es) depth t fits deep (stops true t e)

  pub inline_read : (v : Node) (depth least : ℕ) (t : Rest) (p : Cursor) → Fits v → nesting v ≤ depth → LineEnds t p → inline depth least (flow_text style v ++ t) ≡ Some (v, p)
  unfolding inline
  inline_read v depth least t p fits deep e =
      let b = begins_more opens_value (flow_text style v) t (value_begins style v fits) in
      rw (no_bar (flow_text style v ++ t) b, part_read v depth t fits deep e.ends, e.below)
