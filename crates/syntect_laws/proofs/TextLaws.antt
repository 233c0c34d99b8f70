-- Whole texts, and places where lines begin.
use Rattle.std.proofs.Common.{◌≡◌, ℕ, zero, suc, ◌<◌, ◌≤◌, ◌==◌, Bool, true, false, ◌||◌, ◌&&◌, List, [], ◌∷◌, ◌++◌, length, drop, Some, None, refl, ◌∙◌, arith, append-nil, one-add, length-append, inl, inr}
use Rattle.std.specs.Prelude.{slice_index}
use Rattle.std.specs.List.{prefix_len}
use Rattle.std.proofs.lemmas.Bool.{cases_Bool}
use Rattle.std.proofs.lemmas.Bool.Decides.{nat_tests}
use Rattle.syntect_yaml.specs.Node.{Node}
use Rattle.syntect_yaml.specs.Lines.{Rest, Cursor, is_space, is_white, is_line_of, is_marker, unmarked, indented, line_tail, seek, next, next_line}
use Rattle.syntect_yaml.specs.Scalars.{after_colon}
use Rattle.syntect_yaml.specs.Blocks.{block}
use Rattle.syntect_yaml.specs.Yaml.{begin, deepest, value_of, unmasked, yaml_of}
use Rattle.syntect_yaml.proofs.BlockLaws.{block_part}
use Rattle.syntect_yaml.proofs.PlaceLaws.{seek_stands}
use Rattle.syntect_laws.specs.Literal.{indent}
use Rattle.syntect_laws.specs.Flow.{flow_text}
use Rattle.syntect_laws.specs.YamlLaws.{Fits, nesting}
use Rattle.syntect_laws.proofs.ScalarLaws.{Begins}
use Rattle.syntect_laws.proofs.GapLaws.{opens_value, ends_gap, tail_here}
use Rattle.syntect_laws.proofs.PartLaws.{value_begins}
use Rattle.syntect_laws.proofs.LineLaws.{LineEnds, Signs, starts, inline_read}
use Rattle.syntect_laws.specs.YamlTexts.{Style}

-- the first bytes of values over lines
abbrev pub opens_line : ℕ → Bool
opens_line c = opens_value c || c == 124

value_line : (c : ℕ) → opens_value c ≡ true → opens_line c ≡ true
value_line c h = rw h

pub line_stands : (c : ℕ) → opens_line c ≡ true → ends_gap c ≡ true
line_stands c h = grind (arith, nat_tests)

-- a node begins here: with such a byte, and not with three minuses
pub record Opens (t : Rest) : Type 0 where
  pub byte : ℕ
  pub more : List ℕ
  pub is : t ≡ byte ∷ more
  pub passes : opens_line byte ≡ true
  pub bare : is_line_of 45 (byte ∷ more) ≡ false

no_line_of : (mark c : ℕ) (more : List ℕ) → ((c == mark) && (slice_index more 0 == mark)) ≡ false → is_line_of mark (c ∷ more) ≡ false
no_line_of mark c more e = rw e

no_dashes : (c : ℕ) (more : List ℕ) → Signs c more → is_line_of 45 (c ∷ more) ≡ false
no_dashes c more h =
    elim (cases_Bool (c == 45)) [
      | inl dash ↦
          let is : c ≡ 45 = grind (arith, nat_tests) in
          let digit : 48 ≤ slice_index more 0 = h is in
          let other : (slice_index more 0 == 45) ≡ false = grind (arith, nat_tests) in
          no_line_of 45 c more (rw (dash, other))
      | inr other ↦ no_line_of 45 c more (rw other)
    ]

no_dots : (c : ℕ) (more : List ℕ) → opens_line c ≡ true → is_line_of 46 (c ∷ more) ≡ false
no_dots c more h = let other : (c == 46) ≡ false = grind (arith, nat_tests) in no_line_of 46 c more (rw other)

pub begins_opens : (t : Rest) → Begins opens_value t → Opens t
begins_opens t b = record { byte = b.byte; more = b.more; is = b.is; passes = value_line b.byte b.passes; bare = no_dashes b.byte b.more b.signed }

no_marker : (c : ℕ) (more : List ℕ) → opens_line c ≡ true → is_line_of 45 (c ∷ more) ≡ false → is_marker (c ∷ more) ≡ false
unfolding is_marker
no_marker c more h bare = rw (bare, no_dots c more h)

-- ---- a whole text

begin_at : (c : ℕ) (more : List ℕ) → opens_line c ≡ true → is_line_of 45 (c ∷ more) ≡ false → begin (suc (length (c ∷ more))) false (c ∷ more) ≡ Some (record { column = 0; rest = c ∷ more })
unfolding begin seek indented unmarked
begin_at c more h bare =
    let dark : (c == 32) ≡ false = grind (arith, nat_tests) in
    let no_tab : (c == 9) ≡ false = grind (arith, nat_tests) in
    let percent : (c == 37) ≡ false = grind (arith, nat_tests) in
    rw (tail_here true c more (line_stands c h), dark, no_tab, percent, bare, no_marker c more h bare)

begin_here : (t : Rest) → Opens t → begin (suc (length t)) false t ≡ Some (record { column = 0; rest = t })
begin_here t b = rw b.is (begin_at b.byte b.more b.passes b.bare)

no_byte_mark : (t : Rest) → Opens t → unmasked t ≡ t
unfolding unmasked
no_byte_mark t b = let word = b.passes in let other : (b.byte == 0xEF) ≡ false = grind (arith, nat_tests) in rw (b.is, other)

pub some_text : (t : Rest) → Opens t → (length t == 0) ≡ false
some_text t b = rw b.is (grind (arith, nat_tests))

-- a text whose one node is found
pub value_found : (t : Rest) (v : Node) → Opens t → block deepest 0 (record { column = 0; rest = t }) ≡ Some (v, record { column = 0; rest = [] }) → yaml_of t ≡ Some (Some v)
unfolding value_of
value_found t v b e = rw (no_byte_mark t b, begin_here t b, some_text t b, e)

text_ends : LineEnds [] (record { column = 0; rest = [] })
unfolding after_colon line_tail seek unmarked is_marker next next_line
text_ends = record { ends = refl; no_colon = refl; below = refl }

-- ---- lines

pub feed_ends : (t : Rest) (p : Cursor) → next t ≡ Some p → LineEnds (10 ∷ t) p
unfolding after_colon line_tail next_line
feed_ends t p e =
    let some : (length (10 ∷ t) == 0) ≡ false = grind (arith, nat_tests) in
    record { ends = rw some; no_colon = refl; below = rw (some, e) }

pub spaces_len : (test : ℕ → Bool) (n c : ℕ) (t : Rest) → test 32 ≡ true → test c ≡ false → prefix_len test (indent n ++ (c ∷ t)) ≡ n
spaces_len test zero c t h e = rw e
spaces_len test (suc n) c t h e = rw (h, spaces_len test n c t h e, one-add)

pub behind_spaces : (n : ℕ) (t : Rest) → drop n (indent n ++ t) ≡ t
behind_spaces zero t = refl
behind_spaces (suc n) t = behind_spaces n t

byte_behind : (n c : ℕ) (t : Rest) → slice_index (indent n ++ (c ∷ t)) n ≡ c
byte_behind zero c t = refl
byte_behind (suc n) c t = byte_behind n c t

tail_indented : (n c : ℕ) (t : Rest) → ends_gap c ≡ true → line_tail true (indent n ++ (c ∷ t)) ≡ None
unfolding line_tail
tail_indented n c t h =
    let dark : is_white c ≡ false = grind (arith, nat_tests) in
    let some : (length (c ∷ t) == 0) ≡ false = grind (arith, nat_tests) in
    let feed : (c == 10) ≡ false = grind (arith, nat_tests) in
    let return : (c == 13) ≡ false = grind (arith, nat_tests) in
    let comment : (c == 35) ≡ false = grind (arith, nat_tests) in
    rw (spaces_len is_white n c t refl dark, behind_spaces n (c ∷ t), byte_behind n c t, some, feed, return, comment)

place_indented : (n c : ℕ) (t : Rest) → ends_gap c ≡ true → indented (indent n ++ (c ∷ t)) ≡ Some (record { column = n; rest = c ∷ t })
unfolding indented
place_indented n c t h =
    let dark : is_space c ≡ false = grind (arith, nat_tests) in
    let no_tab : (c == 9) ≡ false = grind (arith, nat_tests) in
    rw (spaces_len is_space n c t refl dark, behind_spaces n (c ∷ t), byte_behind n c t, no_tab)

never : (b : Bool) → (b && false) ≡ false
never true = refl
never false = refl

found_at : (n c : ℕ) (t : Rest) → opens_line c ≡ true → is_line_of 45 (c ∷ t) ≡ false → next (indent n ++ (c ∷ t)) ≡ Some (record { column = n; rest = c ∷ t })
unfolding next unmarked
found_at n c t h bare =
    let line : Rest = indent n ++ (c ∷ t) in
    let some : 0 < length line = omega (arith, length-append (indent n) (c ∷ t)) in
    let stand : ends_gap c ≡ true = line_stands c h in
    let marked : (n == 0 && is_marker (c ∷ t)) ≡ false = rw (no_marker c t h bare) (never (n == 0)) in
    rw (seek_stands (suc (length line)) line (omega arith) some (tail_indented n c t stand), place_indented n c t stand, marked)

-- a node after spaces at a line's start
pub node_below : (n : ℕ) (t : Rest) → Opens t → next (indent n ++ t) ≡ Some (record { column = n; rest = t })
node_below n t b = rw b.is (found_at n b.byte b.more b.passes b.bare)

module _ (style : List ℕ → Style) where
  pub line_read : (v : Node) → Fits v → nesting v ≤ deepest → yaml_of (flow_text style v) ≡ Some (Some v)
  line_read v fits deep =
      let place : Cursor = record { column = 0; rest = flow_text style v ++ [] } in
      let alone : block deepest 0 place ≡ Some (v, record { column = 0; rest = [] }) =
      block_part deepest 0 place (omega arith) (starts style v [] _ fits text_ends) ∙ inline_read style v deepest 0 [] _ fits deep text_ends
      in
      value_found (flow_text style v) v (begins_opens (flow_text style v) (value_begins style v fits)) (rw append-nil at alone)
