-- Texts and their values.
use Rattle.std.proofs.Common.{◌≡◌, [], ◌∷◌, Some, true, pos, neg_ℤ, refl}
use Rattle.std.specs.Prelude.{codes, is_none, unwrap_or, ℤ}
use Rattle.std.specs.List.{list_all}
use Prim.Native.String.{String}
use lib.Utf8.{encode}
use Rattle.syntect_yaml.specs.Node as node
use Rattle.syntect_yaml.specs.Node.{Node, no_items, item, no_entries, entry}
use Rattle.syntect_yaml.specs.declared.value.Scalar.{Scalar}
use Rattle.syntect_yaml.specs.declared.value.Scalar.TheVariants.{Text, Number, Truth, Null}
use Rattle.syntect_yaml.specs.Lines.{line_tail, indented, seek, is_marker, unmarked, next, next_line}
use Rattle.syntect_yaml.specs.Scalars.{begins_plain, ends_plain, plain_len, number_of, kind, plain, single, double, hex_character, escape, scalar, after_colon, key}
use Rattle.syntect_yaml.specs.Literal.{text_column, belongs, line_len, line_text, lines, literal}
use Rattle.syntect_yaml.specs.Flow.{gap, after_part, entry_value, flow, items as flow_items, entries as flow_entries}
use Rattle.syntect_yaml.specs.Blocks.{flow_or_scalar, inline, begins_item, value, item as item_at, items, entries, block}
use Rattle.syntect_yaml.specs.Yaml.{unmasked, begin, value_of, yaml_of}

abbrev text : String → Node
text s = node.scalar (Text (codes s))

abbrev number : ℤ → Node
number z = node.scalar (Number z)

abbrev named : String → Scalar
named s = Text (codes s)

-- texts without a node
pub no_node : list_all (λ s. is_none (unwrap_or (yaml_of (codes s)) (Some (text "")))) ("" ∷ "# x" ∷ "---" ∷ []) ≡ true
unfolding value_of unmasked begin seek line_tail indented next unmarked is_marker
no_node = refl

-- texts without a value
pub no_value : list_all (λ s. is_none (yaml_of (codes s)))
    ("a: 1\na: 1" ∷ "name: a: b" ∷ "a: &x 1" ∷ "a: 1\n..." ∷ "a: 1\n---\nb: 1" ∷ "a: 'b" ∷ "[a" ∷ "{a}" ∷ "[a: b]" ∷ "a: b\n  c" ∷ "a: - b" ∷ "%T\na: 1" ∷ []) ≡ true
unfolding value_of unmasked begin seek line_tail indented next unmarked is_marker next_line begins_plain ends_plain plain_len number_of kind plain single double hex_character escape scalar after_colon key text_column belongs line_len line_text lines literal gap after_part entry_value flow flow_items flow_entries flow_or_scalar inline begins_item value item_at items entries block
no_value = refl

-- a map with a list at its key's column, and a list of maps
pub blocks : yaml_of (codes "a:\n- 1\n- b: x # c\n  c:\nd: ~") ≡ Some (Some (node.map (entry (named "a") (node.list (item (number (pos 1)) (item (node.map (entry (named "b") (text "x") (entry (named "c") (node.scalar Null) no_entries))) no_items))) (entry (named "d") (node.scalar Null) no_entries))))
unfolding value_of unmasked begin seek line_tail indented next unmarked is_marker next_line begins_plain ends_plain plain_len number_of kind plain single double hex_character escape scalar after_colon key text_column belongs line_len line_text lines literal gap after_part entry_value flow flow_items flow_entries flow_or_scalar inline begins_item value item_at items entries block
blocks = refl

-- a flow map over lines
pub flows : yaml_of (codes "{a: [1, 'x''y', {},], # c\n b: true}") ≡ Some (Some (node.map (entry (named "a") (node.list (item (number (pos 1)) (item (text "x'y") (item (node.map no_entries) no_items)))) (entry (named "b") (node.scalar (Truth true)) no_entries))))
unfolding value_of unmasked begin seek line_tail indented next unmarked is_marker next_line begins_plain ends_plain plain_len number_of kind plain single double hex_character escape scalar after_colon key text_column belongs line_len line_text lines literal gap after_part entry_value flow flow_items flow_entries flow_or_scalar inline begins_item value item_at items entries block
flows = refl

-- literal scalars, by their headers
pub literals : yaml_of (codes "- |\n  a\n\n  # b\n- |-\n  a\n\n- |+\n  a\n\n- |\n- b") ≡ Some (Some (node.list (item (text "a\n\n# b\n") (item (text "a") (item (text "a\n\n") (item (text "") (item (text "b") no_items)))))))
unfolding value_of unmasked begin seek line_tail indented next unmarked is_marker next_line begins_plain ends_plain plain_len number_of kind plain single double hex_character escape scalar after_colon key text_column belongs line_len line_text lines literal gap after_part entry_value flow flow_items flow_entries flow_or_scalar inline begins_item value item_at items entries block
literals = refl

-- escapes, quotes and numbers
pub scalars : yaml_of (codes "- \"\\n\\x41\\u0042 \\\"\"\n- -7\n- 9223372036854775808\n- b:c#d\n- -e") ≡ Some (Some (node.list (item (text "\nAB \"") (item (number (neg_ℤ (pos 7))) (item (text "9223372036854775808") (item (text "b:c#d") (item (text "-e") no_items)))))))
unfolding encode value_of unmasked begin seek line_tail indented next unmarked is_marker next_line begins_plain ends_plain plain_len number_of kind plain single double hex_character escape scalar after_colon key text_column belongs line_len line_text lines literal gap after_part entry_value flow flow_items flow_entries flow_or_scalar inline begins_item value item_at items entries block
scalars = refl

-- directives, and a marker at the start
pub started : yaml_of (codes "%YAML 1.2\n# c\n---\n a: b\r\n c: d") ≡ Some (Some (node.map (entry (named "a") (text "b") (entry (named "c") (text "d") no_entries))))
unfolding value_of unmasked begin seek line_tail indented next unmarked is_marker next_line begins_plain ends_plain plain_len number_of kind plain single double hex_character escape scalar after_colon key text_column belongs line_len line_text lines literal gap after_part entry_value flow flow_items flow_entries flow_or_scalar inline begins_item value item_at items entries block
started = refl
