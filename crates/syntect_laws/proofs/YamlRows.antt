-- What the printers write of a small value.
use Rattle.std.proofs.Common.{◌≡◌, ℕ, false, if◌then◌else◌, nat_lt, List, length, refl, codes}
use Rattle.syntect_yaml.specs.Node.{Node, scalar, list, map, no_items, item, no_entries, entry}
use Rattle.syntect_yaml.specs.declared.value.Scalar.{Scalar}
use Rattle.syntect_yaml.specs.declared.value.Scalar.TheVariants.{Text, Truth, Null}
use Prim.Native.String.{String}
use Rattle.syntect_laws.specs.YamlTexts.{Style, plain, single_quotes, literal}
use Rattle.syntect_laws.specs.Flow.{flow_text}
use Rattle.syntect_laws.specs.Block.{block_text}

abbrev word : String → Scalar
word s = Text (codes s)

-- short texts as they are, others in single quotes
abbrev by_length : List ℕ → Style
by_length s = if nat_lt 8 (length s) then single_quotes else plain

-- the head of a grammar
abbrev grammar : Node
grammar =
    map
    (entry (word "name") (scalar (word "Small C"))
    (entry (word "hidden") (scalar (Truth false))
    (entry (word "contexts")
    (map (entry (word "main")
    (list (item (map (entry (word "match") (scalar (word "\\b(don't|if)\\b")) (entry (word "scope") (scalar (word "keyword.control")) no_entries)))
    (item (map (entry (word "include") (scalar Null) no_entries)) no_items)))
    no_entries))
    no_entries)))

on_one_line : flow_text by_length grammar ≡ codes "{name: Small C, hidden: false, contexts: {main: [{match: '\\b(don''t|if)\\b', scope: 'keyword.control'}, {include: null}]}}"
on_one_line = refl

over_lines : block_text by_length 0 grammar
    ≡ codes "name: Small C\nhidden: false\ncontexts:\n  main:\n    - match: '\\b(don''t|if)\\b'\n      scope: 'keyword.control'\n    - include: null\n"
over_lines = refl

-- each end of a text over lines, and what no other style can hold
over_more_lines : block_text (λ s. literal) 0 (list (item (scalar (word "a\n\n  b")) (item (scalar (word "a\n")) (item (scalar (word "a\n\n")) (item (scalar (word " a\tb")) (item (list no_items) no_items))))))
    ≡ codes "- |-\n  a\n\n    b\n- |\n  a\n- |+\n  a\n\n- \" a\\x09b\"\n- []\n"
over_more_lines = refl
