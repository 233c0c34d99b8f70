-- A grammar with a context inside of another, read by computing the definitions.
use Rattle.std.proofs.Common.{◌≡◌, true, false, [], None, Err, refl}
use Rattle.std.specs.Prelude.{codes, is_ok}
use Rattle.syntect_yaml.specs.Node as node
use Rattle.syntect_yaml.specs.Node.{Node, no_items, item, no_entries, entry}
use Rattle.syntect_yaml.specs.declared.value.Scalar.TheVariants.{Text}
use Rattle.syntect_laws.specs.syntect_grammar_loader.LoadingSteps.{wrong_kind}
use Rattle.syntect_laws.specs.syntect_grammar_loader.LoadingContexts.{context}
use Rattle.syntect_laws.specs.YamlLaws.{nesting}
use Rattle.syntect_laws.specs.Inner.{definition_over}

-- { scope: text.nested, contexts: { main: [{ include: [] }] } }
abbrev nested_grammar : Node
nested_grammar =
    node.map (entry (Text (codes "scope")) (node.scalar (Text (codes "text.nested")))
    (entry (Text (codes "contexts")) (node.map
    (entry (Text (codes "main")) (node.list
    (item (node.map (entry (Text (codes "include")) (node.list no_items) no_entries)) no_items)) no_entries))
    no_entries))

depth_row : nesting nested_grammar ≡ 5
depth_row = refl

-- a bound that is too small is felt
felt_row : definition_over (context 0) nested_grammar false None [] ≡ Err wrong_kind
unfolding context
felt_row = refl

one_row : is_ok (definition_over (context 1) nested_grammar false None []) ≡ true
unfolding context
one_row = refl
