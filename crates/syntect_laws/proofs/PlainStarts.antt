-- The grammar of plain text.
use Rattle.std.proofs.Common.{◌≡◌, ℕ, false, List, [], ◌∷◌, refl, ap, sym, ◌∙◌, subst, Option, Some, None, Result, Ok, Err}
use Rattle.std.specs.Prelude.{codes, is_ok}
use Rattle.std.proofs.lemmas.Bool.{false≢true}
use Rattle.syntect_laws.specs.syntect_scope.Repository.{first_refusal, with_atoms, atom_texts}
use Rattle.syntect_laws.specs.syntect_scope.declared.repository.ParseScopeError.{ParseScopeError}
use Rattle.syntect_yaml.specs.Node as node
use Rattle.syntect_yaml.specs.Node.{Node, no_items, item, no_entries, entry}
use Rattle.syntect_yaml.specs.declared.value.Scalar.TheVariants.{Text}
use Rattle.syntect_yaml.specs.Lines.{line_tail, indented, seek, is_marker, unmarked, next, next_line}
use Rattle.syntect_yaml.specs.Scalars.{begins_plain, ends_plain, plain_len, number_of, kind, plain, single, double, hex_character, escape, scalar, after_colon, key}
use Rattle.syntect_yaml.specs.Literal.{text_column, belongs, line_len, line_text, lines, literal}
use Rattle.syntect_yaml.specs.Flow.{gap, after_part, entry_value, flow, items as flow_items, entries as flow_entries}
use Rattle.syntect_yaml.specs.Blocks.{flow_or_scalar, inline, begins_item, value, item as item_at, items, entries, block}
use Rattle.syntect_yaml.specs.Yaml.{unmasked, begin, value_of, yaml_of}
use Rattle.syntect_laws.specs.syntect_grammar_loader.LoadingSteps.{Refusal, on, found_in, known}
use Rattle.syntect_laws.specs.syntect_grammar_loader.LoadingParts.{scope_unless}
use Rattle.syntect_laws.specs.syntect_grammar_loader.Loading.{loaded, definition_in, definition_of, finish, finished, leaving, nothing_read, read_contexts, top_contexts}
use Rattle.syntect_laws.specs.syntect_grammar_loader.LoadingSteps.{give, ◌>>=◌}
use Rattle.syntect_laws.specs.syntect_grammar.PlainText.{plain_text, IsPlainText, PlainTextIsPlain}
use Rattle.syntect_laws.specs.syntect_grammar_loader.declared.definition.SyntaxDefinition.{SyntaxDefinition}

-- its value
abbrev plain_value : Node
plain_value = node.map (entry (Text (codes "name")) (node.scalar (Text (codes "Plain Text")))
    (entry (Text (codes "file_extensions")) (node.list (item (node.scalar (Text (codes "txt"))) no_items))
    (entry (Text (codes "scope")) (node.scalar (Text (codes "text.plain")))
    (entry (Text (codes "contexts")) (node.map (entry (Text (codes "main")) (node.list no_items) no_entries)) no_entries))))

is_value : yaml_of plain_text ≡ Some (Some plain_value)
unfolding value_of unmasked begin seek line_tail indented next unmarked is_marker next_line begins_plain ends_plain plain_len number_of kind plain single double hex_character escape scalar after_colon key text_column belongs line_len line_text lines literal gap after_part entry_value flow flow_items flow_entries flow_or_scalar inline begins_item value item_at items entries block
is_value = refl

-- the definition, whose contexts are read after the scope
abbrev defined_after : Option ParseScopeError → List (List ℕ) → Result (SyntaxDefinition × List (List ℕ)) Refusal
defined_after o before = finish plain_value None
    (on (scope_unless o (with_atoms before (atom_texts (codes "text.plain"))) (codes "text.plain") (nothing_read [] false before))
    (λ top_scope. top_contexts ((Text (codes "main"), node.list no_items) ∷ []) >>= λ none. give top_scope))

-- what an answer gives, and what it leaves
abbrev given : SyntaxDefinition → Result (SyntaxDefinition × List (List ℕ)) Refusal → SyntaxDefinition
given d (Ok p) = p.0
given d (Err r) = d

abbrev left : List (List ℕ) → Result (SyntaxDefinition × List (List ℕ)) Refusal → List (List ℕ)
left after (Ok p) = p.1
left after (Err r) = after

of_scope : (before after : List (List ℕ)) (d : SyntaxDefinition) (o : Option ParseScopeError) → defined_after o before ≡ Ok (d, after) → IsPlainText after d
of_scope before after d (Some e) h = absurd (false≢true (ap is_ok h))
of_scope before after d None h =
    let is : IsPlainText (left after (defined_after None before)) (given d (defined_after None before)) = record {
      name = refl;
      extensions = refl;
      scope = refl;
      first_line = refl;
      shown = refl;
      variables = refl;
      main = refl;
    } in
    subst (IsPlainText after) (ap (given d) h) (subst (λ (rs : List (List ℕ)). IsPlainText rs (given d (defined_after None before))) (ap (left after) h) is)

is_read : (before : List (List ℕ)) → finish plain_value None (read_contexts plain_value (nothing_read [] false before)) ≡ defined_after (first_refusal before (codes "text.plain" ∷ [])) before
is_read before = refl

pub plain_text_is_plain : PlainTextIsPlain
plain_text_is_plain before after d e =
    of_scope before after d (first_refusal before (codes "text.plain" ∷ []))
    (sym (is_read before) ∙ sym (ap (λ v. definition_in v false None before) is_value) ∙ e)
