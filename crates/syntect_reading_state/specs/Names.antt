-- What a match names, and what refuses it.
use Rattle.std.specs.Prelude.{List, find, Option, is_none}
use Rattle.std.specs.Option.{option_map, option_or}
use Rattle.std.specs.List.{filter_map}
use Rattle.syntect_reading_state.specs.syntect_grammar_contexts.Contexts.{named, target}
use Rattle.syntect_reading_state.specs.syntect_grammar_contexts.declared.context.ContextId.{ContextId}
use Rattle.syntect_reading_state.specs.syntect_grammar_contexts.declared.context.ContextReference.{ContextReference}
use Rattle.syntect_reading_state.specs.syntect_grammar_contexts.declared.context.MatchPattern.{MatchPattern}
use Rattle.syntect_reading_state.specs.syntect_grammar_contexts.declared.error.ParsingError.{ParsingError}
use Rattle.syntect_reading_state.specs.syntect_grammar_contexts.declared.error.ParsingError.TheVariants as error
use Rattle.syntect_grammar.specs.Contexts.{context_at}
use Rattle.syntect_grammar.specs.declared.syntax_set.SyntaxSet.{SyntaxSet}

-- the refusal of the first reference that has no target
abbrev pub unresolved : List ContextReference → Option ParsingError
unresolved refs = option_map error.UnresolvedContextReference (find (λ r. is_none (target r)) refs)

-- the refusal of the first context that the set lacks
abbrev pub missing : SyntaxSet → List ContextId → Option ParsingError
missing set ids = option_map error.MissingContext (find (λ id. is_none (context_at set id)) ids)

-- what refuses a match: all references are looked at first, and the contexts then
abbrev pub refusal : SyntaxSet → MatchPattern → Option ParsingError
refusal set m = option_or (unresolved (named m)) (missing set (filter_map target (named m)))
