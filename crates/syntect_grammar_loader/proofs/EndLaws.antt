-- The end of loading.
use Rattle.std.proofs.Common.{◌≡◌, ℕ, List, Option, Result, Ok, Err, ap, ◌∙◌}
use Rattle.syntect_yaml.specs.Node.{Node}
use Rattle.syntect_base.specs.declared.syntax.ParseSyntaxError.{ParseSyntaxError}
use Rattle.syntect_grammar_loader.specs.LoadingSteps.{Refusal, Finds}
use Rattle.syntect_grammar_loader.specs.LoadingContexts.{put}
use Rattle.syntect_grammar_loader.specs.Loading.{main_name, start_name, outer_name, start_context, outer_context, main_context, around_main, finished, leaving, finish}
use Rattle.syntect_grammar_loader.specs.declared.yaml_load_state.Reading.{Reading}
use Rattle.syntect_grammar_contexts.specs.declared.context.Context.{Context}
use Rattle.syntect_grammar_loader.specs.declared.definition.SyntaxDefinition.{SyntaxDefinition}

pub around : (top_scope : List ℕ) (main : Context) (others a b all : List (List ℕ × Context)) (start outer last : Context)
    → all ≡ put main_name last b → b ≡ put outer_name outer a → a ≡ put start_name start others → last ≡ main_context top_scope main → outer ≡ outer_context main → start ≡ start_context top_scope
    → all ≡ around_main top_scope main others
around top_scope main others a b all start outer last h g f m o s =
    h ∙ ap (λ c. put main_name c b) m ∙ ap (put main_name (main_context top_scope main)) (g ∙ ap (λ c. put outer_name c a) o ∙ ap (put outer_name (outer_context main)) (f ∙ ap (λ c. put start_name c others) s))

pub ends : (v : Node) (fallback : Option (List ℕ)) (top_scope : List ℕ) (after : Reading) (read : Result (List ℕ × Reading) Refusal) (r : Result SyntaxDefinition ParseSyntaxError)
    → read ≡ Ok (top_scope, after) → Finds (λ d. d) r (finished v after.variables fallback top_scope after.contexts) → Finds (λ d. (d, after.repository)) r (finish v fallback read)
ends v fallback top_scope after read (Ok d) e h = ap (finish v fallback) e ∙ ap (leaving after.repository) h
ends v fallback top_scope after read (Err f) e h = λ q w. ap (finish v fallback) e ∙ ap (leaving after.repository) (h q w)
