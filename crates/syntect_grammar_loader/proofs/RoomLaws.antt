-- A context where contexts may nest, and where they may not.
use Rattle.std.proofs.Common.{◌≡◌, ℕ, zero, suc, ◌-◌, ◌<◌, Bool, List, Some, Result, Ok, Err, unwrap_or, ap, sym, ◌∙◌, subst, arith}
use Rattle.syntect_yaml.specs.Node.{Node}
use Rattle.syntect_base.specs.declared.syntax.ParseSyntaxError.{ParseSyntaxError}
use Rattle.syntect_grammar_loader.specs.LoadingSteps.{Refusal, wrong_kind, Gives, on}
use Rattle.syntect_grammar_loader.specs.LoadingContexts.{begin, named_context, context}
use Rattle.syntect_grammar_loader.specs.declared.yaml_load_state.Reading.{Reading}

pub no_room : (n : ℕ) (wants : Bool) (items : List Node) (s : Reading) → n ≡ 0 → (r : Refusal) → Some wrong_kind ≡ Some r → context n wants items s ≡ Err r
unfolding context
no_room zero wants items s e r h = ap (λ o. Err (unwrap_or o wrong_kind)) h
no_room (suc n) wants items s e r h = absurd (omega arith)

room_step : (n : ℕ) (wants : Bool) (items : List Node) (s after : Reading) (name : List ℕ) → 0 < n → begin s ≡ Ok (name, after) → context n wants items s ≡ named_context (context (n - 1)) name wants items after
unfolding context
room_step zero wants items s after name room e = absurd (omega arith)
room_step (suc n) wants items s after name room e =
    let less : suc n - 1 ≡ n = omega arith in
    ap (λ a. on a (λ t. named_context (context n) t wants items)) e ∙ ap (λ k. named_context (context k) name wants items after) (sym less)

pub in_room : (n : ℕ) (wants : Bool) (items : List Node) (s between after : Reading) (name : List ℕ) (r : Result (List ℕ) ParseSyntaxError) → 0 < n → begin s ≡ Ok (name, between)
    → Gives (λ t. t) r after (named_context (context (n - 1)) name wants items between) → Gives (λ t. t) r after (context n wants items s)
in_room n wants items s between after name r room e h = subst (Gives (λ t. t) r after) (sym (room_step n wants items s between name room e)) h
