use Rattle.std.proofs.Common.{◌≡◌, Some, None, refl, sym, ap, ◌∙◌, arith}
use Rattle.std.specs.Option.{option_map}
use Rattle.std.specs.Map.{lookup}
use Rattle.std.specs.Str.{bytes_eq}
use Rattle.syntect_grammar_rewrite.specs.declared.expand.Frame.{Frame}
use Rattle.syntect_grammar_rewrite.specs.Variables.{value_by, expanded}
use Rattle.syntect_grammar_rewrite.specs.Expanding.{inner}
use Rattle.syntect_grammar_rewrite.proofs.OpenLaws.{open_more, not_open}
use Rattle.syntect_grammar_rewrite.proofs.TurnLaws.{enter-push, enter-none, into-push, into-none, deeper-push}
use Rattle.syntect_grammar_rewrite.proofs.expand.go_into.Goals as goal

pub returns-in-Some : goal.returns-in-Some
returns-in-Some c =
    let vs = c.args.variables.now in
    let fs = c.args.frames.now.items in
    let gs = c.push.new.self.items in
    let frame : Frame = record { name = c.args.name; rest = c.args.after; start = c.args.written } in
    let found : lookup (bytes_eq c.args.name) (inner vs fs) ≡ Some c.in-Some.value.now =
    sym (c.value_of.ensures fs c.requires) ∙ ap (option_map (λ v. v.now)) c.in-Some.is in
    record {
      kept = into-push vs fs gs frame c.in-Some.value.now c.as_str.result.now c.in_ok-push-in-Some.ensures.items c.as_str.ensures found;
      deeper = deeper-push fs gs frame c.in_ok-push-in-Some.ensures.items;
      enters = λ known all. enter-push vs fs gs known c.args.written frame c.in-Some.value.now c.as_str.result.now c.in_ok-push-in-Some.ensures.items c.as_str.ensures all refl found;
      marked = open_more c.args.marks.now c.mark.new.marks fs gs frame c.in_ok-clone-in-Some.field-0 c.requires (not_open c.args.name c.in-Some.value.now vs fs found) c.in_ok-clone-in-Some.ensures.cases (c.in_ok-mark-in-Some.ensures refl) c.in_ok-push-in-Some.ensures.items;
    }

pub returns : goal.returns
returns c =
    let vs = c.args.variables.now in
    let fs = c.args.frames.now.items in
    let found : lookup (bytes_eq c.args.name) (inner vs fs) ≡ None =
    sym (c.value_of.ensures fs c.requires) ∙ ap (option_map (λ v. v.now)) c.in-None.is in
    record {
      kept = into-none vs fs c.args.name c.args.after.now found;
      deeper = omega arith;
      enters = λ known all. enter-none vs fs known c.args.written c.args.name c.args.after.now all (ap (value_by expanded (inner vs fs) c.args.name) found);
      marked = c.requires;
    }
