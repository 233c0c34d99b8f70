use Rattle.std.proofs.lemmas.Result.{IfOk-weaker}
use Rattle.syntect_grammar_rewrite.specs.Expanding.{inner}
use Rattle.syntect_grammar_rewrite.proofs.TurnLaws.{enter-none}
use Rattle.syntect_grammar_rewrite.proofs.expand.enter.Goals as goal

pub returns-then-vanishes : goal.returns-then-vanishes
returns-then-vanishes c =
    let vs = c.args.variables.now in
    let fs = c.args.frames.now.items in
    record {
      kept = enter-none vs fs c.args.known.now c.args.written c.args.name c.args.after.now c.requires.vanish (c.vanishes.ensures c.if-vanishes.true (inner vs fs) c.requires.vanish);
      marked = c.requires.marked;
    }

pub returns-clause-kept : goal.returns-clause-kept
returns-clause-kept c =
    IfOk-weaker c.go_into.result _ _ (λ r f. f c.args.known.now c.requires.vanish) c.go_into.ensures.enters
