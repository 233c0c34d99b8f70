use Rattle.std.proofs.Common.{rules, []}
use Rattle.std.specs.HashMap as hash
use Rattle.std.specs.HashSet as marks
use Rattle.std.specs.Option.{option_map_or}
use Rattle.syntect_grammar_contexts.specs.Contexts.{is_same}
use Rattle.syntect_grammar_linker.proofs.ReachedLaws.{marks_all}
use Rattle.syntect_grammar_linker.proofs.reached.marked_contexts.Goals as goal

pub returns : goal.returns
returns c =
    marks_all c.args.directory.now c.args.bodies.now (λ from. option_map_or (λ v. v.items) (hash.get is_same c.in_ok-includers.includers from) []) c.as_slice.result.now c.in_ok-given.given.items
    (marks.contains is_same c.in_ok-marked.marked) (search rules) (search rules) (λ id. c.in_ok-includers.ensures id) (λ id. c.in_ok-marked.ensures id)
