use Rattle.std.proofs.Common.{◌≡◌, ◌∙◌, Bool, None, get_or}
use Rattle.std.specs.Prelude.{replicate, slice_get}
use Rattle.syntect_pattern_backtrack.specs.syntect_pattern.Trees.{nothing}
use Rattle.syntect_pattern_backtrack.specs.syntect_pattern.Matches.{matches}
use Rattle.syntect_pattern_backtrack.specs.syntect_pattern_table.Program.{trees_of}
use Rattle.syntect_pattern_backtrack.specs.Machine.{match_of, found_by}
use Rattle.syntect_pattern_backtrack.specs.declared.state.Next.{Next}
use Rattle.syntect_pattern_backtrack.proofs.RunLaws.{found_by-start}
use Rattle.syntect_pattern_backtrack.proofs.StepsLaws.{answer_map}
use Rattle.syntect_pattern_backtrack.proofs.state.Search.is_at.Goals as goal

pub returns-clause-found : goal.returns-clause-found
returns-clause-found c =
    let groups = replicate c.args.program.now.groups None in
    answer_map c.run.result
    (λ (found : Bool). match_of found c.run.new.self ≡ found_by c.args.text.now (trees_of c.args.program.now) (Next.Enter c.args.program.now.root 0) c.begin.new.self)
    (λ (found : Bool). match_of found c.run.new.self ≡ slice_get (matches c.args.text.now (get_or (trees_of c.args.program.now) c.args.program.now.root nothing) c.args.place groups) 0)
    (λ found e. e ∙ found_by-start c.args.text.now (trees_of c.args.program.now) c.begin.new.self c.args.program.now.root c.args.place groups
    c.in_ok-begin.ensures.frames c.in_ok-begin.ensures.groups c.in_ok-begin.ensures.place)
    c.run.ensures.found
