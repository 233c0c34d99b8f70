use Rattle.std.proofs.Common.{◌≡◌, ◌∷◌, [], reverse, ap, ◌∙◌, refl}
use Rattle.std.proofs.lemmas.List.{reverse-append}
use Rattle.syntect_pattern_backtrack.specs.syntect_pattern_table.Program.{trees_of}
use Rattle.syntect_pattern_backtrack.specs.declared.state.Search.{Search}
use Rattle.syntect_pattern_backtrack.proofs.BackLaws.{goes_resume}
use Rattle.syntect_pattern_backtrack.proofs.FindLaws.{start-boundary}
use Rattle.syntect_pattern_backtrack.proofs.PassLaws.{goes_shorter}
use Rattle.syntect_pattern_backtrack.proofs.state.Search.back.Goals as goal

pub returns-clause-goes : goal.returns-clause-goes
returns-clause-goes c =
    let old : Search = c.args.self.now in
    let mid : Search = record old { frames = c.pop.new.self } in
    let top : reverse old.frames.items ≡ c.in-Some.frame ∷ reverse c.pop.new.self.items =
    ap reverse c.in-Some.ensures.items ∙ reverse-append c.pop.new.self.items (c.in-Some.frame ∷ []) in
    goes_resume c.args.text.now (trees_of c.args.program.now) old c.resume.new.self c.pop.new.self.items mid c.in_ok-next.next c.in-Some.frame c.requires top
    refl refl refl refl
    c.in_ok-next.ensures.enter c.in_ok-next.ensures.leave c.in_ok-next.ensures.stretch (start-boundary c.args.text.now c.utf8.text) c.in_ok-next.ensures.starts c.in_ok-next.ensures.within c.in_ok-next.ensures.restore

pub returns-in-Some-shortened-clause-goes : goal.returns-in-Some-shortened-clause-goes
returns-in-Some-shortened-clause-goes c =
    let old : Search = c.args.self.now in
    let top : reverse old.frames.items ≡ c.in-Some.frame ∷ reverse c.pop.new.self.items =
    ap reverse c.in-Some.ensures.items ∙ reverse-append c.pop.new.self.items (c.in-Some.frame ∷ []) in
    goes_shorter c.args.text.now (trees_of c.args.program.now) old c.save.new.self c.pop.new.self.items c.in-Some.frame c.in-Some-shortened.shorter
    c.requires top c.in-Some-shortened.ensures c.in_ok-save.ensures.frames
    (ap (λ (x : Search). x.place) c.in_ok-save.ensures.others) (ap (λ (x : Search). x.cells.items) c.in_ok-save.ensures.others) (ap (λ (x : Search). x.groups.items) c.in_ok-save.ensures.others)
