use Rattle.std.proofs.Common.{refl, map, string_bytes, subst}
use Rattle.std.specs.Prelude.{Some, None}
use Rattle.syntect_cat.specs.Shown.{IsShown}
use Rattle.syntect_cat.specs.Faults.{usage_line}
use Rattle.syntect_cat.proofs.ShownLaws.{asked_for, reason_for, told_of, told_writing, writing_told}
use Rattle.syntect_cat.proofs.TextLaws.{never_none, never_some, told_of_limits}
use Rattle.syntect_cat.proofs.WriteLaws.{line_begun}
use Rattle.syntect_cat.proofs.program.run.Goals as goal

pub returns-in_default-clause-usage : goal.returns-in_default-clause-usage
returns-in_default-clause-usage g c = λ _.
    (refl, line_begun c.put.result (g.E.Write.contents c.args.err.now) (g.E.Write.contents c.put.new.writer) c.as_bytes.result.now usage_line c.as_bytes.ensures.value c.put.ensures.ok c.put.ensures.err)

pub returns-in-Err-clause-failed : goal.returns-in-Err-clause-failed
returns-in-Err-clause-failed g c = λ _.
    let Told = g.T.Tree.told c.args.tree.now in
    let told = c.tell.ensures in
    let f = c.in-Err.fault in (
      told.0,
      told.1,
      reason_for Told (map string_bytes c.args.words.now) c.in-Some.job told.0 c.in-Some.ensures.some (told_of Told c.in-Some.job.folder.now c.in-Some.job.file.now f told.0 told.2 c.in-Err.ensures.reason),
      λ n. c.in-Err.ensures.kept (λ w. n (writing_told f told.0 told.2 w)),
      λ w.
          let b = c.in-Err.ensures.begun (told_writing f told.0 told.2 w) in
          (b.0, b.1, asked_for Told (map string_bytes c.args.words.now) c.in-Some.job b.0 b.1 c.in-Some.ensures.some b.2, b.3),
    )

pub returns-in-Ok-None-clause-shown : goal.returns-in-Ok-None-clause-shown
returns-in-Ok-None-clause-shown g c = λ _.
    let Told = g.T.Tree.told c.args.tree.now in
    let s = c.in-Ok-None.ensures.shown in
    let shown = subst (IsShown Told c.in-Some.job.folder.now c.in-Some.job.theme.now c.in-Some.job.format c.in-Some.job.file.now s.0) c.in-Ok-None.field-0-is s.1 in
    (s.0, None, asked_for Told (map string_bytes c.args.words.now) c.in-Some.job s.0 None c.in-Some.ensures.some shown, s.2, λ _. refl, λ line e. absurd (never_some line e))

pub returns-in-Ok-Some-clause-shown : goal.returns-in-Ok-Some-clause-shown
returns-in-Ok-Some-clause-shown g c = λ _.
    let Told = g.T.Tree.told c.args.tree.now in
    let s = c.in-Ok-Some.ensures.shown in
    let shown = subst (IsShown Told c.in-Some.job.folder.now c.in-Some.job.theme.now c.in-Some.job.format c.in-Some.job.file.now s.0) c.in-Ok-Some.field-0-is s.1 in (
      s.0,
      Some c.in-Ok-Some.note,
      asked_for Told (map string_bytes c.args.words.now) c.in-Some.job s.0 (Some c.in-Ok-Some.note) c.in-Some.ensures.some shown,
      s.2,
      λ e. absurd (never_none c.in-Ok-Some.note e),
      λ n e. told_of_limits (g.E.Write.contents c.args.err.now) (g.E.Write.contents c.tell_note.new.err) c.in-Ok-Some.note n e c.tell_note.ensures,
    )
