use Rattle.std.proofs.Common.{refl}
use Rattle.syntect_shelf.proofs.ShelvingLaws.{adds_head, no_room_for, refused_at}
use Rattle.syntect_shelf.proofs.shelf_builder.ShelfBuilder.add_head.Goals.{in-Ok-push, in-Err-push}
use Rattle.syntect_shelf.proofs.shelf_builder.ShelfBuilder.add_head.Goals as goal

pub returns-in-Err-clause-refusal : goal.returns-in-Err-clause-refusal
returns-in-Err-clause-refusal g c = refused_at (g.T.Tree.told c.args.tree.now) c.args.path c.as_str.result.now c.args.room.now c.in-Err.e c.requires c.as_str.ensures c.in-Err.ensures.err

pub returns-clause-ok : goal.returns-clause-ok
returns-clause-ok g c = elim c.match-push.branch [
  | in-Ok-push w ↦ rw w.result-is (adds_head (g.T.Tree.told c.args.tree.now) c.args.path c.as_str.result.now c.args.room.now c.head_in.new.room c.args.repository.now c.head_in.new.repository c.args.self.now
      (record { grammars = c.push.new.self; metadata = c.args.self.now.metadata; loading = c.args.self.now.loading }) c.in-Ok.head c.requires c.as_str.ensures c.in-Ok.ensures.ok c.head_in.ensures.kept w.in-Ok-push.ensures.ok refl refl)
  | in-Err-push w ↦ rw w.result-is tt
]

pub returns-clause-refusal : goal.returns-clause-refusal
returns-clause-refusal g c = elim c.match-push.branch [
  | in-Ok-push w ↦ rw w.result-is tt
  | in-Err-push w ↦ rw w.result-is (no_room_for (g.T.Tree.told c.args.tree.now) c.args.path c.args.room.now w.no_memory.result w.no_memory.ensures)
]
