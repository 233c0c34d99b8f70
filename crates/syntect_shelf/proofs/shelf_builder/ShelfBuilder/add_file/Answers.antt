use Rattle.std.proofs.Common.{◌∙◌, ap, sym, refl}
use Rattle.syntect_grammar.specs.Folders.{is_grammar_path, is_metadata_path}
use Rattle.syntect_shelf.proofs.ShelvingLaws.{passes_over, adds_metadata, no_room_for}
use Rattle.syntect_shelf.proofs.shelf_builder.ShelfBuilder.add_file.Goals.{in-Ok, in-Err}
use Rattle.syntect_shelf.proofs.shelf_builder.ShelfBuilder.add_file.Goals as goal

pub returns-then-not-is_metadata-clause-ok : goal.returns-then-not-is_metadata-clause-ok
returns-then-not-is_metadata-clause-ok g c =
    passes_over (g.T.Tree.told c.args.tree.now) c.args.path c.args.room.now c.args.repository.now c.args.self.now
    (ap is_grammar_path (sym c.as_str.ensures) ∙ sym c.is_grammar.ensures ∙ c.if-is_grammar.false) (ap is_metadata_path (sym c.as_str-2.ensures) ∙ sym c.is_metadata.ensures ∙ c.if-not-is_metadata.true)

pub returns-clause-ok : goal.returns-clause-ok
returns-clause-ok g c = elim c.match-push.branch [
  | in-Ok w ↦ rw w.result-is (adds_metadata (g.T.Tree.told c.args.tree.now) c.args.path c.args.room.now c.args.repository.now c.args.self.now
      (record { grammars = c.args.self.now.grammars; metadata = c.push.new.self; loading = c.args.self.now.loading })
      (ap is_metadata_path (sym c.as_str-2.ensures) ∙ sym c.is_metadata.ensures ∙ c.if-not-is_metadata.false) refl w.in-Ok.ensures.ok refl)
  | in-Err w ↦ rw w.result-is tt
]

pub returns-clause-refusal : goal.returns-clause-refusal
returns-clause-refusal g c = elim c.match-push.branch [
  | in-Ok w ↦ rw w.result-is tt
  | in-Err w ↦ rw w.result-is (no_room_for (g.T.Tree.told c.args.tree.now) c.args.path c.args.room.now w.no_memory.result w.no_memory.ensures)
]
