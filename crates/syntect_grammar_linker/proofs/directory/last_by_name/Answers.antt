use Rattle.std.proofs.Common.{rules}
use Rattle.std.proofs.lemmas.Map.Text.{btree_map_updates_str}
use Rattle.syntect_grammar_linker.specs.References.{has_name}
use Rattle.syntect_grammar_linker.proofs.LinkLaws.{table_more}
use Rattle.syntect_grammar_linker.proofs.directory.last_by_name.Goals as goal

pub loop-place-preserved : goal.loop-place-preserved
loop-place-preserved c = λ name.
    table_more (has_name name) c.args.heads.now c.loop-place.place c.index-heads-place.result _ _ (search rules) c.index-heads-place.is (c.loop-place.invariant name)
    (btree_map_updates_str c.index-heads-place.result.name c.loop-place.places c.insert.new.self _ (search rules) name)
