use Rattle.std.specs.Path.{path_bytes}
use Rattle.syntect_metadata.proofs.EntryLaws.{file_not_read, file_gives, file_gives_none}
use Rattle.syntect_metadata.proofs.raw.RawMetadataEntry.load.Goals as goal

pub returns-clause-ok : goal.returns-clause-ok
returns-clause-ok g c =
    file_gives (g.T.Tree.told c.args.tree.now) (path_bytes c.args.path) c.as_str.result.now c.as_str.ensures c.as_slice.result.now c.in-Ok.bytes.items c.as_slice.ensures.value c.in-Ok.ensures.ok
    c.entry_of.result c.entry_of.ensures.ok

pub returns-clause-err : goal.returns-clause-err
returns-clause-err g c =
    file_gives_none (g.T.Tree.told c.args.tree.now) (path_bytes c.args.path) c.as_str.result.now c.as_str.ensures c.as_slice.result.now c.in-Ok.bytes.items c.as_slice.ensures.value c.in-Ok.ensures.ok
    c.entry_of.result c.entry_of.ensures.err

pub returns-in-Err-clause-err : goal.returns-in-Err-clause-err
returns-in-Err-clause-err g c =
    file_not_read (g.T.Tree.told c.args.tree.now) (path_bytes c.args.path) c.as_str.result.now c.as_str.ensures c.in-Err.e c.from.result c.in-Err.ensures.err c.from.ensures
