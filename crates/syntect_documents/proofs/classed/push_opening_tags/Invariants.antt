use Rattle.std.proofs.Common.{◌≡◌, ◌++◌, string_bytes, drop}
use Rattle.std.specs.List.{flat_map}
use Rattle.syntect_documents.specs.syntect_writers.Classes.{opening_tag, prefix_of}
use Rattle.syntect_documents.proofs.classed.push_opening_tags.Given as goal

-- what is written, and the tags of the scopes that are left, are the whole
abbrev pub invariant-loop-scope : goal.invariant-loop-scope
invariant-loop-scope l =
    string_bytes l.out ++ flat_map (opening_tag (prefix_of l.classes.style) l.classes.repository.now) (drop l.scope-index l.scopes)
    ≡ string_bytes l.fn.out ++ flat_map (opening_tag (prefix_of l.classes.style) l.classes.repository.now) l.scopes
