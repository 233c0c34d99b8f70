use Rattle.std.proofs.Common.{add-one, string_bytes}
use Rattle.syntect_documents.specs.syntect_writers.Classes.{opening_tag, prefix_of}
use Rattle.syntect_documents.proofs.ClassedLaws.{tags_more}
use Rattle.syntect_documents.proofs.classed.push_opening_tags.Goals as goal

pub loop-scope-preserved : goal.loop-scope-preserved
loop-scope-preserved c =
    rw add-one (tags_more (opening_tag (prefix_of c.args.classes.style) c.args.classes.repository.now) c.args.scopes.now c.loop-scope.scope-index c.scope-item.result c.scope-item.result (string_bytes c.loop-scope.out) (string_bytes c.push_opening_tag.new.out) _
    c.loop-scope-test.true c.scope-item.is c.in_ok-push_opening_tag.ensures c.loop-scope.invariant)
