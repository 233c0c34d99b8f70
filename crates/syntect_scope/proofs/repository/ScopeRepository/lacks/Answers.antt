use Rattle.std.proofs.Common.{◌∙◌, ap, not, take}
use Rattle.syntect_scope.specs.Repository.{between_dots}
use Rattle.syntect_scope.proofs.RepositoryLaws.{lacks_known, lacks_new}
use Rattle.syntect_scope.proofs.repository.ScopeRepository.lacks.Goals as goal

pub returns-then-is_none : goal.returns-then-is_none
returns-then-is_none c =
    ap not (c.stands_before.ensures ∙ lacks_new c.args.self.now (take c.args.before (between_dots c.args.text.now)) c.args.part.now c.known.result c.known.ensures.number c.if-is_none.ensures)

pub returns-else-is_none : goal.returns-else-is_none
returns-else-is_none c =
    c.if-is_none.false ∙ lacks_known c.args.self.now (take c.args.before (between_dots c.args.text.now)) c.args.part.now c.known.result c.known.ensures.number c.if-is_none.ensures
