use Rattle.std.proofs.Common.{List, subst, sym}
use Rattle.syntect_grammar_lists.specs.declared.flats.Flat.{Flat}
use Rattle.syntect_grammar.specs.Contexts.{set_of}
use Rattle.syntect_grammar.specs.Flats.{AreFlatsOf}
use Rattle.syntect_grammar.proofs.FlatLaws.{coarser_flats}
use Rattle.syntect_grammar.proofs.walk.Walker.kept.Goals as goal

pub returns-in_ok-new : goal.returns-in_ok-new
returns-in_ok-new c =
    coarser_flats (set_of c.args.syntaxes.now) c.args.id c.as_slice.result.now c.in_ok-new.field-0
    (subst (λ (fs : List Flat). AreFlatsOf (set_of c.args.syntaxes.now) c.args.id fs) (sym c.as_slice.ensures.value) (c.in_ok-walk.ensures.found c.if-branch.true)) c.in_ok-new.ensures
