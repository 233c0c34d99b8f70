use Rattle.std.proofs.Common.{List, refl, subst, sym}
use Rattle.std.proofs.lemmas.Result.{IfOk-weaker}
use Rattle.syntect_grammar_lists.specs.Told.{AreCoarser}
use Rattle.syntect_grammar_lists.specs.declared.flats.Flat.{Flat}
use Rattle.syntect_grammar.specs.Contexts.{set_of}
use Rattle.syntect_grammar.specs.Flats.{AreFlatsOf}
use Rattle.syntect_grammar.proofs.FlatLaws.{coarser_flats}
use Rattle.syntect_grammar.proofs.walk.flats_walked.Goals as goal

pub returns : goal.returns
returns c =
    IfOk-weaker c.new-2.result (AreCoarser c.as_slice.result.now) (AreFlatsOf (set_of c.args.syntaxes.now) c.args.id)
    (λ flats coarser. coarser_flats (set_of c.args.syntaxes.now) c.args.id c.as_slice.result.now flats
    (subst (λ (fs : List Flat). AreFlatsOf (set_of c.args.syntaxes.now) c.args.id fs) (sym c.as_slice.ensures.value) (c.in_ok-walk.ensures.found (c.in_ok-walk.ensures.uncounted refl))) coarser) c.new-2.ensures
