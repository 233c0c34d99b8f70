use Rattle.std.proofs.Common.{List, subst}
use Rattle.syntect_reading_choice.specs.syntect_grammar_lists.declared.flats.Flat.{Flat}
use Rattle.syntect_reading_choice.specs.Ahead.{AreReplaced}
use Rattle.syntect_reading_choice.proofs.runs.run_of.Goals as goal

pub returns-clause-run : goal.returns-clause-run
returns-clause-run c = record {
  flats = c.in_ok-flats.ensures;
  replaced = subst (λ (fs : List Flat). AreReplaced c.args.reader.now.set.now c.args.part.now fs c.in_ok-replaced.replaced.items) c.list_in.ensures c.in_ok-replaced.ensures.texts;
}
