use Rattle.std.proofs.Common.{[], ◌∷◌, List, Option, length, ap, sym, subst, arith, length-append}
use Rattle.syntect_grammar.specs.Contexts.{set_of}
use Rattle.syntect_grammar.specs.Flats.{AreListsOf}
use Rattle.syntect_grammar_lists.specs.declared.flats.Flat.{Flat}
use Rattle.syntect_grammar.proofs.FlatLaws.{lists_more}
use Rattle.syntect_grammar.proofs.walk.Walker.flats_in.Goals as goal

pub loop-context_index-preserved : goal.loop-context_index-preserved
loop-context_index-preserved c = record {
  count = omega (arith, ap length c.in_ok-push.ensures.items, length-append c.loop-context_index.lists.items (c.in_ok-kept.field-0 ∷ []), c.loop-context_index.invariant.count);
  flats = lists_more (set_of c.args.syntaxes.now) c.args.syntax_index c.loop-context_index.lists.items c.push.new.self.items c.in_ok-kept.field-0 c.loop-context_index.context_index
      c.in_ok-push.ensures.items c.loop-context_index.invariant.count c.in_ok-kept.ensures c.loop-context_index.invariant.flats;
}

pub returns : goal.returns
returns c =
    subst (λ (lists : List (Option (List Flat))). AreListsOf (set_of c.args.syntaxes.now) c.args.syntax_index lists) (sym c.from_vec.ensures) c.loop-context_index.invariant.flats
