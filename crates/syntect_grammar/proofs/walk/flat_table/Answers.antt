use Rattle.std.proofs.Common.{[], ◌∷◌, List, Option, length, ap, sym, subst, arith, length-append}
use Rattle.syntect_grammar.specs.Contexts.{set_of}
use Rattle.syntect_grammar.specs.Flats.{IsTableOf}
use Rattle.syntect_grammar_lists.specs.declared.flats.Flat.{Flat}
use Rattle.syntect_grammar.proofs.FlatLaws.{is_table, table_more}
use Rattle.syntect_grammar.proofs.walk.flat_table.Goals as goal

pub loop-syntax_index-preserved : goal.loop-syntax_index-preserved
loop-syntax_index-preserved c = record {
  count = omega (arith, ap length c.in_ok-push.ensures.items, length-append c.loop-syntax_index.table.items (c.in_ok-flats_in.field-0 ∷ []), c.loop-syntax_index.invariant.count);
  lists = table_more (set_of c.args.syntaxes.now) c.loop-syntax_index.table.items c.push.new.self.items c.in_ok-flats_in.field-0 c.loop-syntax_index.syntax_index
      c.in_ok-push.ensures.items c.loop-syntax_index.invariant.count c.in_ok-flats_in.ensures c.loop-syntax_index.invariant.lists;
}

pub returns : goal.returns
returns c =
    subst (λ (table : List (List (Option (List Flat)))). IsTableOf (set_of c.args.syntaxes.now) table) (sym c.from_vec.ensures)
    (is_table (set_of c.args.syntaxes.now) c.loop-syntax_index.table.items c.loop-syntax_index.invariant.lists)
