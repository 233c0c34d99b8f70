use Rattle.std.proofs.Common.{◌≡◌, ◌++◌, length, take, drop}
use Rattle.serde_json.specs.View.{items_view}
use Rattle.syntect_theme_files.specs.syntect_scope.Repository.{IsRepository}
use Rattle.syntect_theme_files.specs.Loading.{rules_in, after_rules}
use Rattle.syntect_theme_files.proofs.load_theme.rules.Given as goal

abbrev pub invariant-loop-item : goal.invariant-loop-item
invariant-loop-item l = record {
  rest : l.rules ++ rules_in l.repository (items_view (drop l.item-index l.items)) ≡ rules_in l.fn.repository (items_view l.items);
  atoms : after_rules l.repository (items_view (drop l.item-index l.items)) ≡ after_rules l.fn.repository (items_view l.items);
  whole : IsRepository l.repository;
  grown : take (length l.fn.repository) l.repository ≡ l.fn.repository;
}
