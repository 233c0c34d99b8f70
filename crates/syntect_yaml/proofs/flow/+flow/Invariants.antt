use Rattle.std.proofs.Common.{◌≡◌, ℕ, ◌+◌, ◌*◌, ◌<◌, ◌≤◌, length}
use denote.Text.{Utf8}
use denote.Shadow.{shadow}
use Rattle.syntect_yaml.specs.Node.{no_items, no_entries, has_scalar, has_key}
use Rattle.syntect_yaml.specs.declared.value.Scalar.{Scalar}
use Rattle.syntect_yaml.specs.View.{items_view, entries_view}
use Rattle.syntect_yaml.specs.Flow.{flow, items, entries}
use Rattle.syntect_yaml.proofs.flow.+flow.Given as goal

abbrev pub decreases-flow : goal.decreases-flow
decreases-flow l = 3 * l.depth

abbrev pub decreases-items : goal.decreases-items
decreases-items l = 3 * l.depth + 2

abbrev pub decreases-entry_value : goal.decreases-entry_value
decreases-entry_value l = 3 * l.depth + 1

abbrev pub decreases-entries : goal.decreases-entries
decreases-entries l = 3 * l.depth + 2

abbrev pub invariant-items-items : goal.invariant-items-items
invariant-items-items l =
    shadow (Utf8 l.rest) × (length l.rest ≤ length l.fn.text)
    × ((n : ℕ) → length l.fn.text < n → (m : ℕ) × (length l.rest < m)
    × (items (flow l.fn.depth) n no_items l.fn.text ≡ items (flow l.fn.depth) m (items_view l.found.items) l.rest))

abbrev pub decreases-items-items : goal.decreases-items-items
decreases-items-items l = length l.rest

abbrev pub invariant-entries-entries : goal.invariant-entries-entries
invariant-entries-entries l =
    shadow (Utf8 l.rest) × (length l.rest ≤ length l.fn.text)
    × ((q : Scalar) → has_scalar q l.keys.keys ≡ has_key q (entries_view l.found.items))
    × ((n : ℕ) → length l.fn.text < n → (m : ℕ) × (length l.rest < m)
    × (entries (flow l.fn.depth) n no_entries l.fn.text ≡ entries (flow l.fn.depth) m (entries_view l.found.items) l.rest))

abbrev pub decreases-entries-entries : goal.decreases-entries-entries
decreases-entries-entries l = length l.rest
