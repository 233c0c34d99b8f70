use Rattle.std.proofs.Common.{◌≡◌, ◌<◌, ℕ, None}
use Rattle.syntect_shelf.specs.Unread.{unread_from}
use Rattle.syntect_shelf.proofs.leads.unread_of_whole.Given as goal

abbrev pub invariant-loop-place : goal.invariant-loop-place
invariant-loop-place l = (i : ℕ) → i < l.place → unread_from l.definitions l.whole i ≡ None
