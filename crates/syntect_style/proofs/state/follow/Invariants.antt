use Rattle.std.proofs.Common.{◌≡◌, ◌≤◌, [], take, length}
use Rattle.syntect_style.specs.Kept.{AreKnown, scopes_of}
use Rattle.syntect_style.proofs.state.follow.Given as goal

abbrev pub invariant-loop-place : goal.invariant-loop-place
invariant-loop-place l = record {
  len : l.place ≤ length l.kept;
  on_stack : take l.known (scopes_of l.fn.kept) ≡ take l.known l.stack → take l.place (scopes_of l.kept) ≡ take l.place l.stack;
  known : AreKnown l.highlighter [] l.fn.kept → AreKnown l.highlighter [] l.kept;
}
