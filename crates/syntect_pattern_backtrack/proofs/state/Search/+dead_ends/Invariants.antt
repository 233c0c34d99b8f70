use Rattle.syntect_pattern_backtrack.proofs.state.Search.+dead_ends.Given as goal

abbrev pub decreases-dead_ends : goal.decreases-dead_ends
decreases-dead_ends l = l.list
