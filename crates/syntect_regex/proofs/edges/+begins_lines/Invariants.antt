use Rattle.syntect_regex.proofs.edges.+begins_lines.Given as goal

abbrev pub decreases-begins_lines : goal.decreases-begins_lines
decreases-begins_lines l = l.looks
