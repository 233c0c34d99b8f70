-- How many steps it takes to put the texts of groups into a pattern.
use Rattle.std.specs.Prelude.{ℕ, ◌+◌, ◌*◌, ◌/◌, List, length}
use Rattle.syntect_reading_state.specs.syntect_grammar_contexts.Substitution.{Opening, substituted}

-- the text of a pattern with the groups of an opening match put in
abbrev pub put_in : List ℕ → Opening → List ℕ
put_in pattern o = substituted pattern o.region o.line

-- the least that it takes, since some others are looked at too
abbrev pub least_steps : ℕ
least_steps = 8

-- to look whether it is kept: one for each sixty-four bytes of the pattern and of the match's line,
-- and the least
abbrev pub look_steps : List ℕ → Opening → ℕ
look_steps pattern o = length pattern / 64 + length o.line / 64 + least_steps

-- to write it and make it searchable: four for each byte
abbrev pub make_steps : List ℕ → ℕ
make_steps text = length text * 4

-- to hand on one that is kept: one for each sixty-four bytes
abbrev pub use_steps : List ℕ → ℕ
use_steps text = length text / 64

-- the most that both take
abbrev pub put_steps : List ℕ → Opening → ℕ
put_steps pattern o = look_steps pattern o + make_steps (put_in pattern o)
