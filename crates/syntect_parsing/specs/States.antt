-- What is kept between two lines.
use Rattle.std.specs.Prelude.{◌≡◌, ℕ}
pub use Rattle.syntect_reading_choice.specs.declared.level.Level.{Level}
pub use Rattle.syntect_parsing.specs.declared.parser.Standing.{Standing}
use Rattle.syntect_parsing.specs.declared.parser.ParseState.{ParseState}

-- where a reader of lines stands
abbrev pub standing : ParseState → Standing
standing state = state.standing

-- how many turns its reader made so far
abbrev pub turns_made : ParseState → ℕ
turns_made state = state.count.made

-- how many steps their searches took
abbrev pub steps_made : ParseState → ℕ
steps_made state = state.steps.made

-- two states count the same turns and steps
pub record CountsSame (a b : ParseState) : Type 0 where
  pub turns : turns_made b ≡ turns_made a
  pub steps : steps_made b ≡ steps_made a
