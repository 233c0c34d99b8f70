-- What is kept in mind while a line is read, for those above.
pub use Rattle.syntect_reading_state.specs.Memory.{Remembers}
