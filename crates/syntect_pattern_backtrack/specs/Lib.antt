pub mod Machine
pub mod Stretches
pub mod Lookbehinds
pub mod Lines
pub mod Ends
pub use Rattle.syntect_count.specs as syntect_count
pub use Rattle.syntect_pattern_steps.specs.syntect_pattern as syntect_pattern
pub use Rattle.syntect_pattern_steps.specs.syntect_pattern_table as syntect_pattern_table
