pub mod SetTable
pub mod Table
pub mod Program
pub mod Builder
pub mod Starts
pub mod PlaceLists
pub mod Needs
pub mod Jumps
pub mod Lengths
pub use Rattle.syntect_pattern.specs as syntect_pattern
