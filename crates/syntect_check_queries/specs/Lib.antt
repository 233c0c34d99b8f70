pub use Rattle.syntect_regex.specs as syntect_regex
