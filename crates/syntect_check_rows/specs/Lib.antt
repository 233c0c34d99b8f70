pub use Rattle.syntect_check_tables.specs.syntect_regex as syntect_regex
