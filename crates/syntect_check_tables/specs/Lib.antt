pub use Rattle.syntect_check_queries.specs.syntect_regex as syntect_regex
