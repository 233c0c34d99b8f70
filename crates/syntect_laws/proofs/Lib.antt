mod ReachLaws
mod PlaceLaws
mod PlainStarts
mod LinkRows
mod LoaderPartLaws
mod StepLaws
mod ItemLaws
mod DepthLaws
mod LoaderRows
pub mod ReadingRows
pub mod SearchRows
pub mod Once
pub mod Cover
pub mod Run
pub mod Ends
pub mod Boundaries
pub mod LineRows
pub mod LongRows
pub mod QuoteLaws
pub mod WordLaws
pub mod SingleLaws
pub mod PlainLaws
pub mod ScalarLaws
pub mod GapLaws
pub mod ApartLaws
pub mod PartLaws
pub mod LineLaws
pub mod LiteralLaws
pub mod TextLaws
pub mod BlockLaws
pub mod NestLaws
pub mod FitLaws
pub mod FoundLaws
pub mod YamlRows
pub mod CallLaws
pub mod Utf8Laws
pub use Rattle.syntect_parsing.proofs.syntect_grammar_proofs as syntect_grammar_proofs
pub use Rattle.syntect_parsing.proofs.syntect_grammar_linker_proofs as syntect_grammar_linker_proofs
pub use Rattle.syntect_parsing.proofs.syntect_reading_choice_proofs as syntect_reading_choice_proofs
