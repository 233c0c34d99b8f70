pub mod BuiltLaws
pub mod ClassedLaws
pub mod ClassedPageLaws
pub mod LeadLaws
pub mod ExactLaws
pub mod WithinLaws
pub mod PageLaws
pub mod LoadedLaws
pub mod StayLaws
pub mod OrderlyLaws
pub mod ReaderLaws
pub mod RowLaws
pub mod PlainLaws
pub mod NewlineLaws
pub mod FileLaws
pub mod LoadedSetLaws
pub use Rattle.syntect_grammar_limits.proofs as syntect_grammar_limits_proofs
