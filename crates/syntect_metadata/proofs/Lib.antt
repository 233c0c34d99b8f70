pub mod EntryLaws
pub mod MergeLaws
pub mod RankLaws
pub mod SetLaws
pub mod TextLaws
pub mod ValueLaws
pub use Rattle.syntect_regex.proofs.syntect_count_proofs as syntect_count_proofs
pub use Rattle.syntect_regex.proofs as syntect_regex_proofs
