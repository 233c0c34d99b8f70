pub mod AnswerLaws
pub mod Falls
pub mod Open
pub mod DialectLaws
pub mod TakenLaws
pub mod LevelLaws
pub mod ReplayLaws
pub mod StackLaws
pub mod LeadLaws
pub mod CountLaws
pub mod RememberLaws
pub mod OrderLaws
pub mod CaptureLaws
pub mod MarkLaws
pub mod CapturedLaws
pub mod SortLaws
pub mod ShowLaws
pub mod ChainLaws
pub mod ChoiceLaws
pub mod TakeLaws
pub mod WholeTurnLaws
pub mod BoundLaws
pub mod Runs
pub mod EachLaws
pub mod ClosedLaws
pub mod RefusalLaws
pub mod StandingLaws
pub mod StateLaws
pub mod LinkedLaws
pub mod WorkLaws
pub mod PrototypeLaws
pub mod LimitLaws
pub mod WithinLaws
pub use Rattle.syntect_reading_choice.proofs.syntect_count_proofs as syntect_count_proofs
pub use Rattle.syntect_reading_choice.proofs.syntect_grammar_proofs as syntect_grammar_proofs
pub use Rattle.syntect_reading_choice.proofs.syntect_grammar_contexts_proofs as syntect_grammar_contexts_proofs
pub use Rattle.syntect_reading_choice.proofs.syntect_grammar_linker_proofs as syntect_grammar_linker_proofs
pub use Rattle.syntect_reading_choice.proofs as syntect_reading_choice_proofs
pub use Rattle.syntect_reading_choice.proofs.syntect_reading_state_proofs as syntect_reading_state_proofs
pub use Rattle.syntect_reading_choice.proofs.syntect_yaml_proofs as syntect_yaml_proofs
