pub mod PassLaws
pub mod QuantifierLaws
pub mod PartLaws
pub mod TokenLaws
pub mod EscapeLaws
pub mod NameLaws
pub mod PlainLaws
