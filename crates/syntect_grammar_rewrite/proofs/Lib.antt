pub mod CuttingLaws
pub mod ReferenceLaws
pub mod TokenLaws
pub mod NewlineLaws
pub mod ReplaceLaws
pub mod VariableLaws
pub mod ExpandLaws
pub mod VanishLaws
pub mod TurnLaws
pub mod Rows
pub mod PlainLaws
pub mod LengthLaws
mod OpenLaws
