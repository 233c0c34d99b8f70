pub mod TextLaws
pub mod SubstitutionLaws
pub mod ContextNamesLaws
