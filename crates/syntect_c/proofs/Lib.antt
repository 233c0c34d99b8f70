pub mod AsBox
pub mod CallLaws
pub mod DocAsBox
pub mod DocLaws
pub mod Held
pub mod SetLaws
pub mod SpanLaws
pub mod TextLaws
