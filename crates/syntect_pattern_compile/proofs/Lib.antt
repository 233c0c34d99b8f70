pub mod ClassReading
pub mod BodyReading
pub mod ReaderLaws
pub mod WholeLaws
pub mod GroupLaws
pub mod JoinLaws
pub mod NeedLaws
