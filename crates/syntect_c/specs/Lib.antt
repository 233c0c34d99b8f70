pub mod Calls
pub mod DocCalls
pub mod DocHolding
pub mod Documents
pub mod Finds
pub mod Holding
pub mod Sets
pub mod Spans
