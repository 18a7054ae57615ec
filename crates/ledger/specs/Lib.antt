pub mod Ledger
pub mod Sound
pub mod Inside
pub mod Take
