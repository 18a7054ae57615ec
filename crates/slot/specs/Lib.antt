pub mod Slot
pub mod Sound
