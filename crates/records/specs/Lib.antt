pub mod Slots
pub mod Tested
