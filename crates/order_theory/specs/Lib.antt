pub mod Sound
pub mod Queued
pub mod Cycle
