pub mod Areas
pub mod Texts
pub mod Paths
pub mod Prepares
pub mod Starts
pub mod Lines
pub mod Written
