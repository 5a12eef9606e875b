pub mod Ways
pub mod Searched
