pub mod Places
pub mod Testable
