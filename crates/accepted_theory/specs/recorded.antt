pub mod Ordered
pub mod Allowed
pub mod Same
