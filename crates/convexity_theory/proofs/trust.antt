pub mod Rules
pub mod Passing
pub mod Promise
pub mod Unique
pub mod Kept
pub mod Acyclic
pub mod Agree
pub mod Instances
