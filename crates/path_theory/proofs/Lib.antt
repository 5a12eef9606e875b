pub mod NoPath
pub mod Promise
pub mod Agree
pub mod Refused
pub mod Short
pub mod Unique
pub mod Instances
pub mod levels
