pub mod Promises
pub mod FromOrder
pub mod Preparing
