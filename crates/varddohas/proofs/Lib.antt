pub mod Exported
pub mod Promises
