pub mod Laws
pub mod Buckets
pub mod Turns
pub mod Passes
pub mod Collecting
pub mod Found
