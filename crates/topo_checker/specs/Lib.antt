pub mod Room
pub mod Listing
pub mod Near
pub mod Passing
