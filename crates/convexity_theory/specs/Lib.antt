pub mod Lined
pub mod Fits
pub mod Walked
pub mod places
