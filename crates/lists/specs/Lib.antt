pub mod Lists
pub mod Found
pub mod Ascii
pub mod Bounds
pub mod Weight
