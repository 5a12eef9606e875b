pub mod Within
pub mod Placed
pub mod Words
pub mod Usable
