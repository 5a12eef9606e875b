pub mod Fractions
pub mod Rounding
pub mod Guessing
pub mod Rises
pub mod Along
pub mod Finding
pub mod Searching
pub mod Following
