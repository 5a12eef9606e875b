pub mod Ends
pub mod Place
