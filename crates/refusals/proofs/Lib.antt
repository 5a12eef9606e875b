pub mod Answers
pub mod Rulings
