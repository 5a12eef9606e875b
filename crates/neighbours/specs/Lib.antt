pub mod Tabled
pub mod Linked
