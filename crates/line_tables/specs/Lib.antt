pub mod Room
pub mod Laying
pub mod Layout
pub mod Spread
pub mod Steps
pub mod Frontier
pub mod Widths
pub mod Spreading
