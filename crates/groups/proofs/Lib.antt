pub mod Bags
pub mod Pairs
pub mod Picking
pub mod Matching
