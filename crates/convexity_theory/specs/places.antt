pub mod Passed
pub mod Places
pub mod Neighbour
