pub mod Same
pub mod MapBytes
pub mod Bounds
pub mod Asked
pub mod Used
