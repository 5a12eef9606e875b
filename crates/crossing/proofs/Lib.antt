pub mod Refused
pub mod Cut
pub mod Crossed
