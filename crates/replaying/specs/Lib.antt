pub mod Checksum
pub mod Inside
