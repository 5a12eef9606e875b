pub mod Turns
pub mod RoundTrip
pub mod Buffers
