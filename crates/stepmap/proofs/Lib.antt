pub mod Fields
pub mod PortNumbers
pub mod LinkFaults
pub mod Marking
pub mod Reading
pub mod Answers
pub mod Known
pub mod LinkPass
