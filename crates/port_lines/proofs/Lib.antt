pub mod Among
pub mod PortLines
