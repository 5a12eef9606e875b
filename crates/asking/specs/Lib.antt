pub mod Standing
pub mod Says
pub mod Printed
pub mod Begun
pub mod Turns
