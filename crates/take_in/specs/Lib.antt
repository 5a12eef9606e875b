pub mod Taking
pub mod Said
pub mod Listed
