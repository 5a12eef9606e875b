pub mod Extended
pub mod Room
