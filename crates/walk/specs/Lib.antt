pub mod Queue
pub mod Lows
pub mod Fitting
pub mod Turns
pub mod Walks
pub mod Starts
