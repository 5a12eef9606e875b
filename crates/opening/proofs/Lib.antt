pub mod Opening
pub mod Using
