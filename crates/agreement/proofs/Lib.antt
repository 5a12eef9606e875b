pub mod Laying
pub mod Reading
pub mod Listing
pub mod Line
pub mod Agreeing
pub mod Matched
