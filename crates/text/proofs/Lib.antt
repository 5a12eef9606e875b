pub mod Split
pub mod Lines
pub mod Numbers
pub mod Lists
pub mod Printed
