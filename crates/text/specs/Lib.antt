pub mod Parts
pub mod Numbers
pub mod Lists
pub mod Printed
