pub mod Calling
pub mod LineCalls
pub mod TopoCalls
pub mod PathCalls
pub mod ViewCalls
