pub mod PastEnd
pub mod Calls
