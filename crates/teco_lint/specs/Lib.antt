pub mod Calls
pub mod Faults
pub mod Spelling
pub mod Strings
pub mod Right
pub mod Told
