pub mod Looks
pub mod Changes
pub mod Files
