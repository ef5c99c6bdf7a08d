pub mod CommandLines
pub mod Found
pub mod Lines
pub mod Outputs
