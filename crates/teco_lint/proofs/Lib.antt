pub mod Blanks
pub mod Cuts
pub mod FirstFaults
pub mod Misspelt
pub mod Noted
pub mod Rights
pub mod Told
