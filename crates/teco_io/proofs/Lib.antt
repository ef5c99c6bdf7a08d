pub mod Counting
pub mod Shown
pub mod Pieces
pub mod Sources
