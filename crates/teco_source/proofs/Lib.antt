pub mod Bytes
pub mod Reading
pub mod LinesRead
pub mod Writing
pub mod Written
pub mod LayoutLaws
pub mod Places
pub mod Placements
mod SourceRows
pub mod PlaceLaws
pub mod Parts
