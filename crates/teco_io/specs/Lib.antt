pub mod Terminal
pub mod Sink
pub mod Progress
pub mod Laws
pub mod Source
pub mod Input
pub mod Pieces
