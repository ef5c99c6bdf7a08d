pub mod Spelling
pub mod Spot
pub mod Shown
pub mod Placed
pub mod Token
pub mod Stop
