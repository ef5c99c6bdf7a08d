pub mod ArgumentLaws
pub mod ArgumentRows
pub mod Digits
pub mod DigitLaws
pub mod Contents
pub mod Levels
