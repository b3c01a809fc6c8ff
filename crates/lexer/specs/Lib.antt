pub mod Text
pub mod Cuts
pub mod Parts
pub mod Numerals
pub mod Headers
