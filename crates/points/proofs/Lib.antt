pub mod Counts
pub mod Members
pub mod Sizes
