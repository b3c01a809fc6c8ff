pub mod Filing
pub mod Refusals
