pub mod WordLaws
pub mod Tokens
pub mod Decimals
mod LineLaws
mod Headlines
