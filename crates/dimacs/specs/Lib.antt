pub mod Denoting
pub mod Plain
pub mod Reading
pub mod Steps
