pub mod Assignments
pub mod Sets
