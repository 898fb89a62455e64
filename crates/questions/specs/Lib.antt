pub mod Leaves
pub mod Example
