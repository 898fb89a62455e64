pub mod Reading
pub mod Sets
pub mod Lines
pub mod Candidates
