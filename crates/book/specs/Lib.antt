pub mod Holds
pub mod Books
pub mod Concluding
pub mod Runs
pub mod Law
pub mod Example
