pub mod Derived
pub mod Deciding
pub mod Sorted
pub mod Verdicts
