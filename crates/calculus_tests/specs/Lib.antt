pub mod Truth
pub mod Lawful
