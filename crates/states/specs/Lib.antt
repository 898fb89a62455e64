pub mod States
pub mod Refusals
pub mod Support
pub mod Texts
