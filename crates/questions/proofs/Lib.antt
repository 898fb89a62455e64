pub mod Answering
pub mod Reckoned
