pub mod Closing
pub mod Sessions
pub mod Worked
