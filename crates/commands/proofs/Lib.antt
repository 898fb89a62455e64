pub mod Splitting
pub mod Collecting
pub mod Ending
pub mod Reading
pub mod Writing
pub mod Requests
