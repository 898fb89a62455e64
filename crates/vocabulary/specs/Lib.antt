pub mod Lists
pub mod View
pub mod Calls
pub mod Stored
pub mod Leaves
