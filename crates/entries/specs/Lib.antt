pub mod Scans
pub mod Lists
pub mod Concluding
