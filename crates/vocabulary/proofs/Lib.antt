pub mod Views
pub mod Layers
pub mod Entered
pub mod Found
pub mod Kept
pub mod Calling
