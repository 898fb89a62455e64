pub mod Citing
pub mod Marking
pub mod Placing
pub mod Holding
