pub mod Shelved
pub mod Obeying
pub mod Granting
pub mod Keeping
pub mod Closing
pub mod Holding
pub mod Working
