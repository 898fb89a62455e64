pub mod Rising
pub mod Model
pub mod Theories
pub mod Refusals
pub mod Derivations
pub mod Joins
