pub mod Formulas
pub mod Deciding
pub mod Meanings
pub mod Growing
pub mod Rules
pub mod Examples
pub mod Numbers
