pub mod Chased
pub mod Keeping
pub mod Orders
pub mod Plain
pub mod Refusing
pub mod Theories
pub mod Verdicts
pub mod Whole
