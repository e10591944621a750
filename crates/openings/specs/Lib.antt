pub mod Constants
pub mod Earlier
pub mod Filters
