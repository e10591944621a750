pub mod Fitting
pub mod Guarding
pub mod Placing
pub mod Searching
