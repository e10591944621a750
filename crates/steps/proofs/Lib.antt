pub mod Firing
pub mod Freshening
pub mod Standing
