pub mod Judging
pub mod Seeing
pub mod Written
