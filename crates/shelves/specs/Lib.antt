pub mod Blank
pub mod Puts
pub mod Rows
pub mod Shown
