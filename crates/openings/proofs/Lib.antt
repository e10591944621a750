pub mod Constant
pub mod Judging
pub mod Marking
