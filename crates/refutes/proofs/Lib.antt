pub mod Counting
pub mod Refuting
pub mod Satisfies
