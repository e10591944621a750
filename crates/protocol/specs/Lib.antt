pub mod Calls
pub mod ChaseOf
pub mod Law
pub mod Runs
pub mod States
