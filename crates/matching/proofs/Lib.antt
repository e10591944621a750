pub mod Placed
pub mod Rounds
pub mod Standing
