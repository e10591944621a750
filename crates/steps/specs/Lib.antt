pub mod Heads
pub mod Judged
pub mod Sides
pub mod Stopping
