pub mod Scanning
pub mod Writing
