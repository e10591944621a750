pub mod Instanced
pub mod Slots
