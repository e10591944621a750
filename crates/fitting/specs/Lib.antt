pub mod Bindings
pub mod Instances
