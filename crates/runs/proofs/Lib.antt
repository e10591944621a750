pub mod Pooling
pub mod Walking
