pub mod Meant
pub mod Standing
pub mod Shows
