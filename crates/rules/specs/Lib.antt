pub mod Covering
pub mod Meaning
pub mod Rules
