pub mod Arities
pub mod Bodies
pub mod Checked
