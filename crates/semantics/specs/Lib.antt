pub mod Computed
pub mod Subject
