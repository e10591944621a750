pub mod Conducted
pub mod Pools
pub mod Vouched
