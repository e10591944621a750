pub mod Eaches
mod Last
