pub mod Drafts
pub mod Tables
pub mod Theory
