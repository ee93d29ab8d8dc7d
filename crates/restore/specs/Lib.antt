pub mod Restore
pub mod Steps
