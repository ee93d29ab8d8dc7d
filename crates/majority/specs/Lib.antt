pub mod Majority
pub mod Steps
