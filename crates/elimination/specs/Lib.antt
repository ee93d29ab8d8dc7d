pub mod System
pub mod Packed
pub mod Outcome
pub mod Steps
