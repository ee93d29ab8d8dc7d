pub mod Nearest
pub mod Steps
