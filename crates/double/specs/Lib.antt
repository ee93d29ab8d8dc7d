pub mod Double
pub mod Steps
