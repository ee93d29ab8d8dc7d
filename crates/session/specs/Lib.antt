pub mod Session
pub mod Arrival
pub mod Recording
pub mod Claim
pub mod Left
pub mod Steps
pub mod Named
