pub mod Verify
pub mod Steps
pub mod Proposals
