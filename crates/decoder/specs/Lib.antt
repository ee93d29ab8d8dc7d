pub mod Damage
pub mod Decode
pub mod Looking
pub mod Steps
