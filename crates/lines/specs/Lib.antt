pub mod Text
pub mod Parse
pub mod Scan
pub mod Content
