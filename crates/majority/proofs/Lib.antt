pub mod Votes
pub mod Table
pub mod Meaning
pub mod Reading
pub mod Alikes
pub mod Examples
pub mod Paper
