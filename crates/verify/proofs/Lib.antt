pub mod Meaning
pub mod Lists
pub mod Table
pub mod Answers
pub mod Proposals
pub mod Alikes
pub mod Paper
