pub mod Judge
pub mod Output
pub mod Counting
pub mod Feed
pub mod Steps
pub mod Print
