pub mod Runs
pub mod Outcomes
pub mod Turns
pub mod Answers
pub mod Demand
pub mod Alikes
