pub mod Empty
pub mod Demand
