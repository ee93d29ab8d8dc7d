pub mod Sums
pub mod Systems
pub mod Reductions
pub mod Substitution
pub mod Ends
pub mod Cells
pub mod Columns
pub mod Outcomes
