pub mod Sweeps
pub mod Directions
pub mod Doubles
pub mod Flats
