pub mod Sums
pub mod Stores
pub mod Counts
pub mod Tallies
