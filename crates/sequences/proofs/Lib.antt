pub mod Counting
pub mod Stores
pub mod Sums
