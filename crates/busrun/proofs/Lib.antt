pub mod Bench
pub mod Logs
pub mod Whole
