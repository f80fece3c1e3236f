pub mod Runs
pub mod Outcomes
