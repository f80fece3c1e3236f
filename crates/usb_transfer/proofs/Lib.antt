pub mod Steps
pub mod Regroups
pub mod Logged
pub mod Outcomes
