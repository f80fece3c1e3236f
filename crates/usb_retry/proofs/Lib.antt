pub mod Polls
pub mod Tries
