pub mod Replays
pub mod Files
