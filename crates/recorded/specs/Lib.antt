pub mod Numbers
pub mod Entries
pub mod Heads
pub mod Files
