pub mod Numbers
pub mod Answers
pub mod Outcomes
pub mod Requests
pub mod Descriptors
pub mod Actions
