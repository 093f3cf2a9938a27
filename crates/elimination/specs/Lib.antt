pub mod Memory
pub mod States
pub mod Answers
