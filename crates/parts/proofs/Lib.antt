pub mod Own
pub mod Fields
pub mod Steps
pub mod Shown
pub mod Answers
pub mod Records
