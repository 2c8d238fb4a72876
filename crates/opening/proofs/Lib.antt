pub mod Steps
pub mod Plan
