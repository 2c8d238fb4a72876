pub mod Answer
pub mod Reading
pub mod Ends
pub mod Message
pub mod Meaning
