pub mod Place
pub mod Parts
pub mod Words
pub mod Given
