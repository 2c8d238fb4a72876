pub mod Levels
pub mod Points
pub mod Fronts
pub mod Field15
