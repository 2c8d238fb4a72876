pub mod Numbers
pub mod Shape
pub mod Time
pub mod Field
