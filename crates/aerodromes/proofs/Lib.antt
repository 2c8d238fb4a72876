pub mod Aerodromes
pub mod Field13
pub mod Field16
pub mod Field17
pub mod Index
pub mod Asked
