pub mod Laws
pub mod Same
pub mod Numbers
pub mod Stops
pub mod Good
pub mod Walk
