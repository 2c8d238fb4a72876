pub mod Examples
pub mod Demands
pub mod Turns
pub mod Determined
pub mod Rooms
pub mod Whys
pub mod Bundles
pub mod Boards
