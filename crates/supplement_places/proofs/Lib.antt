pub mod WordPlaces
pub mod Places
pub mod PlaceIndex
