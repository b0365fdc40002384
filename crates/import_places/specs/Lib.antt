pub mod ImportPlaces
