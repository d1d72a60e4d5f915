pub mod Lists
pub mod Moves
pub mod Seats
pub mod Gathered
