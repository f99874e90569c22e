pub mod Tally
pub mod Seats
pub mod Held
