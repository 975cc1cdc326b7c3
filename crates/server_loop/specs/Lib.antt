pub mod Seat
pub mod Obeying
