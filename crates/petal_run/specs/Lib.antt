pub mod Asked
pub mod Said
pub mod Statuses
pub mod Written
