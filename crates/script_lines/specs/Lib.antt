pub mod Contents
pub mod Pattern
pub mod Printed
pub mod Requests
