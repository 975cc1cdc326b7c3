mod Lines
mod Turns
