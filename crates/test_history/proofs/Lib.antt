pub mod FullMarks
pub mod Lines
