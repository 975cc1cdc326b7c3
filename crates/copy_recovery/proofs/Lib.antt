pub mod OldMarks
pub mod Pages
