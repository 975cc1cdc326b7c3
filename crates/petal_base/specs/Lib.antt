pub mod Block
pub mod Name
pub mod Cells
pub mod Tuple
pub mod Limits
pub mod Origins
