pub mod WritesGoOn
pub mod MachineTies
