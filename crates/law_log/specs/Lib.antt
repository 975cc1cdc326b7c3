pub mod ProposedCommands
pub mod AgreedLog
