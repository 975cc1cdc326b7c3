pub mod EntryEpochs
pub mod InTime
