pub mod Sources
pub mod Fanins
pub mod TracedRecords
pub mod Promises
pub mod Answering
