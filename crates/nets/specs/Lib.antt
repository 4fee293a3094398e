pub mod Checks
pub mod Counts
pub mod PrivateChains
pub mod PrivateCounts
pub mod Promises
