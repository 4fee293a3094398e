pub mod Counts
pub mod Text
pub mod Promises
pub mod PrivateTable
