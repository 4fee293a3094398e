pub mod Sources
pub mod Answer
pub mod PrivateTracing
pub mod Promises
