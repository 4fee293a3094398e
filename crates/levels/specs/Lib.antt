pub mod Rules
pub mod Levels
pub mod HeightTable
pub mod PrivateSinks
pub mod PrivateLevels
pub mod Promises
