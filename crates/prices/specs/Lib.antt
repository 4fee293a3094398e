pub mod Prices
pub mod Checks
pub mod Promises
pub mod Worked
pub mod PrivatePrices
