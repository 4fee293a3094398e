pub mod Promises
pub mod Table
pub mod Decimals
pub mod Lines
pub mod Sheets
