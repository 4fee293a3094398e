pub mod Written
pub mod Block
pub mod Levelled
pub mod RoundTrips
pub mod Numbers
pub mod Demands
