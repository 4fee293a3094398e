pub mod Ready
pub mod Written
pub mod Block
pub mod Levelled
pub mod RoundTrips
pub mod Figures
pub mod Numbers
pub mod Demands
