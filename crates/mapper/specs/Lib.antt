pub mod Mapped
pub mod Answer
pub mod PrivateWriting
pub mod PrivatePricing
pub mod Shares
pub mod View
pub mod Promises
