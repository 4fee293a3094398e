pub mod Chains
pub mod OneChain
pub mod ChainRow
pub mod ShortChains
pub mod Lines
pub mod TreeCounts
pub mod ListedCounts
pub mod Promises
