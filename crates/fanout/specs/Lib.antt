pub mod Nets
pub mod Trees
pub mod Answer
pub mod PrivateStretches
pub mod PrivateFilling
pub mod PrivateWalk
pub mod Worked
pub mod Promises
