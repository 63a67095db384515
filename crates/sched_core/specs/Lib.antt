pub mod Bounds
pub mod Core
pub mod Start
pub mod Step
pub mod Sound
pub mod Laws
pub mod Ends
