pub mod Bounded
pub mod Growing
pub mod TaskSlots
pub mod LastVersions
mod ValidLists
mod ValidOrders
mod ValidGraphs
mod ValidDetails
mod ValidForward
mod ValidPlans
mod CountedPlans
pub mod Compiled
pub mod Standing
pub mod Laying
pub mod Ascending
pub mod Writing
pub mod PuttingOld
pub mod OldPlacing
pub mod OldStanding
pub mod Declared
pub mod Searching
pub mod Merging
pub mod ReadingSlots
pub mod ReadingParts
pub mod Placed
pub mod OneLine
pub mod InWindows
pub mod Joining
pub mod Wanting
pub mod Asked
