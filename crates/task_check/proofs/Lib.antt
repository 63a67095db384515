mod Ranks
mod Rising
mod Walk
mod Order
mod Supplied
pub mod Accepted
pub mod Goodness
pub mod Bounded
pub mod Ratios
pub mod Sums
pub mod Touching
pub mod Columns
pub mod Spreads
pub mod BoxWindows
pub mod OldWindows
pub mod Marks
pub mod AtPlaces
pub mod Once
pub mod PlanSums
pub mod OldSlots
pub mod NewSlots
pub mod Parts
pub mod Details
pub mod Written
pub mod Volumes
pub mod Tests
pub mod Gathered
pub mod FarBounds
pub mod Whole
pub mod Apart
pub mod Wanted
pub mod Reading
pub mod Totals
pub mod OldReads
pub mod PlanLimits
pub mod OneFirst
pub mod Judging
pub mod FirstOf
pub mod JudgedLevels
pub mod JudgedNames
pub mod JudgedComputed
pub mod JudgedSupplies
pub mod JudgedLines
pub mod JudgedPlans
pub mod JudgedProblems
pub mod Finding
pub mod Tallies
