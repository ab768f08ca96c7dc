mod Readers
mod RanBenches
mod RanTasks
mod Able
mod FirstAnswers
mod AllAtOnce
mod Answered
mod Told
mod OneTask
pub mod ToldBlocks
mod Swapped
mod BegunTasks
mod FedOn
mod KeptRuns
mod Advancing
pub mod OfPartitions
mod InOrder
mod Gathers
mod Idle
mod Reaching
mod OtherFaults
mod FinishedOne
mod WholePass
mod Behind
mod Feeds
mod MoreRows
mod Fields
mod Drains
mod DrainedAll
mod Starts
mod LeftRuns
mod MergedRuns
mod MergedAll
mod OneList
mod FilesOfLists
mod TotalsOfLists
mod AllLists
mod FromRuns
mod Leaving
pub mod Charged
pub mod ChargedTasks
