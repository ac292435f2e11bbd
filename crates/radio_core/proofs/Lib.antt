-- The lemmas about bands and frames that are found, numbers of blocks and time on air, and names as text.
pub mod BlockCounts
pub mod FoundBands
pub mod FoundFaults
pub mod FoundFrames
pub mod NameTexts
pub mod PaddedTexts
mod WorkedRows
