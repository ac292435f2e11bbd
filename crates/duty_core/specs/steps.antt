-- Definitions for the contracts of private functions.
pub mod Edges
pub mod Marks
pub mod Windows
