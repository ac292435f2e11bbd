-- Definitions for the contracts of private functions, and for the proofs.
pub mod Adopting
pub mod Calls
pub mod CheckedFaults
pub mod Counting
pub mod Effects
pub mod Faults
pub mod Keeper
pub mod LookUps
pub mod Migrating
pub mod Shape
