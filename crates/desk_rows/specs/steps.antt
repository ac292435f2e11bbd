-- Definitions for the contracts of private functions, and for the proofs.
pub mod Change
pub mod Errors
pub mod Latest
pub mod Meta
pub mod Queries
pub mod Shown
pub mod Statements
pub mod Texts
