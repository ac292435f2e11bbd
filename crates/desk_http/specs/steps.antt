-- Definitions for the contracts of private functions.
pub mod Answering
pub mod Fields
pub mod Heads
pub mod Reports
pub mod Requests
pub mod Targets
