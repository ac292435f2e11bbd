-- Definitions for the contracts of private functions.
pub mod Audit
pub mod Auditing
pub mod Checking
pub mod CommandLine
pub mod Given
pub mod Jobs
pub mod Logging
pub mod Options
pub mod Printing
pub mod Serving
pub mod Unsound
pub mod Usages
