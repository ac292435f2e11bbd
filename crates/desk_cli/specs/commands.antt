-- A file for each command.
pub mod Auditing
pub mod Checking
pub mod Hear
pub mod Importing
pub mod Init
pub mod Lines
pub mod Listing
pub mod Log
pub mod Migrating
pub mod MonthReports
pub mod Reports
pub mod Serving
pub mod Version
