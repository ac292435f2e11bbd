-- Definitions for the contracts of private functions.
pub mod CsvImporting
pub mod Hearing
pub mod Lines
pub mod Listing
pub mod Logs
pub mod MonthReports
pub mod Rooms
pub mod Uses
