-- Definitions for the contracts of private functions.
pub mod CsvReports
pub mod Texts
pub mod TreeData
