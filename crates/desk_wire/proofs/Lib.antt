-- The lemmas about texts that are read and written: messages and answers in JSON, numbers, EUIs, and gateway reports in CSV.
pub mod CsvRows
pub mod DataRateNumbers
pub mod DecimalDigits
pub mod FirstFaults
pub mod Fitting
pub mod HexTexts
pub mod InRange
pub mod Kept
pub mod NameTexts
pub mod OneLine
pub mod PlainValues
pub mod Printed
pub mod ReadBack
pub mod Sizes
pub mod TreeData
pub mod WorkedRows
