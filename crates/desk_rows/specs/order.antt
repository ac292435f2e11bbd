pub mod Arranged
pub mod Changes
pub mod Facts
pub mod Keys
pub mod Listed
pub mod LookUps
pub mod RowsOf
