pub mod Bands
pub mod Counters
pub mod DataRates
pub mod Frames
pub mod Names
pub mod TimeOnAir
pub mod steps
