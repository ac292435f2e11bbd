-- Definitions for the contracts of private functions.
pub mod Answers
pub mod BookingPlaces
pub mod ByKey
pub mod Devices
pub mod Downlinks
pub mod Growing
pub mod Listing
pub mod Parts
pub mod Sessions
pub mod StartIndex
pub mod Tally
pub mod Traffic
pub mod UplinkPlaces
pub mod Uplinks
