-- Definitions for the contracts of private functions.
pub mod ByView
pub mod Checked
pub mod DownlinksByView
pub mod LimitsByView
