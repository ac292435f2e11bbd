-- The lemmas about HTTP: where a head ends, what its fields and its path mean, routes, responses, and served connections.
pub mod Digits
pub mod Ended
pub mod Ends
pub mod FieldSteps
pub mod GoingOn
pub mod Named
pub mod OneHead
pub mod OneRequest
pub mod Reported
pub mod Routes
pub mod Served
pub mod Written
