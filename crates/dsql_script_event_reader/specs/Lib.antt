pub mod Values
pub mod DriverForms
pub mod Asked
pub mod ReplyForms
pub mod Fits
pub mod Events
pub mod Refusals
