pub mod Sent
pub mod Enders
pub mod Begins
pub mod Made
pub mod Within
pub mod Rules
pub mod Histories
