pub mod Going
pub mod Groups
pub mod Permits
pub mod Later
pub mod Joined
pub mod Placed
pub mod AddedUp
pub mod Turns
