pub mod Connection
pub mod Holder
pub mod Served
pub mod Used
pub mod Values
pub mod Wire
