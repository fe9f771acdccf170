pub mod Token
pub mod Registry
pub mod Table
pub mod Laws
pub mod Worked
