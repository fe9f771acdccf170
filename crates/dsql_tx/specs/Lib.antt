pub mod Transactions
pub mod Laws
pub mod Worked
