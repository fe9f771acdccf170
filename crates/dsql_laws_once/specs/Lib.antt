pub mod Once
pub mod Counted
pub mod Transactions
pub mod Worked
