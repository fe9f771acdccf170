pub mod Answered
pub mod Lists
pub mod Fitting
pub mod Keeping
pub mod Opens
pub mod Calling
