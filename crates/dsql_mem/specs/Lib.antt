pub mod Laws
pub mod Wire
pub mod Worked
pub mod WorkedPlans
