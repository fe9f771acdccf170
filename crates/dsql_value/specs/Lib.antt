pub mod Arguments
pub mod ArgumentLaws
pub mod WorkedArguments
