pub mod UnderWay
pub mod Log
