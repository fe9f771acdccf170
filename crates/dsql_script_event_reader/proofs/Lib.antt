pub mod Spelled
pub mod ValuesBack
pub mod MovesBack
pub mod DriverBack
pub mod LinesBack
pub mod AskedBack
pub mod RepliesBack
pub mod EventsBack
