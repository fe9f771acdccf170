pub mod LineCalls
pub mod LineOps
pub mod LineReplies
pub mod Lines
