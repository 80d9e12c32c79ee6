pub mod Cause
pub mod SeenName
pub mod Files
pub mod FileFailures
