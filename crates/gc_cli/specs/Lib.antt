pub mod Arguments
pub mod CarryOut
pub mod CommandLine
pub mod Lines
pub mod Output
pub mod Serve
pub mod WholeRun
