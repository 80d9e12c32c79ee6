mod Alone
mod BorrowSteps
mod BoxSteps
mod ListLemmas
mod ManyLemmas
mod Pair
mod Recast
mod Names
mod Walk
pub mod ReportLemmas
