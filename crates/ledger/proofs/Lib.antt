pub mod Digits
pub mod Owner
pub mod Vacancy
pub mod Verdicts
pub mod Openings
mod Changes
mod Known
pub mod Histories
pub mod Examples
