pub mod EarlyForms
pub mod Firsts
pub mod FormFaults
pub mod Judging
pub mod Once
pub mod Puts
pub mod SameAnswers
pub mod Tells
