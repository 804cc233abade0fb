mod Joining
mod Distinct
