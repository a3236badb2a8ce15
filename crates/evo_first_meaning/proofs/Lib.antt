mod Found
mod Calls
mod Lines
mod Programs
