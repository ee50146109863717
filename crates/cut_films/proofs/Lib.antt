mod Rest
mod Runs
mod Weighed
