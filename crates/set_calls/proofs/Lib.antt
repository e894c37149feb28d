mod Ended
mod Appends
mod Known
mod Steps
