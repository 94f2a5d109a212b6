mod Taken
mod Answered
