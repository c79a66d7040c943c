mod Ended
mod Progress
mod Answered
mod Ending
mod Telling
mod Accepting
mod Stated
