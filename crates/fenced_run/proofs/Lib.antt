mod AtOnce
mod Keeping
mod Rightful
mod Running
mod Saying
mod Telling
mod Turning
