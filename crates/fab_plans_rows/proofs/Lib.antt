mod Elsewhere
mod Steps
mod KeysNamed
mod NoneTouched
mod Clearing
mod Touching
mod Firsts
mod Losses
