mod Grown
mod Reasons
