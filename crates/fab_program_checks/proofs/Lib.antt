mod Gathered
mod Named
