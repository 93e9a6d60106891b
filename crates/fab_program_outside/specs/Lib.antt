pub mod Coming
pub mod Contents
pub mod Faults
pub mod Moments
pub mod Printing
pub mod Telling
