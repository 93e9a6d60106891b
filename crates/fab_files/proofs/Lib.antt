mod Pieces
mod Counted
mod Told
