mod Regroups
mod FoundMoves
mod FoundPairs
mod AskedPairs
mod Few
mod OwnRows
mod AtMost
