pub use Rattle.fab_looks_tries.proofs as fab_looks_tries
