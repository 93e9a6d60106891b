-- Why no more connections are served.
use Rattle.fab_wire_serving.specs.declared.serving.ServeFault.{ServeFault}
use Rattle.fab_wire_serving.specs.declared.serving.ServeFault.TheVariants.{Listener, NoClock}

-- the fault is told only where that is so: the listener gave no connection, or there was no clock
abbrev pub IsStopped : Type 0 → Type 0 → ServeFault → Type 0
IsStopped listener clock (Listener e) = listener
IsStopped listener clock NoClock = clock
