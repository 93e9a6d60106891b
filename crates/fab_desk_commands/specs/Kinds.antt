-- Which parts of the next world a command on a plan gives.
use Rattle.std.specs.Prelude.{ℕ, ◌≡◌, List}
use Rattle.fab_desk_commands.specs.declared.next.Next.{Next}
use Rattle.fab_desk_commands.specs.declared.next.Next.TheVariants.{Turned, Reconfigured}

-- the plan of this name is turned, and nothing else
abbrev pub IsTurn : {A : Type 0} → List ℕ → Next A → Type 0
IsTurn n (Turned m turn) = m ≡ n
IsTurn n _ = ⊥

-- the configuration changes, and the plan of this name is turned
abbrev pub IsReconfiguration : {A : Type 0} → List ℕ → Next A → Type 0
IsReconfiguration n (Reconfigured config m turn) = m ≡ n
IsReconfiguration n _ = ⊥
