-- The world of a store.
use Rattle.std.specs.Prelude.{◌≡◌, Result, MatchResult}
use Rattle.std.specs.declared.alloc.Global.{Global}
use Rattle.fab_program_outside.specs.declared.faults.Fault.{Fault}
use Rattle.fab_program_outside.specs.Faults.{fault_of_opening}
use Rattle.fab_store_base.specs.declared.OpenFault.{OpenFault}
use Rattle.fab_store_base.specs.declared.store.Store as store
use Rattle.fab_store_base.specs.Calls.{IsCounted, OpensNot}
use Rattle.fab_store_base.specs.Worlds.{HoldsWorld, IsWritten}
use Rattle.fab_store_tables.specs.Tables.{Tables}
use Rattle.fab_world.specs.Soundness.{IsSound}
use Rattle.fab_world.specs.Worlds.{WorldRows}

module _ {S : Type 0} (g : store.Ghosts S Global) where
  -- nothing of the store is changed: its tables are those of before, and a stop leaves what it would have left
  pub record IsOnlyRead (before after : S) : Type 0 where
    pub clean : g.is_clean after → g.is_clean before
    pub same : g.is_clean after → g.is_open after → g.is_open before × (g.tables after ≡ g.tables before)
    pub stop : g.is_clean after → (left : Tables) → g.may_leave after left → g.may_leave before left

  -- a sound world, which the tables have unless a wrong answer of the disk was taken as true
  pub record HasWorld (before after : S) (w : WorldRows) : Type 0 where
    pub sound : IsSound w
    pub written : IsWritten w
    pub holds : g.is_clean after → g.is_open after × HoldsWorld (g.tables after) w
    pub uncounted : g.refused after ≡ g.refused before

  -- the fault says why the tables have no world, or why they could not be read
  pub record HasNoWorld (before after : S) (told : Fault) : Type 0 where
    pub why : OpenFault
    pub is : told ≡ fault_of_opening why
    pub holds : g.is_clean after → OpensNot (g.tables before) why
    pub counted : IsCounted (g.refused before) (g.refused after) why

  -- what reading a store comes to, which changes nothing of it
  abbrev pub IsLoaded : (before after : S) → Result WorldRows Fault → Type 0
  IsLoaded before after came = IsOnlyRead before after × MatchResult came (HasWorld before after) (HasNoWorld before after)
