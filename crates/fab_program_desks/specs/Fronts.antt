-- What a desk that serves connections does.
use Rattle.std.specs.Prelude.{ℕ, ◌≡◌, List, Bool, None, is_none}
use Rattle.fab_wire_serving.specs.Sides.{Side, Sides}
use Rattle.fab_store.specs.declared.OpenFault.{OpenFault}
use Rattle.fab_store.specs.declared.Store as store
use Rattle.fab_wire_base.specs.Whole.{IsWhole, Lacks}
use Rattle.fab_wire.specs.Desks.{IsOpened, IsUnopened}
use Rattle.fab_wire.specs.Handled.{policy_of, world_of, serving_of}
use Rattle.fab_wire.specs.Known.{is_known}
use Rattle.fab_wire.specs.Serving.{Serves}
use Rattle.fab_wire.specs.Serving as wire
use Rattle.fab_wire.specs.declared.Desk.{Desk}
use Rattle.fab_wire.specs.declared.outcome.Outcome.{Outcome}

-- no store serves
abbrev pub is_halted_desk : {A S B R : Type 0} → Desk A S B R → Bool
is_halted_desk d = is_none (serving_of d)

-- whatever comes behind these bytes, a connection asks what they ask
abbrev pub IsWholeDesk : {A S B R : Type 0} → Desk A S B R → List ℕ → Type 0
IsWholeDesk d bytes = IsWhole (is_known (policy_of d)) bytes

-- no head is there yet, or some of its body is lacking: so many bytes have to be there
abbrev pub LacksDesk : {A S B R : Type 0} → Desk A S B R → List ℕ → ℕ → Type 0
LacksDesk d bytes size = Lacks (is_known (policy_of d)) bytes size

-- the store that was left aside is let go of
abbrev pub ReleasesDesk : {A S B R : Type 0} → Desk A S B R → Desk A S B R → Type 0
ReleasesDesk d e = e ≡ record d { aside = None }

-- a side of a connection as the wire sees it: its bytes, and how many of its calls have failed
abbrev pub wire_side : Side → wire.Side
wire_side side = wire.side side.bytes side.failures

module _ {A S B R : Type 0} (g : store.Ghosts S A) where
  -- a connection is served so: what its input spells is answered, and its two sides are left so
  abbrev pub ServesDesk : Desk A S B R → ℕ → Sides → Sides → Outcome → Desk A S B R → Type 0
  ServesDesk d moment before after o e =
      Serves g (wire_side before.input) (wire_side after.input) (wire_side before.sent) (wire_side after.sent) d moment o e

  -- the desk is opened over the store, with the policy that it had
  abbrev pub ReopensDesk : Desk A S B R → S → Desk A S B R → Type 0
  ReopensDesk d s e = (policy_of e ≡ policy_of d) × IsOpened g s (serving_of e) (world_of e)

module _ {A S : Type 0} (g : store.Ghosts S A) where
  -- no desk is opened over the store
  abbrev pub RefusesDesk : S → OpenFault → Type 0
  RefusesDesk s fault = (after : S) × IsUnopened g s fault after
