-- What a desk does for bytes that are known, it does where they are not.
use Rattle.std.proofs.Common.{inl, inr}
use Rattle.std.specs.Prelude.{ℕ, List, Option, Some, None}
use Rattle.fab_wire_serving.specs.Sides.{Sides, begun_sides}
use Rattle.fab_store.specs.declared.Store as store
use Rattle.fab_wire.specs.declared.Desk.{Desk}
use Rattle.fab_wire.specs.declared.outcome.Outcome.{Outcome}
use Rattle.fab_wire.specs.declared.outcome.Outcome.TheVariants as outcome
use Rattle.fab_program_desks.specs.Fronts.{ServesDesk}

module _ {A S B R : Type 0} (g : store.Ghosts S A) where
  pub forgets_desk : (d : Desk A S B R) (moment : ℕ) (input : List ℕ) (sent : Option (List ℕ)) (until : ℕ) (after : Sides) (o : Outcome) (e : Desk A S B R)
      → ServesDesk g d moment (begun_sides (Some input) sent until) after o e → ServesDesk g d moment (begun_sides None sent until) after o e
  forgets_desk d moment input sent until after (outcome.Answered status) e h =
      (h.0, elim h.1 [ inl want ↦ inl (want.0, tt, want.2) | inr spelled ↦ inr (spelled.0, tt, spelled.2) ], h.2, h.3, h.4, h.5)
  forgets_desk d moment input sent until after outcome.Unsent e h =
      (h.0, elim h.1 [ inl want ↦ inl (want.0, tt, want.2) | inr spelled ↦ inr (spelled.0, tt, spelled.2) ], h.2, h.3, h.4)
  forgets_desk d moment input sent until after outcome.ReadFailed e h = h
  forgets_desk d moment input sent until after outcome.Empty e h = (tt, h.1, h.2, h.3, h.4)
