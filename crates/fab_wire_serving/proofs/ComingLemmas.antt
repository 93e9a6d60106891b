-- What came of a connection, whatever is known of its sending; and a reading of a clock that may have failed.
use Rattle.std.proofs.Common.{◌≡◌, ℕ, ◌⊎◌, inl, inr, subst, sym, List, Option, Some, None}
use Rattle.std.specs.Time.{instant_nanos}
use Rattle.std.specs.declared.time.Instant.{Instant}
use Rattle.fab_wire_serving.specs.Coming.{ComesSo, CameSo}
use Rattle.fab_wire_serving.specs.Sides.{Side, Sides, begun_sides}
use Rattle.fab_wire_serving.specs.declared.connection.Came.{Came}
use Rattle.fab_wire_serving.specs.declared.connection.Came.TheVariants.{Served, Unsent}

pub came_so : {O : Type 0} (P : O → Sides → Type 0) (sent : Side → Type 0) (what : Came O) → ComesSo P sent what → CameSo P what
came_so P sent (Served outcome) h = (h.0, h.1)
came_so P sent Unsent h = (h.0, (h.1.0, h.1.1))

pub told_at : (tells : ℕ → Type 0) (fails : Type 0) (came at : Instant) → tells (instant_nanos came) → tells (instant_nanos at) ⊎ (fails × (at ≡ came)) → tells (instant_nanos at)
told_at tells fails came at told (inl now) = now
told_at tells fails came at told (inr kept) = subst (λ (x : Instant). tells (instant_nanos x)) (sym kept.1) told

pub came_as : {O : Type 0} (P Q : O → Sides → Type 0) → ((outcome : O) (after : Sides) → P outcome after → Q outcome after) → (what : Came O) → CameSo P what → CameSo Q what
came_as P Q step (Served outcome) h = (h.0, step outcome h.0 h.1)
came_as P Q step Unsent h = (h.0, (h.1.0, step h.0 h.1.0 h.1.1))

-- what came of a connection whose bytes may be known, where they are not
pub forgotten : {S Outcome : Type 0} (serves : S → ℕ → Sides → Sides → Outcome → S → Type 0)
    (forgets : (old : S) (moment : ℕ) (input : List ℕ) (sent : Option (List ℕ)) (until : ℕ) (after : Sides) (outcome : Outcome) (new : S)
    → serves old moment (begun_sides (Some input) sent until) after outcome new → serves old moment (begun_sides None sent until) after outcome new)
    (old : S) (moment : ℕ) (input : Option (List ℕ)) (until : ℕ) (new : S) (what : Came Outcome)
    → CameSo (λ outcome after. serves old moment (begun_sides input None until) after outcome new) what
    → CameSo (λ outcome after. serves old moment (begun_sides None None until) after outcome new) what
forgotten serves forgets old moment None until new what h = h
forgotten serves forgets old moment (Some bytes) until new what h =
    came_as (λ outcome after. serves old moment (begun_sides (Some bytes) None until) after outcome new) (λ outcome after. serves old moment (begun_sides None None until) after outcome new)
    (λ outcome after served. forgets old moment bytes None until after outcome new served) what h
