-- A change over a world with room for it.
use Rattle.std.proofs.Common.{◌≡◌, Option, sym, ap, ◌∙◌, subst}
use Rattle.fab_reach_base.specs.Books.{IsDelta}
use Rattle.fab_reach_base.specs.Records.{Records}
use Rattle.fab_reach_base.specs.declared.book.Delta.{Delta}
use Rattle.fab_world.specs.Worlds.{WorldRows, records_of}
use Rattle.fab_desk_trials.specs.fab_desk_commands.Nexts.{next_world, with_room, without_room, IsReadyFor, Suits}
use Rattle.fab_desk_trials.specs.fab_desk_commands.declared.next.Next.{Next}
use Rattle.fab_desk_trials.proofs.fab_desk_commands.Placing.{records_stay, records_led, given_back}
use Rattle.fab_desk_base.specs.Answers.{IsMove}
use Rattle.fab_desk_trials.specs.Trials.{IsStepReady}

module _ {A : Type 0} (w v : WorldRows) (next : Next A) (made : v ≡ with_room w next) where
  pub same_records : records_of v ≡ records_of w
  same_records = ap records_of made ∙ records_stay w next

  -- it leads to a world of the same inventory and configuration
  pub records_there : records_of (next_world v next) ≡ records_of (next_world w next)
  records_there = ap (λ x. records_of (next_world x next)) made ∙ records_led w next

  pub room_for : Suits w next → IsReadyFor v next
  room_for suits = (w, suits, made)

  -- the step of a book is ready for it
  pub ready_there : {R : Type 0} (leads : R → Records → Records → Type 0) (step : Option R) → IsStepReady leads (records_of w) (records_of (next_world w next)) step → IsStepReady leads (records_of v) (records_of (next_world v next)) step
  ready_there leads step ready =
      subst (λ r. IsStepReady leads r (records_of (next_world v next)) step) (sym same_records)
      (subst (λ r. IsStepReady leads (records_of w) r step) (sym records_there) ready)

  -- and moves the same paths
  pub moved_there : (new : WorldRows) (d : Delta A) → IsMove v new d → IsMove w new d
  moved_there new d move = subst (λ r. IsDelta r (records_of new) d.gained.items d.lost.items) same_records move

  -- and without the room the world is as it was
  pub back_there : (u : WorldRows) → Suits w next → u ≡ without_room v next → u ≡ w
  back_there u suits is = is ∙ ap (λ x. without_room x next) made ∙ given_back w next suits

-- a world that is taken over has the inventory and the configuration to which the one with room leads
pub taken_records : {A : Type 0} (v new : WorldRows) (next : Next A) → IsReadyFor v next → ((before : WorldRows) → v ≡ with_room before next → new ≡ next_world before next) → records_of (next_world v next) ≡ records_of new
taken_records v new next ready taken = records_there ready.0 v next ready.2 ∙ sym (ap records_of (taken ready.0 ready.2))
