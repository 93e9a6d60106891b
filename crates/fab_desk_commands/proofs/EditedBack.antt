-- The configuration from before a plan's activation, where rows led back to it.
use Rattle.std.proofs.Common.{◌≡◌, Some, subst}
use Rattle.fab_reach_base.specs.Records.{ConfigRows}
use Rattle.fab_reach_base.proofs.Same.{same_some}
use Rattle.fab_store_rows.specs.Differences.{IsDifference}
use Rattle.fab_store_edits.specs.Led.{IsLed}
use Rattle.fab_store_rows.specs.Tidy.{IsTidy}
use Rattle.fab_store_edits.proofs.Differing.{one_led, led_back}
use Rattle.fab_store_rows.proofs.Determined.{tidy_of}
use Rattle.fab_world.specs.History.{IsEarlier}
use Rattle.fab_world.specs.PlanRecords.{PlanRecord}
use Rattle.fab_world.specs.Plans.{Change, undo_of}
use Rattle.fab_world.specs.Worlds.{WorldRows}
use Rattle.fab_desk_commands.specs.Trials.{HasEarlier, IsBeforePlan}

module _ (w : WorldRows) (p : PlanRecord) (change : Change) (is : undo_of p.standing ≡ Some change) where
  module _ (has : HasEarlier w p) where
    -- what undoes the plan leads back to it
    back : IsEarlier w.config change has.2.0
    back = subst (λ (x : Change). IsEarlier w.config x has.2.0) (same_some has.1 is) has.2.1

    pub some_back : ¬ ((b : ConfigRows) → ¬ IsDifference b w.config change.taken change.added)
    some_back none = none has.2.0 back.differs

    -- so it is the tidy one that was led to
    pub edited_back : (edited : ConfigRows) → IsTidy edited → IsDifference edited w.config change.taken change.added → IsBeforePlan w p edited
    edited_back edited tidy differs = (change, is, record { is = subst (IsEarlier w.config change) (same has.2.0 back) back; only = same })
      where
        same : (b : ConfigRows) → IsEarlier w.config change b → b ≡ edited
        same b e = one_led w.config b edited change.taken change.added (tidy_of b e.sound.parts.zonings) tidy e.differs differs

  -- what was added goes, and what was taken comes
  pub led_to : (before : ConfigRows) → IsBeforePlan w p before → IsLed w.config before change.added change.taken
  led_to before b = led_back before w.config change.taken change.added (subst (λ (x : Change). IsDifference before w.config x.taken x.added) (same_some b.1 is) b.2.is.differs)
