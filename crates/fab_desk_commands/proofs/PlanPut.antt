-- Worlds in which one plan is put, and nothing else changes.
use Rattle.std.proofs.Common.{ℕ, ◌≡◌, List, sym, subst}
use Rattle.std.specs.FinMap as map
use Rattle.fab_reach_base.specs.fab_lemmas.Room.{HasRoom}
use Rattle.fab_reach_base.proofs.fab_lemmas.Changed.{entry_put}
use Rattle.fab_reach_base.proofs.fab_lemmas.Sizes.{map_put}
use Rattle.fab_reach_base.proofs.fab_names.OrderLaws.{name_total, name_exact}
use Rattle.fab_world.specs.History.{LeadsBack}
use Rattle.fab_world.specs.PlanRecords.{PlanRecord}
use Rattle.fab_world.specs.Plans.{undo_of}
use Rattle.fab_world.specs.Soundness.{IsSound, IsSoundPlan}
use Rattle.fab_world.specs.Worlds.{WorldRows}
use Rattle.fab_world.specs.declared.limits.TheConstants.{MOST_PLANS}
use Rattle.fab_desk_base.specs.Effects.{with_plan}
use Rattle.fab_desk_commands.proofs.Undos.{undo_at, put_alike, same_changes, same_listing}

module _ (w : WorldRows) (n : List ℕ) (p : PlanRecord) (sound : IsSound w) (plan : IsSoundPlan p) (alike : undo_at (map.get w.plans n) ≡ undo_of p.standing) where
  -- such a world is sound where the plan is, and is undone as what was there
  pub sound_put : HasRoom w.plans n MOST_PLANS → IsSound (with_plan n p w)
  sound_put room =
      let same = put_alike w.plans n p alike in
      record {
        inventory = sound.inventory;
        config = sound.config;
        fits = sound.fits;
        few_paths = sound.few_paths;
        few_plans = map_put name_total w.plans n p MOST_PLANS room sound.few_plans;
        plans = entry_put name_total w.plans n name_exact (λ _ q. IsSoundPlan q) p plan sound.plans;
        order = same_listing (map.get w.plans) (map.get (map.insert w.plans n p)) same w.order sound.order;
        earlier = subst (λ changes. LeadsBack changes w.config) (sym (same_changes (map.get w.plans) (map.get (map.insert w.plans n p)) same _)) sound.earlier;
        few_changes = sound.few_changes;
      }
