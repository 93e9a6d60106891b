-- A world with another inventory, by one change more.
use Rattle.std.proofs.Common.{◌≡◌, ◌<◌, List, true, arith, subst}
use Rattle.fab_reach_base.specs.fab_inventory.Inventories as inventories
use Rattle.fab_reach_base.specs.fab_mapping.Mappings.{MappingRows}
use Rattle.fab_reach_base.specs.fab_mapping.Soundness.{Fits}
use Rattle.fab_reach_base.specs.Serving.{IsServing}
use Rattle.fab_reach_base.specs.Soundness.{IsSoundBeside}
use Rattle.fab_reach_base.proofs.Lawful.{serves}
use Rattle.fab_world.specs.Soundness.{IsSound}
use Rattle.fab_world.specs.Worlds.{WorldRows, records_of}
use Rattle.fab_world.specs.declared.limits.TheConstants.{MOST_CHANGES}
use Rattle.fab_desk_base.specs.Commands.{is_counted}
use Rattle.fab_desk_base.specs.Effects.{counted, with_inventory}
use Rattle.fab_desk_base.specs.declared.command.Command.{Command}
use Rattle.fab_desk_commands.specs.Trials.{IsSoundAfter}

-- books may stand at a sound world
pub sound_serves : (w : WorldRows) → IsSound w → IsServing (records_of w)
sound_serves w sound = let beside : IsSoundBeside w.inventory w.config = record { parts = sound.config.parts; fits = sound.fits } in serves (records_of w) beside

-- it is sound where the inventory is, and the configuration fits it
pub sound_after : {A : Type 0} (w : WorldRows) (c : Command A) (v : inventories.InventoryRows) → is_counted c ≡ true → inventories.IsSound v → (Fits w.inventory w.config.mapping → Fits v w.config.mapping) → IsSoundAfter w c (counted (with_inventory v w))
sound_after w c v counts sound fits = record {
  serves = λ before. let beside : IsSoundBeside v w.config = record { parts = before.config.parts; fits = fits before.fits } in serves (records_of (counted (with_inventory v w))) beside;
  sound = λ before few may.
      let lt : w.revision < MOST_CHANGES = may counts in
      record {
        inventory = sound;
        config = before.config;
        fits = fits before.fits;
        few_paths = few;
        few_plans = before.few_plans;
        plans = before.plans;
        order = before.order;
        earlier = before.earlier;
        few_changes = omega (arith, lt);
      };
}

-- what is said of a list and of an inventory is said of the same ones
pub said_of : {X : Type 0} {xs ys : List X} {u v : inventories.InventoryRows} (P : List X → inventories.InventoryRows → Type 0) → xs ≡ ys → u ≡ v → P xs u → P ys v
said_of {ys = ys} {u = u} P p q h = subst (P ys) q (subst (λ zs. P zs u) p h)

-- what is said of the parts of a world is said of the world's
pub said_beside : {inside w : WorldRows} {m : MappingRows} → inside ≡ w → m ≡ inside.config.mapping → (P : inventories.InventoryRows → MappingRows → Type 0) → P inside.inventory m → P w.inventory w.config.mapping
said_beside {inside = inside} {w = w} same mapped P h = subst (λ (x : WorldRows). P x.inventory x.config.mapping) same (subst (P inside.inventory) mapped h)
