use Rattle.std.proofs.Common.{sym, subst, ℕ, List}
use Rattle.fab_reach_pairs.proofs.LooseLoops.{unzoned_loose, loose_unzoned}
use Rattle.fab_reach_base.specs.Views.{seen}
use Rattle.fab_zoning_rows.specs.Holding.{Holds}
use Rattle.fab_zoning.specs.Zonings.{FabricZoning}
use Rattle.fab_reach_pairs.proofs.loose.is_loose.Goals as goal

pub returns : goal.returns
returns g c =
    let is = sym c.in-Some.ensures.port in (
      (λ h. unzoned_loose (seen c.args.view.now) c.requires c.args.fabric c.args.name.now c.in-Some.port is (c.is_logged_in_at.ensures.0 c.if-not-is_logged_in_at.false) (subst (λ (x : FabricZoning). (z : List ℕ) → ¬ Holds x.rows c.in-Some.port z) c.zoning.ensures (c.is_unzoned.ensures.0 h))),
      λ l. c.is_unzoned.ensures.1 (subst (λ (x : FabricZoning). (z : List ℕ) → ¬ Holds x.rows c.in-Some.port z) (sym c.zoning.ensures) (loose_unzoned (seen c.args.view.now) c.requires c.args.fabric c.args.name.now c.in-Some.port is l)),
    )
