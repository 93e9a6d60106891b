use Rattle.std.proofs.Common.{sym, ◌∙◌, subst, ◌≡◌, true, List, ℕ}
use mathlib.Core.Bool.{true≢false}
use Rattle.std.specs.Ordering.{nat_cmp}
use Rattle.fab_zoning.specs.Edits.{IsIn}
use Rattle.fab_reach_index.specs.Indexes.{zone_cmp}
use Rattle.fab_reach_base.specs.Views.{seen}
use Rattle.fab_zoning_rows.specs.PortZones.{in_zones}
use Rattle.fab_zoning_rows.specs.Holding.{Holds}
use Rattle.fab_zoning.specs.Zonings.{FabricZoning}
use Rattle.fab_reach_index.proofs.ZonesPlaced.{zones_at, not_at, not_known}
use Rattle.fab_reach_index.proofs.zoning_index.add_zones_at.Goals as goal

pub returns-in_default : goal.returns-in_default
returns-in_default g c = not_known (seen c.args.view.now) c.requires c.args.name.now c.args.fabric (IsIn nat_cmp zone_cmp c.args.zones.now) (sym c.in_default.ensures.port)

pub returns-then-not-is_logged_in_at : goal.returns-then-not-is_logged_in_at
returns-then-not-is_logged_in_at g c = not_at (seen c.args.view.now) c.requires c.args.name.now c.args.fabric c.in-Some.port (IsIn nat_cmp zone_cmp c.args.zones.now) (sym c.in-Some.ensures.port) (λ h. true≢false (sym (c.is_logged_in_at.ensures.1 h) ∙ c.if-not-is_logged_in_at.true))

pub returns : goal.returns
returns g c = zones_at (seen c.args.view.now) c.requires c.args.name.now c.args.fabric c.in-Some.port (in_zones c.zones_of-these.result) (IsIn nat_cmp zone_cmp c.args.zones.now) (IsIn nat_cmp zone_cmp c.add_port_zones.new.zones) (sym c.in-Some.ensures.port) (c.is_logged_in_at.ensures.0 c.if-not-is_logged_in_at.false)
    (subst (λ (x : FabricZoning). (z : List ℕ) → (in_zones c.zones_of-these.result z ≡ true → Holds x.rows c.in-Some.port z) × (Holds x.rows c.in-Some.port z → in_zones c.zones_of-these.result z ≡ true)) c.zoning.ensures c.zones_of-these.ensures)
    c.in_ok-add_port_zones.ensures
