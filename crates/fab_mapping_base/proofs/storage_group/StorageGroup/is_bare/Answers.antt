use Rattle.std.proofs.Common.{sym, ◌∙◌, subst}
use mathlib.Core.Bool.{true≢false}
use Rattle.std.specs.Cmp.{nat_cmp_total}
use Rattle.fab_inventory.proofs.fab_names.OrderLaws.{name_total}
use Rattle.fab_mapping_base.specs.Bare.{HasNoPart}
use Rattle.fab_mapping_base.proofs.Bares.{bare_set, set_bare, bare_map, map_bare}
use Rattle.fab_mapping_base.proofs.storage_group.StorageGroup.is_bare.Goals as goal

pub returns-then-not-is_empty : goal.returns-then-not-is_empty
returns-then-not-is_empty g c = (
  λ no. absurd (true≢false (sym no)),
  λ h. let bare = subst HasNoPart (sym c.self.view_is) h in absurd (true≢false (sym (c.is_empty.ensures.1 (set_bare name_total c.self.inside.host_groups.keys bare.host_groups)) ∙ c.if-not-is_empty.true)),
)

pub returns-then-not-is_empty-2 : goal.returns-then-not-is_empty-2
returns-then-not-is_empty-2 g c = (
  λ no. absurd (true≢false (sym no)),
  λ h. let bare = subst HasNoPart (sym c.self.view_is) h in absurd (true≢false (sym (c.is_empty-2.ensures.1 (set_bare nat_cmp_total c.self.inside.targets.keys bare.targets)) ∙ c.if-not-is_empty-2.true)),
)

pub returns : goal.returns
returns g c = (
  λ is. subst HasNoPart c.self.view_is (record {
    host_groups = bare_set name_total c.self.inside.host_groups.keys (c.is_empty.ensures.0 c.if-not-is_empty.false);
    targets = bare_set nat_cmp_total c.self.inside.targets.keys (c.is_empty-2.ensures.0 c.if-not-is_empty-2.false);
    units = bare_map nat_cmp_total c.self.inside.units.entries (c.is_empty-3.ensures.0 is);
  }),
  λ h. let bare = subst HasNoPart (sym c.self.view_is) h in c.is_empty-3.ensures.1 (map_bare nat_cmp_total c.self.inside.units.entries bare.units),
)
