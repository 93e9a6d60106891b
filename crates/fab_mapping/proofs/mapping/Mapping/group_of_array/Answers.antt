use Rattle.std.proofs.Common.{MatchOption, ap, subst}
use Rattle.fab_mapping_base.specs.fab_lemmas.Firsts.{IsFirstWith, HasAt, HasNowhere}
use Rattle.fab_mapping_base.specs.fab_names.Orders.{name_cmp}
use Rattle.fab_mapping_base.proofs.fab_names.OrderLaws.{name_total}
use Rattle.fab_mapping_base.proofs.fab_lemmas.SeenMaps.{same_look_ups}
use Rattle.fab_mapping_base.specs.Groups.{IsOfArray}
use Rattle.fab_mapping.specs.Mappings.{MappingRows}
use Rattle.fab_mapping.proofs.mapping.Mapping.group_of_array.Goals as goal

pub returns : goal.returns
returns g c =
    subst (λ at. MatchOption c.first_of_array.result (HasNowhere at (IsOfArray c.args.array.now)) (IsFirstWith name_cmp (HasAt at (IsOfArray c.args.array.now))))
    (same_look_ups name_total c.self.inside.groups c.args.self.now.groups (ap (λ (v : MappingRows). v.groups) c.self.view_is)) c.first_of_array.ensures
