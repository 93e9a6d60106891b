-- What is printed of values.
use Rattle.std.proofs.Common.{◌≡◌, List, [], ◌∷◌, ◌++◌, map, refl, ap}
use Rattle.std.specs.List.{flat_map}
use Rattle.fab_names.specs.declared.member.Member.{Member}
use Rattle.fab_plans_base.specs.Values.{of_member, of_port_member}
use Rattle.fab_plans_base.specs.Plans.{spaced}

-- members are printed the same whether they may be aliases or not
pub printed_members : (ms : List Member) → flat_map spaced (map of_port_member ms) ≡ flat_map spaced (map of_member ms)
printed_members [] = refl
printed_members (m ∷ ms) = ap (λ text. spaced (of_member m) ++ text) (printed_members ms)
