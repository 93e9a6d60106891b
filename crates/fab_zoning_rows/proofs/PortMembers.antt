-- Which zones have a port, by the four members that stand for it.
use Rattle.std.proofs.Common.{◌≡◌, ℕ, List, Option, Some, None, Bool, true, false, ◌||◌, inl, inr, refl, sym, ap, ◌∙◌}
use mathlib.Core.Bool.{true≢false}
use Rattle.std.specs.Option.{option_map}
use Rattle.std.specs.FinSet as set
use Rattle.fab_inventory.specs.fab_names.Places.{Position}
use Rattle.fab_inventory.specs.fab_names.declared.fabric.Fabric.{Fabric}
use Rattle.fab_inventory.specs.fab_names.declared.member.Member.{Member}
use Rattle.fab_inventory.specs.fab_names.declared.member.Member.TheVariants as member
use Rattle.fab_inventory.specs.declared.port.Port.{Port}
use Rattle.fab_zoning_rows.specs.Rows.{Rows}
use Rattle.fab_zoning_rows.specs.Holding.{Matches, Holds, place_member, address_member, has_row}
use Rattle.fab_inventory.proofs.fab_lemmas.Tests.{or_true, or_right, or_left}

module _ (rows : Rows) (p : Port) (z : List ℕ) where
  by_place : (o : Option (Fabric × Position)) → p.at ≡ o → has_row rows z (option_map (λ at. member.Place at.1) o) ≡ true → Holds rows p z
  by_place None at is = absurd (true≢false (sym is))
  by_place (Some w) at is = (member.Place w.1, is, (w.0, at))

  by_address : (o : Option ℕ) → p.address ≡ o → has_row rows z (option_map member.Address o) ≡ true → Holds rows p z
  by_address None at is = absurd (true≢false (sym is))
  by_address (Some n) at is = (member.Address n, is, at)

  module _ (a b c d : Bool) (port_is : set.contains rows (z, member.Port p.name) ≡ a) (node_is : set.contains rows (z, member.Node p.node) ≡ b) (place_is : has_row rows z (place_member p) ≡ c) (address_is : has_row rows z (address_member p) ≡ d) where
    abbrev found : Bool
    found = a || (b || (c || d))

    held : found ≡ true → Holds rows p z
    held e = elim (or_true a (b || (c || d)) e) [
      | inl is ↦ (member.Port p.name, port_is ∙ is, refl)
      | inr more ↦ elim (or_true b (c || d) more) [
        | inl is ↦ (member.Node p.node, node_is ∙ is, refl)
        | inr last ↦ elim (or_true c d last) [ inl is ↦ by_place p.at refl (place_is ∙ is) | inr is ↦ by_address p.address refl (address_is ∙ is) ]
      ]
    ]

    by_member : (m : Member) → set.contains rows (z, m) ≡ true → Matches m p → found ≡ true
    by_member (member.Port n) there is = or_left a (b || (c || d)) (sym port_is ∙ ap (λ x. set.contains rows (z, member.Port x)) is ∙ there)
    by_member (member.Node n) there is = or_right a (b || (c || d)) (or_left b (c || d) (sym node_is ∙ ap (λ x. set.contains rows (z, member.Node x)) is ∙ there))
    by_member (member.Place s) there is =
        let placed : c ≡ true = sym place_is ∙ ap (λ (o : Option (Fabric × Position)). has_row rows z (option_map (λ at. member.Place at.1) o)) is.1 ∙ there in
        or_right a (b || (c || d)) (or_right b (c || d) (or_left c d placed))
    by_member (member.Address n) there is =
        let addressed : d ≡ true = sym address_is ∙ ap (λ (o : Option ℕ). has_row rows z (option_map member.Address o)) is ∙ there in
        or_right a (b || (c || d)) (or_right b (c || d) (or_right c d addressed))
    by_member (member.Alias n) there is = absurd is

    -- the four tests find exactly the zones that have the port
    pub held_exactly : (found ≡ true → Holds rows p z) × (Holds rows p z → found ≡ true)
    held_exactly = (held, λ h. by_member h.0 h.1 h.2)
