-- The ports that a difference moves.
use Rattle.std.proofs.Common.{ℕ, ◌≡◌, List, [], Bool, true, false, Contains, Option, None, Some, IsTrue, ◌||◌, ◌⊎◌, inl, inr, refl, sym, ap, ◌∙◌, subst, cond}
use mathlib.Core.Bool.{true≢false}
use Rattle.std.specs.Ordering.{nat_cmp}
use Rattle.std.specs.Cmp.{IsTotalOrder, nat_cmp_total, then_total, on_total}
use Rattle.std.specs.Option.{option_map}
use Rattle.std.specs.BTreeMap.{is_at}
use Rattle.std.specs.BTreeSet.{BTreeSet, contains}
use Rattle.std.specs.FinMap as map
use Rattle.std.specs.FinSet as set
use Rattle.std.proofs.lemmas.Map.Lookups.{exact_pairs}
use Rattle.std.proofs.lemmas.Map.Views.{btree_set_contains_iff}
use Rattle.fab_names.specs.Orders.{member_cmp}
use Rattle.fab_names.specs.Places.{Position}
use Rattle.fab_names.specs.declared.fabric.Fabric.{Fabric}
use Rattle.fab_names.specs.declared.member.Member.TheVariants as member
use Rattle.fab_names.proofs.OrderLaws.{member_total, member_exact}
use Rattle.fab_inventory.specs.declared.port.Known.{Known}
use Rattle.fab_inventory.specs.declared.port.Port.{Port}
use Rattle.fab_inventory.specs.Ports.{port_at, port_of}
use Rattle.fab_lemmas.proofs.SeenEntries.{entry_decides}
use Rattle.fab_lemmas.proofs.Tests.{or_left, or_right}
use Rattle.fab_zoning_rows.specs.Holding.{IsLoggedInAt, Holds, place_member, address_member, has_row}
use Rattle.fab_zoning_rows.proofs.PortMembers.{held_exactly}
use Rattle.fab_zoning_rows.specs.Rows.{Rows}
use Rattle.fab_reach_base.specs.Adding.{Adds}
use Rattle.fab_reach_base.specs.Reach.{IsPort}
use Rattle.fab_reach_base.specs.Records.{Records, zoning_at}
use Rattle.fab_reach_base.specs.Serving.{IsServing}
use Rattle.fab_reach_base.proofs.Adding.{Before, adds_as, from_none}
use Rattle.fab_reach_base.proofs.Gathering.{name_of}
use Rattle.fab_reach_base.proofs.Same.{same_some}
use Rattle.fab_reach_base.proofs.Sets.{adds_insert, none_in}
use Rattle.fab_reach_books.specs.declared.row.Row.{Row}
use Rattle.fab_reach_books.specs.declared.row.Row.TheVariants as row
use Rattle.fab_reach_books.specs.Affected.{IsInZone}
use Rattle.fab_reach_moves.specs.Inner.Changing.{Key, key_cmp, HasKey, active_of, AreActive, SaysPort, SaysPortAmong, IsChangedBy, IsPortChangedBy, IsPortChanged, IsRezoned}
use Rattle.fab_reach_moves.specs.Moves.{IsSamePort, AreMoved}
use Rattle.fab_reach_index.specs.Indexes.{zone_cmp}
use Rattle.fab_reach_index.proofs.KeyLaws.{zone_exact, zone_total}
use Rattle.fab_reach_books.specs.Inner.Sets.{HasPortIn}
use Rattle.fab_reach_books.specs.Rows.{IsRowDiff}
use Rattle.fab_reach_moves.proofs.PortsAfter.{port_kept}
use Rattle.fab_reach_books.proofs.SetLoops.{adds_both}

-- ---- active rows as keys

pub key_total : IsTotalOrder key_cmp
key_total = then_total (on_total (λ (k : Key). k.0) zone_total) (on_total (λ (k : Key). k.1) member_total)

pub key_exact : set.IsAntisymmetric key_cmp
key_exact = exact_pairs zone_cmp member_cmp zone_exact member_exact

pub adds_key : (s n : BTreeSet Key) (k : Key) → ((q : Key) → contains key_cmp n q ≡ cond (is_at (key_cmp k) q) true (contains key_cmp s q)) → Adds (λ y. y ≡ k) (HasKey s) (HasKey n)
adds_key = adds_insert key_total key_exact

pub same_active : (j k : Key) → active_of j ≡ active_of k → j ≡ k
same_active j k e = let same : ◌≡◌ {A = Rattle.fab_store_rows.specs.declared.config_row.ActiveRow.ActiveRow} (record { fabric = j.0.0; zone = j.0.1; member = j.1 }) (record { fabric = k.0.0; zone = k.0.1; member = k.1 }) = cc in λ i. (((same i).fabric, (same i).zone), (same i).member)

pub key_said : (r : Row) (k : Key) (old new : Key → Type 0) → r ≡ active_of k → Adds (λ y. y ≡ k) old new → Adds (λ (y : Key). r ≡ active_of y) old new
key_said r k old new is = adds_as (λ y. y ≡ k) (λ (y : Key). r ≡ active_of y) old new (λ y e. is ∙ ap active_of (sym e)) (λ y h. same_active y k (sym h ∙ is))

pub keys_said : (rows : List Row) (old new : Key → Type 0) → Adds (Before (λ (r : Row) (k : Key). r ≡ active_of k) rows) old new → Adds (λ (k : Key). Contains rows (active_of k)) old new
keys_said rows old new = adds_as (Before (λ (r : Row) (k : Key). r ≡ active_of k) rows) (λ (k : Key). Contains rows (active_of k)) old new (λ k h. subst (Contains rows) h.2 h.1) (λ k h. (active_of k, h, refl))

pub keys_from_nothing : (rows : List Row) (s t : BTreeSet Key) → s.keys ≡ [] → Adds (λ (k : Key). Contains rows (active_of k)) (HasKey s) (HasKey t) → AreActive rows t
keys_from_nothing rows s t none a = from_none (λ (k : Key). Contains rows (active_of k)) (HasKey s) (HasKey t) (none_in key_total key_exact s none) a

-- ---- ports in zones

-- whether the zone has the port
zoned : Rows → Port → List ℕ → Bool
zoned rows p z = set.contains rows (z, member.Port p.name) || (set.contains rows (z, member.Node p.node) || (has_row rows z (place_member p) || has_row rows z (address_member p)))

module _ (rows : Rows) (p : Port) (z : List ℕ) where
  exactly : (zoned rows p z ≡ true → Holds rows p z) × (Holds rows p z → zoned rows p z ≡ true)
  unfolding zoned
  exactly = held_exactly rows p z (set.contains rows (z, member.Port p.name)) (set.contains rows (z, member.Node p.node)) (has_row rows z (place_member p)) (has_row rows z (address_member p)) refl refl refl refl

  -- it is in the zone, unless it can not be out of it
  pub stable : ¬ (¬ Holds rows p z) → Holds rows p z
  stable h = case (zoned rows p z) refl
    where
      case : (b : Bool) → zoned rows p z ≡ b → Holds rows p z
      case true is = exactly.0 is
      case false is = absurd (h (λ x. true≢false (sym (exactly.1 x) ∙ is)))

  tested : (b : Bool) → b ≡ zoned rows p z → (IsTrue b → Holds rows p z) × (Holds rows p z → IsTrue b)
  tested b is = ((λ h. exactly.0 (sym is ∙ h)), λ x. is ∙ exactly.1 x)

  pub held_by_name : set.contains rows (z, member.Port p.name) ≡ true → (IsTrue true → Holds rows p z) × (Holds rows p z → IsTrue true)
  held_by_name h = tested true (sym (exactly.1 (member.Port p.name, h, refl)))

  pub held_by_node : set.contains rows (z, member.Node p.node) ≡ true → (IsTrue true → Holds rows p z) × (Holds rows p z → IsTrue true)
  held_by_node h = tested true (sym (exactly.1 (member.Node p.node, h, refl)))

  pub held_by_place : has_row rows z (place_member p) ≡ true → (IsTrue true → Holds rows p z) × (Holds rows p z → IsTrue true)
  unfolding zoned
  held_by_place h = tested true (sym (or_right (set.contains rows (z, member.Port p.name)) _ (or_right (set.contains rows (z, member.Node p.node)) _ (or_left (has_row rows z (place_member p)) (has_row rows z (address_member p)) h))))

  pub held_by_address : (r : Bool) → set.contains rows (z, member.Port p.name) ≡ false → set.contains rows (z, member.Node p.node) ≡ false → has_row rows z (place_member p) ≡ false → r ≡ has_row rows z (address_member p) → (IsTrue r → Holds rows p z) × (Holds rows p z → IsTrue r)
  unfolding zoned
  held_by_address r a b c is = tested r (is ∙ (λ i. sym a i || (sym b i || (sym c i || has_row rows z (address_member p)))))

-- by the four members that stand for a port that is logged in
pub zoned_by_four : (rows : Rows) (p : Port) (z : List ℕ) (f : Fabric) (place : Position) → p.at ≡ Some (f, place)
    → ((set.contains rows (z, member.Port p.name) || (set.contains rows (z, member.Node p.node) || (set.contains rows (z, member.Place place) || has_row rows z (address_member p)))) ≡ true → Holds rows p z)
    × (Holds rows p z → (set.contains rows (z, member.Port p.name) || (set.contains rows (z, member.Node p.node) || (set.contains rows (z, member.Place place) || has_row rows z (address_member p)))) ≡ true)
zoned_by_four rows p z f place at = held_exactly rows p z (set.contains rows (z, member.Port p.name)) (set.contains rows (z, member.Node p.node)) (set.contains rows (z, member.Place place)) (has_row rows z (address_member p)) refl refl (ap (λ (o : Option (Fabric × Position)). has_row rows z (option_map (λ x. member.Place x.1) o)) at) refl

module _ (w v : Records) (gone come : List Row) (d : IsRowDiff w v gone come) where
  -- ---- active rows after the step

  module _ (k : Key) where
    pub active_come : Contains come (active_of k) → true ≡ set.contains (zoning_at v.config k.0.0).rows (k.0.1, k.1)
    active_come h = sym (d.new (active_of k) h).0

    pub active_gone : Contains gone (active_of k) → false ≡ set.contains (zoning_at v.config k.0.0).rows (k.0.1, k.1)
    active_gone h = case (set.contains (zoning_at v.config k.0.0).rows (k.0.1, k.1)) refl
      where
        case : (b : Bool) → set.contains (zoning_at v.config k.0.0).rows (k.0.1, k.1) ≡ b → false ≡ b
        case true is = absurd ((d.left (active_of k) h).1 is)
        case false is = refl

    pub active_kept : ¬ Contains gone (active_of k) → ¬ Contains come (active_of k) → set.contains (zoning_at w.config k.0.0).rows (k.0.1, k.1) ≡ set.contains (zoning_at v.config k.0.0).rows (k.0.1, k.1)
    active_kept none_gone none_come = case (set.contains (zoning_at w.config k.0.0).rows (k.0.1, k.1)) (set.contains (zoning_at v.config k.0.0).rows (k.0.1, k.1)) refl refl
      where
        case : (a b : Bool) → set.contains (zoning_at w.config k.0.0).rows (k.0.1, k.1) ≡ a → set.contains (zoning_at v.config k.0.0).rows (k.0.1, k.1) ≡ b → a ≡ b
        case true b at is = elim (d.before (active_of k) at) [ inl s ↦ sym s ∙ is | inr h ↦ absurd (none_gone h) ]
        case false true at is = elim (d.after (active_of k) is) [ inl s ↦ sym at ∙ s | inr h ↦ absurd (none_come h) ]
        case false false at is = refl

  -- ---- just the moved ports

  module _ (sw : IsServing w) (sv : IsServing v) (p : ℕ) where
    at_w : (f : Fabric) (port : Port) → IsLoggedInAt f port → IsLoggedInAt (zoning_at w.config f).fabric port
    at_w f port h = subst (λ g. IsLoggedInAt g port) (sym (sw.fabrics f)) h

    at_v : (f : Fabric) (port : Port) → IsLoggedInAt f port → IsLoggedInAt (zoning_at v.config f).fabric port
    at_v f port h = subst (λ g. IsLoggedInAt g port) (sym (sv.fabrics f)) h

    pub said_gone : SaysPortAmong gone p → ¬ IsSamePort w v p
    said_gone h same =
        let port = h.2.0 in
        let s = d.left (row.Port port) (subst (Contains gone) h.2.1 h.1) in
        s.1 (ap (port_at v.inventory.ports) h.2.2 ∙ sym same.row ∙ ap (port_at w.inventory.ports) (sym h.2.2) ∙ s.0)

    pub said_come : SaysPortAmong come p → ¬ IsSamePort w v p
    said_come h same =
        let port = h.2.0 in
        let s = d.new (row.Port port) (subst (Contains come) h.2.1 h.1) in
        s.1 (ap (port_at w.inventory.ports) h.2.2 ∙ same.row ∙ ap (port_at v.inventory.ports) (sym h.2.2) ∙ s.0)

    pub rezoned_moves : IsRezoned w v gone come p → ¬ IsSamePort w v p
    rezoned_moves (inl h) same =
        let k = h.0 in
        let port = h.2.0 in
        let c = h.2.2 in
        let z = (same.zones k.0.0 k.0.1).0 (port, h.2.1, (at_w k.0.0 port c.0, (k.1, (d.left (active_of k) h.1).0, c.1))) in
        c.2 (subst (λ x. Holds (zoning_at v.config k.0.0).rows x k.0.1) (same_some z.1 (sym same.row ∙ h.2.1)) z.2.1)
    rezoned_moves (inr h) same =
        let k = h.0 in
        let port = h.2.0 in
        let c = h.2.2 in
        let z = (same.zones k.0.0 k.0.1).1 (port, sym same.row ∙ h.2.1, (at_v k.0.0 port c.0, (k.1, (d.new (active_of k) h.1).0, c.1))) in
        c.2 (subst (λ x. Holds (zoning_at w.config k.0.0).rows x k.0.1) (same_some z.1 h.2.1) z.2.1)

    module _ (none_gone : ¬ SaysPortAmong gone p) (none_come : ¬ SaysPortAmong come p) (not_rezoned : ¬ IsRezoned w v gone come p) where
      same_row : port_at w.inventory.ports p ≡ port_at v.inventory.ports p
      same_row = port_kept w v gone come d p (λ q h is. none_gone (row.Port q, h, (q, refl, is))) (λ q h is. none_come (row.Port q, h, (q, refl, is)))

      zone_v : (f : Fabric) (z : List ℕ) → IsInZone w f z p → IsInZone v f z p
      zone_v f z h =
          let port = h.0 in
          let at : IsLoggedInAt f port = subst (λ g. IsLoggedInAt g port) (sw.fabrics f) h.2.0 in
          let m = h.2.1 in
          let there : Holds (zoning_at v.config f).rows port z = elim (d.before (active_of ((f, z), m.0)) m.1) [
            | inl s ↦ (m.0, s, m.2)
            | inr g ↦ stable (zoning_at v.config f).rows port z (λ none. not_rezoned (inl (((f, z), m.0), g, (port, h.1, (at, m.2, none)))))
          ] in
          (port, sym same_row ∙ h.1, (at_v f port at, there))

      zone_w : (f : Fabric) (z : List ℕ) → IsInZone v f z p → IsInZone w f z p
      zone_w f z h =
          let port = h.0 in
          let at : IsLoggedInAt f port = subst (λ g. IsLoggedInAt g port) (sv.fabrics f) h.2.0 in
          let m = h.2.1 in
          let is : IsPort w p port = same_row ∙ h.1 in
          let there : Holds (zoning_at w.config f).rows port z = elim (d.after (active_of ((f, z), m.0)) m.1) [
            | inl s ↦ (m.0, s, m.2)
            | inr g ↦ stable (zoning_at w.config f).rows port z (λ none. not_rezoned (inr (((f, z), m.0), g, (port, is, (at, m.2, none)))))
          ] in
          (port, is, (at_w f port at, there))

      pub is_same : IsSamePort w v p
      is_same = record { row = same_row; zones = λ f z. (zone_v f z, zone_w f z) }

  pub moved_are : IsServing w → IsServing v → (s t u x : BTreeSet ℕ) → s.keys ≡ [] → Adds (SaysPortAmong gone) (HasPortIn s) (HasPortIn t) → Adds (SaysPortAmong come) (HasPortIn t) (HasPortIn u) → Adds (IsRezoned w v gone come) (HasPortIn u) (HasPortIn x) → AreMoved w v x
  moved_are sw sv s t u x none a b c = record {
    sound = λ p h. elim (c.sound p h) [
      | inr r ↦ rezoned_moves sw sv p r
      | inl h ↦ elim (b.sound p h) [
        | inr k ↦ said_come sw sv p k
        | inl h ↦ elim (a.sound p h) [ inr k ↦ said_gone sw sv p k | inl o ↦ absurd (none_in nat_cmp_total set.nat_cmp-IsAntisymmetric s none p o) ]
      ]
    ];
    rest = λ p absent. is_same sw sv p (λ h. true≢false (sym (c.kept p (b.kept p (a.there p h))) ∙ absent)) (λ h. true≢false (sym (c.kept p (b.there p h)) ∙ absent)) (λ h. true≢false (sym (c.there p h) ∙ absent));
  }

-- ---- loops

pub changed : (other : Records) (k : Key) (port : Port) (old new : ℕ → Type 0) → IsChangedBy other k port → Adds (λ y. y ≡ port.name) old new → Adds (λ y. IsChangedBy other k port × (y ≡ port.name)) old new
changed other k port old new c = adds_as (λ y. y ≡ port.name) (λ y. IsChangedBy other k port × (y ≡ port.name)) old new (λ y e. (c, e)) (λ y h. h.1)

module _ (w other : Records) (k : Key) where
  pub known_changed : (name : ℕ) (port : Port) (old new : ℕ → Type 0) → IsPort w name port → Adds (λ y. IsChangedBy other k port × (y ≡ port.name)) old new → Adds (λ y. IsPortChangedBy w other k y × (y ≡ name)) old new
  known_changed name port old new is = adds_as (λ y. IsChangedBy other k port × (y ≡ port.name)) (λ y. IsPortChangedBy w other k y × (y ≡ name)) old new
      (λ y h. let e = h.1 ∙ name_of w name port is in ((port, ap (port_at w.inventory.ports) e ∙ is, h.0), e))
      (λ y h. (subst (IsChangedBy other k) (same_some h.0.1 (ap (port_at w.inventory.ports) h.1 ∙ is)) h.0.2, h.1 ∙ sym (name_of w name port is)))

  known_entry : (name : ℕ) (port : Port) → IsPort w name port → (x : Known) × (map.get w.inventory.ports name ≡ Some x)
  known_entry name port is = by (map.get w.inventory.ports name) refl is
    where
      by : (o : Option Known) → map.get w.inventory.ports name ≡ o → option_map (port_of name) o ≡ Some port → (x : Known) × (map.get w.inventory.ports name ≡ Some x)
      by None at e = let f : ◌≡◌ {A = Option Port} None (Some port) = e in absurd cc
      by (Some x) at e = (x, at)

  abbrev pub ByEntry : ℕ × Known → ℕ → Type 0
  ByEntry e y = IsPortChangedBy w other k y × (y ≡ e.0)

  pub all_changed : (es : List (ℕ × Known)) (old new : ℕ → Type 0) → es ≡ map.entries w.inventory.ports → Adds (Before ByEntry es) old new → Adds (IsPortChangedBy w other k) old new
  all_changed es old new is = adds_as (Before ByEntry es) (IsPortChangedBy w other k) old new (λ y h. h.2.0)
      (λ y h.
      let x = known_entry y h.0 h.1 in
      ((y, x.0), subst (λ ys. Contains ys (y, x.0)) (sym is) ((entry_decides nat_cmp nat_cmp_total set.nat_cmp-IsAntisymmetric w.inventory.ports y x.0).0 x.1), (h, refl)))

pub by_keys : (w other : Records) (s : BTreeSet Key) (ks : List Key) (old new : ℕ → Type 0) → ks ≡ s.keys → Adds (Before (IsPortChangedBy w other) ks) old new → Adds (IsPortChanged w other s) old new
by_keys w other s ks old new is = adds_as (Before (IsPortChangedBy w other) ks) (IsPortChanged w other s) old new
    (λ y h. (h.0, (btree_set_contains_iff key_total key_exact s h.0).1 (subst (λ xs. Contains xs h.0) is h.1), h.2))
    (λ y h. (h.0, subst (λ xs. Contains xs h.0) (sym is) ((btree_set_contains_iff key_total key_exact s h.0).0 h.1), h.2))

pub rezoned : (w v : Records) (gone come : List Row) (s t : BTreeSet Key) (old mid new : ℕ → Type 0) → AreActive gone s → AreActive come t → Adds (IsPortChanged w v s) old mid → Adds (IsPortChanged w w t) mid new → Adds (IsRezoned w v gone come) old new
rezoned w v gone come s t old mid new is_s is_t a b = adds_as (λ y. IsPortChanged w v s y ⊎ IsPortChanged w w t y) (IsRezoned w v gone come) old new
    (λ y h. elim h [ inl x ↦ inl (x.0, (is_s x.0).0 x.1, x.2) | inr x ↦ inr (x.0, (is_t x.0).0 x.1, x.2) ])
    (λ y h. elim h [ inl x ↦ inl (x.0, (is_s x.0).1 x.1, x.2) | inr x ↦ inr (x.0, (is_t x.0).1 x.1, x.2) ])
    (adds_both (IsPortChanged w v s) (IsPortChanged w w t) old mid new a b)

pub port_said : (r : Row) (port : Port) (old new : ℕ → Type 0) → r ≡ row.Port port → Adds (λ y. y ≡ port.name) old new → Adds (SaysPort r) old new
port_said r port old new is = adds_as (λ y. y ≡ port.name) (SaysPort r) old new (λ y e. (port, is, sym e))
    (λ y h. let e : row.Port h.0 ≡ row.Port port = sym h.1 ∙ is in let same : h.0 ≡ port = cc in sym h.2 ∙ ap (λ (x : Port). x.name) same)

pub ports_said : (rows : List Row) (old new : ℕ → Type 0) → Adds (Before SaysPort rows) old new → Adds (SaysPortAmong rows) old new
ports_said rows old new = adds_as (Before SaysPort rows) (SaysPortAmong rows) old new (λ y h. (h.0, h.1, h.2)) (λ y h. (h.0, h.1, h.2))
