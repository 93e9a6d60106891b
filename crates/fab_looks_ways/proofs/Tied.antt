-- Zones of ports and ties that are looked up.
use Rattle.std.proofs.Common.{◌≡◌, ◌||◌, ℕ, List, [], Bool, true, false, cond, Option, None, Some, ◌⊎◌, inl, inr, refl, sym, ap, ◌∙◌, subst}
use Rattle.std.specs.Ordering.{nat_cmp}
use Rattle.std.specs.Cmp.{Equal-is}
use Rattle.std.specs.BTreeMap.{BTreeMap, get, is_at}
use Rattle.std.specs.Map.{lookup}
use Rattle.std.specs.BTreeSet as sets
use Rattle.std.specs.BTreeSet.{BTreeSet}
use Rattle.std.specs.FinSet as set
use Rattle.std.specs.Option.{option_copied}
use Rattle.std.proofs.lemmas.Map.Views.{btree_set_contains_iff}
use Rattle.fab_reach_base.specs.fab_lemmas.MapsOfSets.{in_tree}
use Rattle.fab_reach_base.specs.fab_names.Orders.{name_cmp}
use Rattle.fab_reach_base.specs.fab_names.declared.fabric.Fabric.{Fabric}
use Rattle.fab_reach_base.proofs.fab_names.OrderLaws.{name_total, name_exact}
use Rattle.fab_reach_base.specs.fab_inventory.declared.port.Port.{Port}
use Rattle.fab_reach_base.specs.fab_zoning.Zonings.{FabricZoning}
use Rattle.fab_reach_base.specs.fab_zoning_rows.Holding.{Holds, IsLoggedInAt}
use Rattle.fab_reach_base.specs.fab_zoning_rows.PortZones.{in_zones}
use Rattle.fab_reach_base.specs.fab_zoning_rows.declared.port_zones.PortZones.{PortZones}
use Rattle.fab_reach_base.specs.Adding.{Adds}
use Rattle.fab_reach_base.specs.Reach.{IsPort}
use Rattle.fab_reach_base.specs.Records.{Records, zoning_at}
use Rattle.fab_reach_base.proofs.Same.{same_some, same_fabric}
use Rattle.fab_desk_base.specs.Tenants.{Has}
use Rattle.fab_looks_ways.specs.Inner.Ties.{AreZonesAt, IsMemo}
use Rattle.fab_looks_ways.specs.Pairs.{AreZonesOf, told_as}
use Rattle.fab_looks_ways.specs.declared.zoned.Zoned.{Zoned}
use Rattle.fab_looks_ways.proofs.Gains.{names_from}

-- ---- the zones of a port

either : (a b c d : Bool) → (a || (b || (c || d))) ≡ true → (a ≡ true) ⊎ ((b ≡ true) ⊎ ((c ≡ true) ⊎ (d ≡ true)))
either true b c d e = inl refl
either false true c d e = inr (inl refl)
either false false true d e = inr (inr (inl refl))
either false false false d e = inr (inr (inr e))

some_of : (a b c d : Bool) → (a ≡ true) ⊎ ((b ≡ true) ⊎ ((c ≡ true) ⊎ (d ≡ true))) → (a || (b || (c || d))) ≡ true
some_of true b c d h = refl
some_of false true c d h = refl
some_of false false true d h = refl
some_of false false false d h = elim h [ inl e ↦ absurd cc | inr (inl e) ↦ absurd cc | inr (inr (inl e)) ↦ absurd cc | inr (inr (inr e)) ↦ e ]

-- some and then others
adds_both : {Y : Type 0} (P Q old mid new : Y → Type 0) → Adds P old mid → Adds Q mid new → Adds (λ y. P y ⊎ Q y) old new
adds_both P Q old mid new a b = record {
  sound = λ y h. elim (b.sound y h) [ inl m ↦ elim (a.sound y m) [ inl o ↦ inl o | inr p ↦ inr (inl p) ] | inr q ↦ inr (inr q) ];
  kept = λ y h. b.kept y (a.kept y h);
  there = λ y h. elim h [ inl p ↦ b.kept y (a.there y p) | inr q ↦ b.there y q ];
}

-- a name of one of the sets
abbrev pub InSet : Option (BTreeSet (List ℕ)) → List ℕ → Type 0
InSet o z = in_tree name_cmp o z ≡ true

pub all_zones : {A : Type 0} (t : PortZones A) (s a b c d : BTreeSet (List ℕ)) → s.keys ≡ [] → Adds (InSet (option_copied t.by_port)) (Has s) (Has a) → Adds (InSet (option_copied t.by_node)) (Has a) (Has b) → Adds (InSet (option_copied t.by_place)) (Has b) (Has c)
    → Adds (InSet (option_copied t.by_address)) (Has c) (Has d) → (z : List ℕ) → (Has d z → in_zones t z ≡ true) × (in_zones t z ≡ true → Has d z)
all_zones t s a b c d none x y z w n =
    let P = InSet (option_copied t.by_port) in
    let Q = InSet (option_copied t.by_node) in
    let R = InSet (option_copied t.by_place) in
    let U = InSet (option_copied t.by_address) in
    let last = adds_both R U (Has b) (Has c) (Has d) z w in
    let later = adds_both Q (λ m. R m ⊎ U m) (Has a) (Has b) (Has d) y last in
    let all = names_from (λ m. P m ⊎ (Q m ⊎ (R m ⊎ U m))) s d none (adds_both P (λ m. Q m ⊎ (R m ⊎ U m)) (Has s) (Has a) (Has d) x later) n in (
      (λ h. some_of (in_tree name_cmp (option_copied t.by_port) n) (in_tree name_cmp (option_copied t.by_node) n) (in_tree name_cmp (option_copied t.by_place) n) (in_tree name_cmp (option_copied t.by_address) n) (all.0 h)),
      λ e. all.1 (either (in_tree name_cmp (option_copied t.by_port) n) (in_tree name_cmp (option_copied t.by_node) n) (in_tree name_cmp (option_copied t.by_place) n) (in_tree name_cmp (option_copied t.by_address) n) e),
    )

pub zones_told : {A : Type 0} (v : FabricZoning) (x : Port) (t : PortZones A) (s : BTreeSet (List ℕ)) (told : Zoned) → sets.IsOrdered name_cmp s → ((z : List ℕ) → (Has s z → in_zones t z ≡ true) × (in_zones t z ≡ true → Has s z))
    → ((z : List ℕ) → (in_zones t z ≡ true → Holds v.rows x z) × (Holds v.rows x z → in_zones t z ≡ true)) → told ≡ told_as s.keys → AreZonesOf v x told
zones_told v x t s told sorted all holds is = (
  s.keys,
  record {
    sorted = sorted;
    sound = λ z c. (holds z).0 ((all z).0 ((btree_set_contains_iff name_total name_exact s z).1 c));
    complete = λ z h. (btree_set_contains_iff name_total name_exact s z).0 ((all z).1 ((holds z).1 h));
  },
  is,
)

-- ---- what is kept

module _ (w : Records) where
  pub memo_none : (m : BTreeMap ℕ Zoned) → m.entries ≡ [] → IsMemo w m
  memo_none m none a z at =
      let no : get nat_cmp m a ≡ None = ap (λ (es : List (ℕ × Zoned)). lookup (is_at (nat_cmp a)) es) none in
      let e : ◌≡◌ {A = Option Zoned} None (Some z) = sym no ∙ at in absurd cc

  pub zones_at : (f : Fabric) (x : Port) (z : Zoned) → IsPort w x.name x → IsLoggedInAt f x → AreZonesOf (zoning_at w.config f) x z → AreZonesAt w x.name z
  zones_at f x z is here are g y y_is y_here =
      let same : x ≡ y = same_some is y_is in
      let place : f ≡ g = same_fabric y f g (subst (IsLoggedInAt f) same here) y_here in
      subst (λ (h : Fabric). AreZonesOf (zoning_at w.config h) y z) place (subst (λ (u : Port). AreZonesOf (zoning_at w.config f) u z) same are)

  pub memo_more : (k : ℕ) (v : Zoned) (m t : BTreeMap ℕ Zoned) → AreZonesAt w k v → ((q : ℕ) → get nat_cmp t q ≡ cond (is_at (nat_cmp k) q) (Some v) (get nat_cmp m q)) → IsMemo w m → IsMemo w t
  memo_more k v m t are updates kept a z at = by (is_at (nat_cmp k) a) refl (sym (updates a) ∙ at)
    where
      by : (b : Bool) → is_at (nat_cmp k) a ≡ b → cond b (Some v) (get nat_cmp m a) ≡ Some z → AreZonesAt w a z
      by true is e =
          let value : v ≡ z = cc in
          let name : k ≡ a = set.nat_cmp-IsAntisymmetric k a ((Equal-is (nat_cmp k a)).0 is) in
          subst (λ (b : ℕ). AreZonesAt w b z) name (subst (AreZonesAt w k) value are)
      by false is e = kept a z e
