-- Reads around a port that are gathered.
use Rattle.std.proofs.Common.{◌≡◌, ℕ, List, [], ◌++◌, map, Contains, None, Some, Option, inl, inr, true, refl, sym, subst, ap, ◌∙◌}
use Rattle.std.specs.BTreeSet.{BTreeSet, IsOrdered}
use Rattle.std.specs.FinMap as fin
use Rattle.std.specs.List.{filter}
use Rattle.std.proofs.lemmas.List.{append-nil}
use Rattle.std.proofs.lemmas.List.Kept.{IsStrictlySortedBy-filter}
use Rattle.std.proofs.lemmas.List.Elements.{Contains-append_cases, Contains-append_left, Contains-append_right}
use Rattle.fab_reach_base.specs.fab_lemmas.Lists.{IsListOf}
use Rattle.fab_reach_base.specs.fab_names.Orders.{name_cmp}
use Rattle.fab_reach_base.specs.fab_names.Places.{Position}
use Rattle.fab_reach_base.specs.fab_names.declared.fabric.Fabric.{Fabric}
use Rattle.fab_reach_base.specs.fab_names.declared.fabric.Fabric.TheVariants as fabric
use Rattle.fab_reach_base.specs.fab_inventory.Ports.{port_at}
use Rattle.fab_reach_base.specs.fab_inventory.declared.holder.Holder.{Holder}
use Rattle.fab_reach_base.specs.fab_inventory.declared.port.Port.{Port}
use Rattle.fab_policy.specs.fab_policy_base.Policies.{PolicyRows}
use Rattle.fab_reach_base.specs.Reach.{IsPort}
use Rattle.fab_reach_base.specs.Records.{zoning_at}
use Rattle.fab_world.specs.Worlds.{WorldRows, records_of}
use Rattle.fab_reach_base.specs.fab_zoning_rows.Holding.{Holds, IsLoggedInAt}
use Rattle.fab_reach_base.specs.fab_zoning_rows.PortZones.{in_zones}
use Rattle.fab_reach_base.specs.fab_zoning_rows.declared.port_zones.PortZones.{PortZones}
use Rattle.fab_desk_base.specs.Showing.{IsOpenTo}
use Rattle.fab_desk_base.specs.declared.command.Query.{Query}
use Rattle.fab_desk_base.specs.declared.command.Query.TheVariants as query
use Rattle.fab_desk_base.specs.Recorded.{IsRecorded}
use Rattle.fab_looks.specs.Inner.Gathered.{Appends, zone_reads}
use Rattle.fab_looks.specs.Lists.{IsListing, query_of}
use Rattle.fab_looks.specs.PortWays.{AreOfPort, AreZoneReads, HolderQuery, IsOfPort, IsOwnTarget, IsOwnZone}
use Rattle.fab_looks.specs.Ways.{AreGroupReads, IsOneAtMost, IsOpenQuery}
use Rattle.fab_looks.specs.declared.listing.Kind.TheVariants as kinds
use Rattle.fab_looks.proofs.Answered.{names_listed}
use Rattle.fab_looks.proofs.Filtered.{from_filter, into_filter}
use Rattle.fab_looks.proofs.Gathered.{from_four, from_group, from_read, into_four, into_group, into_read}
use Rattle.fab_looks.proofs.Picks.{appends_as, appends_none, listed_none, one_as, one_none}

-- ---- zones at one fabric

module _ (P : Fabric → List ℕ → Type 0) where
  pub zones_none : ((f : Fabric) (z : List ℕ) → ¬ P f z) → AreZoneReads P []
  zones_none none = ([], [], listed_none name_cmp (P fabric.A) [] refl (none fabric.A), listed_none name_cmp (P fabric.B) [] refl (none fabric.B), refl)

  zones_at : (f : Fabric) (zs : List (List ℕ)) → ((g : Fabric) (z : List ℕ) → P g z → g ≡ f) → IsListOf name_cmp (P f) zs → AreZoneReads P (map (λ (z : List ℕ). query.Zone f z) zs)
  zones_at fabric.A zs only listed = (
    zs,
    [],
    listed,
    listed_none name_cmp (P fabric.B) [] refl (λ z h. let e : fabric.B ≡ fabric.A = only fabric.B z h in absurd cc),
    sym (append-nil (map (λ (z : List ℕ). query.Zone fabric.A z) zs)),
  )
  zones_at fabric.B zs only listed = (
    [],
    zs,
    listed_none name_cmp (P fabric.A) [] refl (λ z h. let e : fabric.A ≡ fabric.B = only fabric.A z h in absurd cc),
    listed,
    refl,
  )

  pub from_zone : (qs : List Query) (q : Query) → AreZoneReads P qs → Contains qs q → (f : Fabric) × (z : List ℕ) × P f z × (q ≡ query.Zone f z)
  from_zone qs q r c =
      let reads = λ (f : Fabric) (zs : List (List ℕ)). map (λ (z : List ℕ). query.Zone f z) zs in
      elim (Contains-append_cases (reads fabric.A r.0) (reads fabric.B r.1) q (subst (λ (rs : List Query). Contains rs q) r.4 c)) [
        | inl a ↦ let k = from_read (λ (z : List ℕ). query.Zone fabric.A z) (P fabric.A) r.0 (reads fabric.A r.0) q r.2.sound refl a in (fabric.A, k.0, k.1, k.2)
        | inr b ↦ let k = from_read (λ (z : List ℕ). query.Zone fabric.B z) (P fabric.B) r.1 (reads fabric.B r.1) q r.3.sound refl b in (fabric.B, k.0, k.1, k.2)
      ]

  pub into_zone : (qs : List Query) (q : Query) → AreZoneReads P qs → (f : Fabric) (z : List ℕ) → P f z → q ≡ query.Zone f z → Contains qs q
  into_zone qs q r fabric.A z h e =
      let at_a = map (λ (y : List ℕ). query.Zone fabric.A y) r.0 in
      let at_b = map (λ (y : List ℕ). query.Zone fabric.B y) r.1 in
      subst (λ (rs : List Query). Contains rs q) (sym r.4) (Contains-append_left at_a at_b q (into_read (λ (y : List ℕ). query.Zone fabric.A y) (P fabric.A) r.0 at_a q r.2.complete refl z h e))
  into_zone qs q r fabric.B z h e =
      let at_a = map (λ (y : List ℕ). query.Zone fabric.A y) r.0 in
      let at_b = map (λ (y : List ℕ). query.Zone fabric.B y) r.1 in
      subst (λ (rs : List Query). Contains rs q) (sym r.4) (Contains-append_right at_a at_b q (into_read (λ (y : List ℕ). query.Zone fabric.B y) (P fabric.B) r.1 at_b q r.3.complete refl z h e))

module _ (p : PolicyRows) (w : WorldRows) (id : ℕ) (a : ℕ) where
  -- ---- one port has one place, and one holder

  same_port : (x y : Port) → IsPort (records_of w) a x → IsPort (records_of w) a y → y ≡ x
  same_port x y is there = let e : ◌≡◌ {A = Option Port} (Some y) (Some x) = sym there ∙ is in cc e

  -- one port is logged in at one fabric
  one_place : (x : Port) (f g : Fabric) (at : Position) → x.at ≡ Some (f, at) → IsLoggedInAt g x → g ≡ f
  one_place x f g at here there =
      let e : ◌≡◌ {A = Option (Fabric × Position)} (Some (g, there.0)) (Some (f, at)) = sym there.1 ∙ here in
      let pair : (g, there.0) ≡ (f, at) = cc e in
      ap (λ (x : Fabric × Position). x.0) pair

  -- a port that is not known, or logged in nowhere, is in no zone
  pub zone_unknown : port_at w.inventory.ports a ≡ None → (f : Fabric) (z : List ℕ) → ¬ IsOwnZone p w id a f z
  zone_unknown none f z own = let e : ◌≡◌ {A = Option Port} None (Some own.0.0) = sym none ∙ own.0.1 in absurd cc

  pub zone_unplaced : (x : Port) → IsPort (records_of w) a x → x.at ≡ None → (f : Fabric) (z : List ℕ) → ¬ IsOwnZone p w id a f z
  zone_unplaced x is none f z own =
      let here : IsLoggedInAt f x = subst (IsLoggedInAt f) (same_port x own.0.0 is own.0.1) own.0.2 in
      let e : ◌≡◌ {A = Option (Fabric × Position)} None (Some (f, here.0)) = sym none ∙ here.1 in absurd cc

  module _ {A : Type 0} (x : Port) (f : Fabric) (at : Position) (zones : PortZones A) (is : IsPort (records_of w) a x) (here : x.at ≡ Some (f, at))
      (of : (z : List ℕ) → (in_zones zones z ≡ true → Holds (zoning_at w.config f).rows x z) × (Holds (zoning_at w.config f).rows x z → in_zones zones z ≡ true)) where
    zone_place : (g : Fabric) (z : List ℕ) → IsOwnZone p w id a g z → g ≡ f
    zone_place g z own = one_place x f g at here (subst (IsLoggedInAt g) (same_port x own.0.0 is own.0.1) own.0.2)

    zone_list : (names : List (List ℕ)) → IsListOf name_cmp (λ n. IsOpenTo p w id (query_of (kinds.Zones f) n)) names → IsListOf name_cmp (IsOwnZone p w id a f) (filter (in_zones zones) names)
    zone_list names listed = record {
      sorted = IsStrictlySortedBy-filter name_cmp (in_zones zones) names listed.sorted;
      sound = λ z c. let k = from_filter (in_zones zones) names z c in ((x, is, (at, here), (of z).0 k.1), listed.sound z k.0);
      complete = λ z own.
          let held : Holds (zoning_at w.config f).rows x z = subst (λ (y : Port). Holds (zoning_at w.config f).rows y z) (same_port x own.0.0 is own.0.1) own.0.3 in
          into_filter (in_zones zones) names z (listed.complete z own.1) ((of z).1 held);
    }

    pub zones_added : (names : BTreeSet (List ℕ)) (xs ys : List Query) → IsOrdered name_cmp names → IsListing p w id (kinds.Zones f) names → ys ≡ xs ++ zone_reads zones f names.keys → Appends (AreZoneReads (IsOwnZone p w id a)) xs ys
    zones_added names xs ys sorted listing made = (
      zone_reads zones f names.keys,
      zones_at (IsOwnZone p w id a) f (filter (in_zones zones) names.keys) zone_place (zone_list names.keys (names_listed p w id (kinds.Zones f) names sorted listing)),
      made,
    )

  -- ---- the holder

  -- a port that is not known, or that nobody holds, has no holder
  pub holder_unknown : port_at w.inventory.ports a ≡ None → (q : Query) → ¬ HolderQuery p w id a q
  holder_unknown none q k = let e : ◌≡◌ {A = Option Port} None (Some k.0) = sym none ∙ k.3 in absurd cc

  pub holder_unheld : (x : Port) → IsPort (records_of w) a x → x.holder ≡ None → (q : Query) → ¬ HolderQuery p w id a q
  holder_unheld x is none q k =
      let held : x.holder ≡ Some k.1 = subst (λ (v : Port). v.holder ≡ Some k.1) (same_port x k.0 is k.3) k.4 in
      let e : ◌≡◌ {A = Option (List ℕ)} None (Some k.1) = sym none ∙ held in absurd cc

  same_holder : (x : Port) (h : List ℕ) → IsPort (records_of w) a x → x.holder ≡ Some h → (u : Port) (g : List ℕ) → IsPort (records_of w) a u → u.holder ≡ Some g → g ≡ h
  same_holder x h is held u g u_is u_held =
      let there : x.holder ≡ Some g = subst (λ (v : Port). v.holder ≡ Some g) (same_port x u is u_is) u_held in
      let e : ◌≡◌ {A = Option (List ℕ)} (Some g) (Some h) = sym there ∙ held in cc e

  pub holder_lost : (x : Port) (h : List ℕ) → IsPort (records_of w) a x → x.holder ≡ Some h → fin.get w.inventory.holders h ≡ None → (q : Query) → ¬ HolderQuery p w id a q
  holder_lost x h is held none q k =
      let there : fin.get w.inventory.holders h ≡ Some k.2 = subst (λ (n : List ℕ). fin.get w.inventory.holders n ≡ Some k.2) (same_holder x h is held k.0 k.1 k.3 k.4) k.5 in
      let e : ◌≡◌ {A = Option Holder} None (Some k.2) = sym none ∙ there in absurd cc

  holder_back : (x : Port) (h : List ℕ) (y : Holder) (q : Query) → IsPort (records_of w) a x → x.holder ≡ Some h → fin.get w.inventory.holders h ≡ Some y → HolderQuery p w id a q → IsOpenQuery p w id (query.Holder y.kind h) q
  holder_back x h y q is held there k =
      let name : k.1 ≡ h = same_holder x h is held k.0 k.1 k.3 k.4 in
      let found : fin.get w.inventory.holders h ≡ Some k.2 = subst (λ (n : List ℕ). fin.get w.inventory.holders n ≡ Some k.2) name k.5 in
      let same : k.2 ≡ y = let e : ◌≡◌ {A = Option Holder} (Some k.2) (Some y) = sym found ∙ there in cc e in
      subst (λ (v : Holder). IsOpenQuery p w id (query.Holder v.kind h) q) same (subst (λ (n : List ℕ). IsOpenQuery p w id (query.Holder k.2.kind n) q) name k.6)

  pub holder_added : (x : Port) (h : List ℕ) (y : Holder) (xs ys : List Query) → IsPort (records_of w) a x → x.holder ≡ Some h → fin.get w.inventory.holders h ≡ Some y
      → Appends (IsOneAtMost (IsOpenQuery p w id (query.Holder y.kind h))) xs ys → Appends (IsOneAtMost (HolderQuery p w id a)) xs ys
  holder_added x h y xs ys is held there = appends_as (IsOneAtMost (IsOpenQuery p w id (query.Holder y.kind h))) (IsOneAtMost (HolderQuery p w id a)) xs ys
      (λ qs. one_as (IsOpenQuery p w id (query.Holder y.kind h)) (HolderQuery p w id a) qs (λ q k. (x, h, y, is, held, there, k)) (λ q k. holder_back x h y q is held there k))

  pub no_holder : (xs : List Query) → ((q : Query) → ¬ HolderQuery p w id a q) → Appends (IsOneAtMost (HolderQuery p w id a)) xs xs
  no_holder xs none = appends_none (IsOneAtMost (HolderQuery p w id a)) xs (one_none (HolderQuery p w id a) [] refl none)

  pub no_zone : (xs : List Query) → ((f : Fabric) (z : List ℕ) → ¬ IsOwnZone p w id a f z) → Appends (AreZoneReads (IsOwnZone p w id a)) xs xs
  no_zone xs none = appends_none (AreZoneReads (IsOwnZone p w id a)) xs (zones_none (IsOwnZone p w id a) none)

  -- ---- all of them

  pub of_port : (none xs ys zs qs : List Query) → none ≡ [] → Appends (IsOneAtMost (IsOpenQuery p w id (query.Port a))) none xs → Appends (IsOneAtMost (HolderQuery p w id a)) xs ys
      → Appends (AreZoneReads (IsOwnZone p w id a)) ys zs → Appends (AreGroupReads (IsOwnTarget p w id a)) zs qs → AreOfPort p w id a qs
  of_port none xs ys zs qs is h i j k = record {
    ports = h.0;
    holders = i.0;
    zones = j.0;
    groups = k.0;
    port_is = h.1;
    holder_is = i.1;
    zones_are = j.1;
    groups_are = k.1;
    in_order = k.2 ∙ ap (λ (rs : List Query). rs ++ k.0) (j.2 ∙ ap (λ (rs : List Query). rs ++ j.0) (i.2 ∙ ap (λ (rs : List Query). rs ++ i.0) (h.2 ∙ ap (λ (rs : List Query). rs ++ h.0) is)));
  }

  -- which reads there are
  pub port_is : (qs : List Query) → AreOfPort p w id a qs → (q : Query) → (Contains qs q → IsOfPort p w id a q) × (IsOfPort p w id a q → Contains qs q)
  port_is qs way q = (
    (λ c. elim (from_four way.ports way.holders way.zones way.groups q (subst (λ (rs : List Query). Contains rs q) way.in_order c)) [
      | inl h ↦ inl ((way.port_is.0 q).0 h)
      | inr (inl h) ↦ inr (inl ((way.holder_is.0 q).0 h))
      | inr (inr (inl h)) ↦ let r = from_zone (IsOwnZone p w id a) way.zones q way.zones_are h in inr (inr (inl (r.0, r.1, r.2.0, (r.3, r.2.1))))
      | inr (inr (inr h)) ↦ let r = from_group (IsOwnTarget p w id a) way.groups q way.groups_are h in inr (inr (inr (r.0, r.1.0, r.1.1, r.1.2, (r.2, r.1.3))))
    ]),
    λ o. subst (λ (rs : List Query). Contains rs q) (sym way.in_order) (into_four way.ports way.holders way.zones way.groups q (elim o [
      | inl h ↦ inl ((way.port_is.0 q).1 h)
      | inr (inl h) ↦ inr (inl ((way.holder_is.0 q).1 h))
      | inr (inr (inl h)) ↦ inr (inr (inl (into_zone (IsOwnZone p w id a) way.zones q way.zones_are h.0 h.1 (h.2, h.3.1) h.3.0)))
      | inr (inr (inr h)) ↦ inr (inr (inr (into_group (IsOwnTarget p w id a) way.groups q way.groups_are h.0 (h.1, h.2, h.3, h.4.1) h.4.0)))
    ])),
  )

  pub port_recorded : (qs : List Query) → AreOfPort p w id a qs → (q : Query) → Contains qs q → IsRecorded w q
  port_recorded qs way q c = elim ((port_is qs way q).0 c) [
    | inl n ↦ subst (IsRecorded w) (sym n.0) n.1
    | inr (inl h) ↦ subst (IsRecorded w) (sym h.6.0) (h.6.1.0, h.6.1.1)
    | inr (inr (inl z)) ↦ subst (IsRecorded w) (sym z.3.0) z.3.1
    | inr (inr (inr m)) ↦ subst (IsRecorded w) (sym m.4.0) (m.4.1.0, m.4.1.1)
  ]
