-- Ends that are gathered.
use Rattle.std.proofs.Common.{◌≡◌, ℕ, List, [], Contains, Option, None, Some, true, refl, sym, ap, ◌∙◌, subst}
use Rattle.std.specs.Ordering.{nat_cmp}
use Rattle.std.specs.Cmp.{nat_cmp_total}
use Rattle.std.specs.BTreeSet.{BTreeSet, IsOrdered}
use Rattle.std.specs.FinMap as map
use Rattle.std.specs.FinSet as set
use Rattle.std.proofs.lemmas.Map.Views.{btree_set_contains_iff}
use Rattle.fab_reach_base.proofs.fab_lemmas.SeenSets.{listed_decides}
use Rattle.fab_reach_base.specs.fab_lemmas.Lists as lists
use Rattle.fab_reach_base.specs.fab_names.Places.{Position}
use Rattle.fab_reach_base.specs.fab_names.declared.fabric.Fabric.{Fabric}
use Rattle.fab_reach_base.proofs.fab_names.OrderLaws.{name_total, name_exact}
use Rattle.fab_reach_base.specs.fab_inventory.Holders as holders
use Rattle.fab_reach_base.specs.fab_inventory.Ports.{port_at}
use Rattle.fab_reach_base.specs.fab_inventory.declared.port.Port.{Port}
use Rattle.fab_reach_base.specs.fab_zoning_rows.Holding.{IsLoggedInAt}
use Rattle.fab_reach_base.specs.fab_mapping_base.Groups.{StorageGroupRows}
use Rattle.fab_policy.specs.fab_policy_base.Policies.{PolicyRows}
use Rattle.fab_reach_base.specs.Adding.{Adds}
use Rattle.fab_reach_base.specs.Gathering.{Serves}
use Rattle.fab_reach_base.specs.Reach.{IsPort}
use Rattle.fab_reach_base.specs.Records.{Records}
use Rattle.fab_reach_base.proofs.Adding.{Before, adds_as, adds_none, from_none}
use Rattle.fab_reach_base.proofs.Same.{same_some, same_fabric}
use Rattle.fab_reach_base.proofs.Sets.{none_in}
use Rattle.fab_world.specs.Worlds.{WorldRows, records_of}
use Rattle.fab_desk_base.specs.Tenants.{Has}
use Rattle.fab_looks.specs.Told.{SeesHost, SeesVolume}
use Rattle.fab_looks_ways.specs.Inner.Gathering.{PortEnds, PortsEnds, TargetEnds, TargetsEnds, GroupEnds, GroupsEnds, IsEndsOf, AreEndsOf}
use Rattle.fab_looks_ways.specs.Pairs.{HasEnds, IsPair, IsUpAt, ends_cmp, ends_order}
use Rattle.fab_looks.specs.Ways.{IsOwnMapping}
use Rattle.fab_looks_ways.specs.declared.ends.Ends.{Ends}
use Rattle.fab_looks_ways.proofs.EndsOrder.{ends_total, ends_exact}

module _ (w : Records) where
  pub port_added : (f : Fabric) (q a : ℕ) (old new : Ends → Type 0) → IsUpAt w f a → Adds (λ (e : Ends). e ≡ record { fabric = f; initiator = a; target = q }) old new → Adds (PortEnds w f q a) old new
  port_added f q a old new up = adds_as (λ (e : Ends). e ≡ record { fabric = f; initiator = a; target = q }) (PortEnds w f q a) old new
      (λ e is. (up, ap (λ (x : Ends). x.fabric) is, ap (λ (x : Ends). x.initiator) is, ap (λ (x : Ends). x.target) is))
      (λ e h i. record { fabric = h.1 i; initiator = h.2 i; target = h.3 i })

  module _ (ports : List ℕ) where
    pub target_added : (q : ℕ) (x : Port) (f : Fabric) (old new : Ends → Type 0) → IsPort w q x → IsLoggedInAt f x → Adds (PortsEnds w ports f q) old new → Adds (TargetEnds w ports q) old new
    target_added q x f old new is here = adds_as (PortsEnds w ports f q) (TargetEnds w ports q) old new
        (λ e h. (f, (x, is, here), h))
        (λ e h. subst (λ (g : Fabric). PortsEnds w ports g q e) (same_fabric x h.0 f (subst (IsLoggedInAt h.0) (same_some h.1.1 is) h.1.2) here) h.2)

    pub no_target : (q : ℕ) (old : Ends → Type 0) → port_at w.inventory.ports q ≡ None → Adds (TargetEnds w ports q) old old
    no_target q old none = adds_none (TargetEnds w ports q) old (λ e h. let k : ◌≡◌ {A = Option Port} None (Some h.1.0) = sym none ∙ h.1.1 in absurd cc)

    pub not_up : (q : ℕ) (x : Port) (old : Ends → Type 0) → IsPort w q x → x.at ≡ None → Adds (TargetEnds w ports q) old old
    not_up q x old is none = adds_none (TargetEnds w ports q) old (λ e h.
        let here : IsLoggedInAt h.0 x = subst (IsLoggedInAt h.0) (same_some h.1.1 is) h.1.2 in
        let k : ◌≡◌ {A = Option (Fabric × Position)} None (Some (h.0, here.0)) = sym none ∙ here.1 in absurd cc)

    pub targets_added : (g : StorageGroupRows) (qs : List ℕ) (old new : Ends → Type 0) → set.from_list qs ≡ g.targets → Adds (Before (TargetEnds w ports) qs) old new → Adds (TargetsEnds w ports g) old new
    targets_added g qs old new is = adds_as (Before (TargetEnds w ports) qs) (TargetsEnds w ports g) old new
        (λ e h. (h.0, sym (ap (λ (s : set.FinSet nat_cmp). set.contains s h.0) is) ∙ (listed_decides nat_cmp_total set.nat_cmp-IsAntisymmetric qs h.0).1 h.1, h.2))
        (λ e h. (h.0, (listed_decides nat_cmp_total set.nat_cmp-IsAntisymmetric qs h.0).0 (ap (λ (s : set.FinSet nat_cmp). set.contains s h.0) is ∙ h.1), h.2))

    module _ (host n : List ℕ) where
      pub group_added : (g : StorageGroupRows) (old new : Ends → Type 0) → map.get w.config.mapping.groups n ≡ Some g → Serves w.config.mapping g host → Adds (TargetsEnds w ports g) old new → Adds (GroupEnds w ports host n) old new
      group_added g old new at serves = adds_as (TargetsEnds w ports g) (GroupEnds w ports host n) old new
          (λ e h. (g, at, serves, h))
          (λ e h. subst (λ (k : StorageGroupRows). TargetsEnds w ports k e) (same_some h.1 at) h.3)

      pub no_group : (old : Ends → Type 0) → map.get w.config.mapping.groups n ≡ None → Adds (GroupEnds w ports host n) old old
      no_group old none = adds_none (GroupEnds w ports host n) old (λ e h. let k : ◌≡◌ {A = Option StorageGroupRows} None (Some h.0) = sym none ∙ h.1 in absurd cc)

      pub not_served : (g : StorageGroupRows) (old : Ends → Type 0) → map.get w.config.mapping.groups n ≡ Some g → ¬ Serves w.config.mapping g host → Adds (GroupEnds w ports host n) old old
      not_served g old at none = adds_none (GroupEnds w ports host n) old (λ e h. none (subst (λ (k : StorageGroupRows). Serves w.config.mapping k host) (same_some h.1 at) h.2))

    pub groups_added : (host : List ℕ) (names : BTreeSet (List ℕ)) (ns : List (List ℕ)) (old new : Ends → Type 0) → ns ≡ names.keys → Adds (Before (GroupEnds w ports host) ns) old new → Adds (GroupsEnds w ports host names) old new
    groups_added host names ns old new is = adds_as (Before (GroupEnds w ports host) ns) (GroupsEnds w ports host names) old new
        (λ e h. (h.0, (btree_set_contains_iff name_total name_exact names h.0).1 (subst (λ (ms : List (List ℕ)). Contains ms h.0) is h.1), h.2))
        (λ e h. (h.0, subst (λ (ms : List (List ℕ)). Contains ms h.0) (sym is) ((btree_set_contains_iff name_total name_exact names h.0).0 h.1), h.2))

module _ (p : PolicyRows) (w : WorldRows) (id : ℕ) (host volume : List ℕ) where
  pub ends_are : (ports : List ℕ) (names : BTreeSet (List ℕ)) (s t : BTreeSet Ends) → lists.IsListOf nat_cmp (holders.Holds (map.get w.inventory.ports) host) ports
      → ((n : List ℕ) → (Has names n → IsOwnMapping p w id volume n) × (IsOwnMapping p w id volume n → Has names n)) → s.keys ≡ [] → Adds (GroupsEnds (records_of w) ports host names) (HasEnds s) (HasEnds t) → AreEndsOf p w id host volume t
  ends_are ports names s t listed own none a e =
      let d = from_none (GroupsEnds (records_of w) ports host names) (HasEnds s) (HasEnds t) (none_in ends_total ends_exact s none) a e in (
        (λ h. to (d.0 h)),
        λ h. d.1 (from h),
      )
    where
      to : GroupsEnds (records_of w) ports host names e → IsEndsOf p w id host volume e
      to k =
          let n = k.0 in
          let g = k.2.0 in
          let t = k.2.3 in
          let q = t.0 in
          let u = t.2 in
          let f = u.0 in
          let v = u.2 in
          let a = v.0 in
          let r = v.2 in (
            subst (holders.Holds (map.get w.inventory.ports) host) (sym r.2) (listed.sound a v.1),
            (n, (own n).0 k.1, (g, k.2.1, k.2.2, subst (λ (b : ℕ). set.contains g.targets b ≡ true) (sym r.3) t.1)),
            subst (λ (h : Fabric). IsUpAt (records_of w) h e.initiator) (sym r.1) (subst (IsUpAt (records_of w) f) (sym r.2) r.0),
            subst (λ (h : Fabric). IsUpAt (records_of w) h e.target) (sym r.1) (subst (IsUpAt (records_of w) f) (sym r.3) u.1),
          )

      from : IsEndsOf p w id host volume e → GroupsEnds (records_of w) ports host names e
      from h =
          let n = h.1.0 in
          let s = h.1.2 in
          (n, (own n).1 h.1.1, (s.0, s.1, s.2, (e.target, s.3, (e.fabric, h.3, (e.initiator, listed.complete e.initiator h.0, (h.2, refl, refl, refl))))))

  pub pairs_are : (t : BTreeSet Ends) → SeesHost p w id host → SeesVolume p w id volume → AreEndsOf p w id host volume t → (e : Ends) → (HasEnds t e → IsPair p w id host volume e) × (IsPair p w id host volume e → HasEnds t e)
  pairs_are t own_host own_volume are e = (
    (λ h. let k = (are e).0 h in record { host_is_own = own_host; volume_is_own = own_volume; held = k.0; group = k.1.0; mapping = k.1.1; target = k.1.2; here = k.2; there = k.3 }),
    λ x. (are e).1 (x.held, (x.group, x.mapping, x.target), x.here, x.there),
  )

  pub no_pairs : (t : BTreeSet Ends) → t.keys ≡ [] → (((e : Ends) → ¬ IsPair p w id host volume e)) → (e : Ends) → (HasEnds t e → IsPair p w id host volume e) × (IsPair p w id host volume e → HasEnds t e)
  no_pairs t none never e = ((λ h. absurd (none_in ends_total ends_exact t none e h)), λ x. absurd (never e x))

  -- as a list
  pub pairs_listed : (t : BTreeSet Ends) → IsOrdered ends_cmp t → ((e : Ends) → (HasEnds t e → IsPair p w id host volume e) × (IsPair p w id host volume e → HasEnds t e)) → lists.IsListOf ends_order (IsPair p w id host volume) t.keys
  pairs_listed t sorted are = record {
    sorted = sorted;
    sound = λ e c. (are e).0 ((btree_set_contains_iff ends_total ends_exact t e).1 c);
    complete = λ e x. (btree_set_contains_iff ends_total ends_exact t e).0 ((are e).1 x);
  }
