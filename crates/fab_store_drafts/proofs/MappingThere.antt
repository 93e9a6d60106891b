-- A mapping is sound where it was sound before, and is sound where it was edited.
use Rattle.std.proofs.Common.{ℕ, ◌≡◌, ◌<◌, ◌≤◌, ◌⊎◌, inl, inr, List, Contains, Option, None, Some, is_some, IsSome, true, refl, sym, ap, ◌∙◌, subst, arith}
use mathlib.Core.Bool.{true≢false}
use Rattle.std.specs.FinMap as map
use Rattle.std.specs.FinSet as set
use Rattle.std.specs.Cmp.{nat_cmp_total}
use Rattle.fab_reach_base.specs.fab_names.Orders.{name_cmp}
use Rattle.fab_reach_base.proofs.fab_names.OrderLaws.{name_total, name_exact}
use Rattle.fab_reach_base.specs.fab_mapping_base.declared.limits.TheConstants.{MOST_HOSTS, MOST_GROUPS_SERVED, MOST_TARGETS, MOST_UNITS}
use Rattle.fab_reach_base.specs.fab_mapping_base.Groups.{HostGroupRows, StorageGroupRows}
use Rattle.fab_reach_base.specs.fab_mapping.Mappings.{MappingRows, IsUnservedIn}
use Rattle.fab_reach_base.specs.fab_mapping.Soundness.{IsSound}
use Rattle.fab_reach_base.specs.fab_lemmas.Firsts.{HasAt}
use Rattle.fab_reach_base.specs.Records.{ConfigRows}
use Rattle.fab_store_rows.specs.Standing.{HasPart, IsPart, Stands}
use Rattle.fab_store_rows.specs.declared.config_row.GroupRow.{GroupRow}
use Rattle.fab_store_rows.specs.declared.config_row.GroupRow.TheVariants as group
use Rattle.fab_store_rows.specs.declared.config_row.PartRow.{PartRow}
use Rattle.fab_store_rows.specs.declared.config_row.PartRow.TheVariants as parts
use Rattle.fab_store_rows.specs.declared.config_row.StoragePart.{StoragePart}
use Rattle.fab_store_rows.specs.declared.config_row.ConfigRow.{ConfigRow}
use Rattle.fab_store_rows.specs.declared.config_row.StoragePart.TheVariants as part
use Rattle.fab_store_edits.specs.Led.{IsLed}
use Rattle.fab_store_edits.specs.Rows.{host_head, host_row, part_row}
use Rattle.fab_store_drafts.specs.There.{HasSomeHost, HasFewHosts, HasFewLike, IsNameable, GroupMayCome, PartMayCome, GroupMayGo, PartMayGo, IsSoundThere}
use Rattle.fab_reach_base.proofs.fab_lemmas.Sizes.{part_of_set, some_member}
use Rattle.fab_store_drafts.proofs.IfThere.{at_some, some_at}
use Rattle.fab_store_edits.proofs.RowsInOrder.{le_or}
use Rattle.fab_store_drafts.proofs.Sizes.{some_key, part_of_map}

pub one : {X : Type 0} (a b : X) → ◌≡◌ {A = Option X} (Some a) (Some b) → a ≡ b
one a b e = cc

pub found_one : {X : Type 0} (o : Option X) (a b : X) → o ≡ Some a → o ≡ Some b → a ≡ b
found_one o a b e f = one a b (sym e ∙ f)

-- where nothing is, nothing has a property
pub nothing_at : {Q X : Type 0} (at : Q → Option X) (P : X → Type 0) (q : Q) → at q ≡ None → ¬ HasAt at P q
nothing_at at P q is h = let e : ◌≡◌ {A = Option _} None (Some h.0) = sym is ∙ h.1 in absurd cc

-- what is there has it
pub here_at : {Q X : Type 0} (at : Q → Option X) (P : X → Type 0) (q : Q) (x : X) → at q ≡ Some x → HasAt at P q → P x
here_at at P q x is h = subst P (found_one (at q) h.0 x h.1 is) h.2

module _ (c d : ConfigRows) (go come : List ConfigRow) (led : IsLed c d go come) (was : IsSound c.mapping) where
  abbrev v : MappingRows
  v = d.mapping

  abbrev w : MappingRows
  w = c.mapping

  -- a set of a storage group's parts that grows only where one comes
  module _ (n : List ℕ) (g : StorageGroupRows) (at : map.get v.groups n ≡ Some g) where
    few_names : set.len g.host_groups ≤ MOST_GROUPS_SERVED ⊎ MOST_GROUPS_SERVED < set.len g.host_groups → ((k : List ℕ) → Contains come (part_row n (part.HostGroup k)) → set.len g.host_groups ≤ MOST_GROUPS_SERVED) → set.len g.host_groups ≤ MOST_GROUPS_SERVED
    few_names (inl h) few = h
    few_names (inr more) few = by (map.get w.groups n) refl
      where
        had : (k : List ℕ) → set.contains g.host_groups k ≡ true → Stands c (part_row n (part.HostGroup k))
        had k h = elim (led.kept (part_row n (part.HostGroup k)) (g, at, h)) [ inl s ↦ s | inr came ↦ absurd (let l = few k came in omega (arith, l, more)) ]

        by : (a : Option StorageGroupRows) → map.get w.groups n ≡ a → set.len g.host_groups ≤ MOST_GROUPS_SERVED
        by None is = absurd (let m = some_member name_total name_exact g.host_groups (omega (arith, more)) in nothing_at (map.get w.groups) (HasPart (part.HostGroup m.0)) n is (had m.0 m.1))
        by (Some t) is =
            let fewer = part_of_set name_total name_exact g.host_groups t.host_groups (λ k h. here_at (map.get w.groups) (HasPart (part.HostGroup k)) n t is (had k h)) in
            let l = (was.groups n t is).parts.few_host_groups in
            omega (arith, fewer, l)

    few_ports : set.len g.targets ≤ MOST_TARGETS ⊎ MOST_TARGETS < set.len g.targets → ((q : ℕ) → Contains come (part_row n (part.Target q)) → set.len g.targets ≤ MOST_TARGETS) → set.len g.targets ≤ MOST_TARGETS
    few_ports (inl h) few = h
    few_ports (inr more) few = by (map.get w.groups n) refl
      where
        had : (q : ℕ) → set.contains g.targets q ≡ true → Stands c (part_row n (part.Target q))
        had q h = elim (led.kept (part_row n (part.Target q)) (g, at, h)) [ inl s ↦ s | inr came ↦ absurd (let l = few q came in omega (arith, l, more)) ]

        by : (a : Option StorageGroupRows) → map.get w.groups n ≡ a → set.len g.targets ≤ MOST_TARGETS
        by None is = absurd (let m = some_member nat_cmp_total set.nat_cmp-IsAntisymmetric g.targets (omega (arith, more)) in nothing_at (map.get w.groups) (HasPart (part.Target m.0)) n is (had m.0 m.1))
        by (Some t) is =
            let fewer = part_of_set nat_cmp_total set.nat_cmp-IsAntisymmetric g.targets t.targets (λ q h. here_at (map.get w.groups) (HasPart (part.Target q)) n t is (had q h)) in
            let l = (was.groups n t is).parts.few_targets in
            omega (arith, fewer, l)

    few_maps : map.len g.units ≤ MOST_UNITS ⊎ MOST_UNITS < map.len g.units → ((u : ℕ) (x : List ℕ) → Contains come (part_row n (part.Unit u x)) → map.len g.units ≤ MOST_UNITS) → map.len g.units ≤ MOST_UNITS
    few_maps (inl h) few = h
    few_maps (inr more) few = by (map.get w.groups n) refl
      where
        had : (u : ℕ) (x : List ℕ) → map.get g.units u ≡ Some x → Stands c (part_row n (part.Unit u x))
        had u x h = elim (led.kept (part_row n (part.Unit u x)) (g, at, h)) [ inl s ↦ s | inr came ↦ absurd (let l = few u x came in omega (arith, l, more)) ]

        value : (u : ℕ) → map.contains_key g.units u ≡ true → (x : List ℕ) × (map.get g.units u ≡ Some x)
        value u h = it (map.get g.units u) refl h
          where
            it : (a : Option (List ℕ)) → map.get g.units u ≡ a → is_some a ≡ true → (x : List ℕ) × (map.get g.units u ≡ Some x)
            it None is e = absurd (true≢false (sym e))
            it (Some x) is e = (x, is)

        by : (a : Option StorageGroupRows) → map.get w.groups n ≡ a → map.len g.units ≤ MOST_UNITS
        by None is = absurd (let m = some_key nat_cmp_total g.units (omega (arith, more)) in let x = value m.0 m.1 in nothing_at (map.get w.groups) (HasPart (part.Unit m.0 x.0)) n is (had m.0 x.0 x.1))
        by (Some t) is =
            let fewer = part_of_map nat_cmp_total g.units t.units (λ u h. let x = value u h in ap is_some (here_at (map.get w.groups) (HasPart (part.Unit u x.0)) n t is (had u x.0 x.1))) in
            let l = (was.groups n t is).parts.few_units in
            omega (arith, fewer, l)

  -- a host group
  module _ (there : IsSoundThere d go come) (n : List ℕ) (g : HostGroupRows) (at : map.get v.host_groups n ≡ Some g) where
    has_host : 0 < set.len g.hosts
    has_host = elim (led.kept (host_head n g.tenant) (g, at, record { tenant = refl })) [
      | inl h ↦ let m = some_member name_total name_exact h.0.hosts (was.host_groups n h.0 h.1).some_host in elim (led.left (host_row n m.0) (h.0, h.1, m.1)) [
        | inl s ↦ some m.0 (here_at (map.get v.host_groups) (λ (x : HostGroupRows). set.contains x.hosts m.0 ≡ true) n g at s)
        | inr gone ↦ at_some (map.get v.host_groups n) HasSomeHost g at (there.gone (host_row n m.0) gone)
      ]
      | inr came ↦ at_some (map.get v.host_groups n) HasSomeHost g at (there.came (host_head n g.tenant) came)
    ]
      where
        some : (h : List ℕ) → set.contains g.hosts h ≡ true → 0 < set.len g.hosts
        some h e = elim (le_or (set.len g.hosts) 0) [ inl z ↦ absurd (true≢false (sym e ∙ ap (λ s. set.contains s h) (set.empty_of_len g.hosts (omega (arith, z))) ∙ set.contains-empty name_cmp h)) | inr l ↦ l ]

    few_hosts : set.len g.hosts ≤ MOST_HOSTS ⊎ MOST_HOSTS < set.len g.hosts → set.len g.hosts ≤ MOST_HOSTS
    few_hosts (inl h) = h
    few_hosts (inr more) = by (map.get w.host_groups n) refl
      where
        had : (h : List ℕ) → set.contains g.hosts h ≡ true → Stands c (host_row n h)
        had h e = elim (led.kept (host_row n h) (g, at, e)) [ inl s ↦ s | inr came ↦ absurd (let l = at_some (map.get v.host_groups n) HasFewHosts g at (there.came (host_row n h) came) in omega (arith, l, more)) ]

        by : (a : Option HostGroupRows) → map.get w.host_groups n ≡ a → set.len g.hosts ≤ MOST_HOSTS
        by None is = absurd (let m = some_member name_total name_exact g.hosts (omega (arith, more)) in nothing_at (map.get w.host_groups) (λ (x : HostGroupRows). set.contains x.hosts m.0 ≡ true) n is (had m.0 m.1))
        by (Some t) is =
            let fewer = part_of_set name_total name_exact g.hosts t.hosts (λ h e. here_at (map.get w.host_groups) (λ (x : HostGroupRows). set.contains x.hosts h ≡ true) n t is (had h e)) in
            let l = (was.host_groups n t is).few_hosts in
            omega (arith, fewer, l)

  -- a host group that is named is there
  known_hosts : IsSoundThere d go come → (n k : List ℕ) (g : StorageGroupRows) → map.get v.groups n ≡ Some g → set.contains g.host_groups k ≡ true → IsSome (map.get v.host_groups k)
  known_hosts there n k g at h = elim (led.kept (part_row n (part.HostGroup k)) (g, at, h)) [
    | inl s ↦ by (map.get w.host_groups k) refl ((was.groups n s.0 s.1).known k s.2)
    | inr came ↦ (there.came (part_row n (part.HostGroup k)) came).0
  ]
    where
      by : (a : Option HostGroupRows) → map.get w.host_groups k ≡ a → IsSome a → IsSome (map.get v.host_groups k)
      by None is some = absurd (true≢false (sym some))
      by (Some t) is some = elim (led.left (host_head k t.tenant) (t, is, record { tenant = refl })) [
        | inl s ↦ subst IsSome (sym s.1) refl
        | inr gone ↦ elim (there.gone (host_head k t.tenant) gone) [ inl e ↦ e | inr none ↦ absurd (none n (g, at, h)) ]
      ]

  pub sound_mapping : IsSoundThere d go come → IsSound v
  sound_mapping there = record {
    host_groups = λ n g at. record { some_host = has_host there n g at; few_hosts = few_hosts there n g at (le_or (set.len g.hosts) MOST_HOSTS) };
    groups = λ n g at. record {
      parts = record {
        few_host_groups = few_names n g at (le_or (set.len g.host_groups) MOST_GROUPS_SERVED) (λ k came. at_some (map.get v.groups n) (HasFewLike (part.HostGroup k)) g at (there.came (part_row n (part.HostGroup k)) came).1);
        few_targets = few_ports n g at (le_or (set.len g.targets) MOST_TARGETS) (λ q came. at_some (map.get v.groups n) (HasFewLike (part.Target q)) g at (there.came (part_row n (part.Target q)) came).1);
        few_units = few_maps n g at (le_or (map.len g.units) MOST_UNITS) (λ u x came. at_some (map.get v.groups n) (HasFewLike (part.Unit u x)) g at (there.came (part_row n (part.Unit u x)) came).1);
      };
      numbers = λ u x h. elim (led.kept (part_row n (part.Unit u x)) (g, at, h)) [ inl s ↦ (was.groups n s.0 s.1).numbers u x s.2 | inr came ↦ (there.came (part_row n (part.Unit u x)) came).0 ];
      known = λ k h. known_hosts there n k g at h;
    };
    few_host_groups = there.few_groups.few_host_groups;
    few_groups = there.few_groups.few_groups;
  }

-- ---- and nothing was looked at in vain

module _ (v : MappingRows) (s : IsSound v) where
  pub group_comes : (r : GroupRow) → GroupMayCome v r
  group_comes (group.Host r) = some_at (map.get v.host_groups r.name) HasSomeHost (λ g at. (s.host_groups r.name g at).some_host)
  group_comes (group.Storage r) = tt

  nameable : (n : List ℕ) (p : StoragePart) → HasAt (map.get v.groups) (HasPart p) n → IsNameable v p
  nameable n (part.HostGroup k) h = (s.groups n h.0 h.1).known k h.2
  nameable n (part.Target q) h = tt
  nameable n (part.Unit u x) h = (s.groups n h.0 h.1).numbers u x h.2

  few_like : (n : List ℕ) (p : StoragePart) (g : StorageGroupRows) → map.get v.groups n ≡ Some g → HasFewLike p g
  few_like n (part.HostGroup k) g at = (s.groups n g at).parts.few_host_groups
  few_like n (part.Target q) g at = (s.groups n g at).parts.few_targets
  few_like n (part.Unit u x) g at = (s.groups n g at).parts.few_units

  pub part_comes : (r : PartRow) → IsPart v r → PartMayCome v r
  part_comes (parts.Host n h) k = some_at (map.get v.host_groups n) HasFewHosts (λ g at. (s.host_groups n g at).few_hosts)
  part_comes (parts.Storage n p) k = (nameable n p k, some_at (map.get v.groups n) (HasFewLike p) (few_like n p))

  pub group_goes : (r : GroupRow) → GroupMayGo v r
  group_goes (group.Host r) = by (map.get v.host_groups r.name) refl
    where
      by : (a : Option HostGroupRows) → map.get v.host_groups r.name ≡ a → IsSome (map.get v.host_groups r.name) ⊎ IsUnservedIn (map.get v.groups) r.name
      by None is = inr (λ n h. true≢false (sym (ap is_some (sym is) ∙ (s.groups n h.0 h.1).known r.name h.2)))
      by (Some t) is = inl (subst IsSome (sym is) refl)
  group_goes (group.Storage r) = tt

  pub part_goes : (r : PartRow) → PartMayGo v r
  part_goes (parts.Host n h) = some_at (map.get v.host_groups n) HasSomeHost (λ g at. (s.host_groups n g at).some_host)
  part_goes (parts.Storage n p) = tt
