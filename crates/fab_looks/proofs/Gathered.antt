-- Reads that are gathered.
use Rattle.std.proofs.Common.{◌≡◌, ◌<◌, ◌+◌, ◌⊎◌, inl, inr, ℕ, length, take, get_or, List, [], ◌∷◌, ◌++◌, map, Contains, Option, None, Some, IsSome, refl, sym, ap, ◌∙◌, subst}
use Rattle.std.specs.Ordering.{nat_cmp}
use Rattle.std.specs.Option.{option_and_then}
use Rattle.std.specs.FinMap as fin
use Rattle.std.specs.List.Sorted.{IsStrictlySortedBy}
use Rattle.std.specs.Map.{keys_of}
use Rattle.std.proofs.lemmas.List.{append_assoc, map-append, take_more}
use Rattle.std.proofs.lemmas.List.Elements.{Contains-append_cases, Contains-append_left, Contains-append_right}
use Rattle.fab_reach_base.specs.fab_lemmas.Lists.{IsListOf}
use Rattle.fab_reach_base.proofs.fab_lemmas.Filters.{list_as}
use Rattle.fab_reach_base.proofs.fab_lemmas.SeenEntries.{entry_decides, sorted}
use Rattle.fab_reach_base.specs.fab_names.Orders.{name_cmp}
use Rattle.fab_reach_base.proofs.fab_names.OrderLaws.{name_total, name_exact}
use Rattle.fab_reach_base.specs.fab_inventory.Holders.{Holds}
use Rattle.fab_reach_base.specs.fab_inventory.declared.holder.HolderKind.TheVariants as kind
use Rattle.fab_reach_base.specs.fab_inventory.declared.port.Known.{Known}
use Rattle.fab_reach_base.specs.fab_mapping_base.Groups.{StorageGroupRows}
use Rattle.fab_policy.specs.fab_policy_base.Policies.{PolicyRows}
use Rattle.fab_world.specs.Worlds.{WorldRows}
use Rattle.fab_desk_base.specs.Showing.{IsOpenTo}
use Rattle.fab_desk_base.specs.declared.command.Query.{Query}
use Rattle.fab_desk_base.specs.declared.command.Query.TheVariants as query
use Rattle.fab_desk_base.specs.Recorded.{IsRecorded}
use Rattle.fab_desk_base.proofs.Lists.{from_mapped, here, mapped}
use Rattle.fab_looks.specs.Inner.Gathered.{Appends, AreOfHost}
use Rattle.fab_looks.specs.Told.{SeesHost}
use Rattle.fab_looks.specs.Ways.{AreGroupReads, AreOfWay, ArePortReads, IsOfWay, IsOneAtMost, IsOpenQuery, IsOwnMapping, IsOwnPort}
use Rattle.fab_looks.proofs.Keys.{key_of}
use Rattle.fab_looks.proofs.Picks.{ArePicked, appends_as, appends_none, listed_none, one_none, one_only, picked_more, picks_all}

-- ---- what is among appended lists

module _ {X : Type 0} (ps qs rs ss : List X) (x : X) where
  pub from_four : Contains (ps ++ qs ++ rs ++ ss) x → Contains ps x ⊎ (Contains qs x ⊎ (Contains rs x ⊎ Contains ss x))
  from_four c = elim (Contains-append_cases (ps ++ qs ++ rs) ss x c) [
    | inr d ↦ inr (inr (inr d))
    | inl three ↦ elim (Contains-append_cases (ps ++ qs) rs x three) [
      | inr t ↦ inr (inr (inl t))
      | inl two ↦ elim (Contains-append_cases ps qs x two) [ inl a ↦ inl a | inr b ↦ inr (inl b) ]
    ]
  ]

  pub into_four : Contains ps x ⊎ (Contains qs x ⊎ (Contains rs x ⊎ Contains ss x)) → Contains (ps ++ qs ++ rs ++ ss) x
  into_four h = elim h [
    | inl a ↦ Contains-append_left (ps ++ qs ++ rs) ss x (Contains-append_left (ps ++ qs) rs x (Contains-append_left ps qs x a))
    | inr (inl b) ↦ Contains-append_left (ps ++ qs ++ rs) ss x (Contains-append_left (ps ++ qs) rs x (Contains-append_right ps qs x b))
    | inr (inr (inl c)) ↦ Contains-append_left (ps ++ qs ++ rs) ss x (Contains-append_right (ps ++ qs) rs x c)
    | inr (inr (inr d)) ↦ Contains-append_right (ps ++ qs ++ rs) ss x d
  ]

-- what is among the reads of listed keys
module _ {K : Type 0} (read : K → Query) (P : K → Type 0) (keys : List K) (qs : List Query) (q : Query) where
  pub from_read : ((k : K) → Contains keys k → P k) → qs ≡ map read keys → Contains qs q → (k : K) × P k × (q ≡ read k)
  from_read sound is c = let m = from_mapped read keys q (subst (λ (rs : List Query). Contains rs q) is c) in (m.0, sound m.0 m.1, sym m.2)

  pub into_read : ((k : K) → P k → Contains keys k) → qs ≡ map read keys → (k : K) → P k → q ≡ read k → Contains qs q
  into_read complete is k h e = subst (λ (rs : List Query). Contains rs q) (sym is) (subst (Contains (map read keys)) (sym e) (mapped read keys k (complete k h)))

pub from_port : (P : ℕ → Type 0) (qs : List Query) (q : Query) → ArePortReads P qs → Contains qs q → (a : ℕ) × P a × (q ≡ query.Port a)
from_port P qs q r = from_read (λ (a : ℕ). query.Port a) P r.0 qs q r.1.sound r.2

pub into_port : (P : ℕ → Type 0) (qs : List Query) (q : Query) → ArePortReads P qs → (a : ℕ) → P a → q ≡ query.Port a → Contains qs q
into_port P qs q r = into_read (λ (a : ℕ). query.Port a) P r.0 qs q r.1.complete r.2

pub from_group : (P : List ℕ → Type 0) (qs : List Query) (q : Query) → AreGroupReads P qs → Contains qs q → (n : List ℕ) × P n × (q ≡ query.Group n)
from_group P qs q r = from_read (λ (n : List ℕ). query.Group n) P r.0 qs q r.1.sound r.2

pub into_group : (P : List ℕ → Type 0) (qs : List Query) (q : Query) → AreGroupReads P qs → (n : List ℕ) → P n → q ≡ query.Group n → Contains qs q
into_group P qs q r = into_read (λ (n : List ℕ). query.Group n) P r.0 qs q r.1.complete r.2

-- ---- ports

-- the read of one port more
pub ports_next : (ports : List ℕ) (i a : ℕ) (old mid new : List Query) → i < length ports → a ≡ get_or ports i a
    → mid ≡ old ++ map (λ (b : ℕ). query.Port b) (take i ports) → new ≡ mid ++ query.Port a ∷ [] → new ≡ old ++ map (λ (b : ℕ). query.Port b) (take (i + 1) ports)
ports_next ports i a old mid new less is so_far made =
    let read = λ (b : ℕ). query.Port b in
    let more : take i ports ++ a ∷ [] ≡ take (i + 1) ports = ap (λ (b : ℕ). take i ports ++ b ∷ []) is ∙ sym (take_more ports i a less) in
    made
    ∙ ap (λ (qs : List Query). qs ++ query.Port a ∷ []) so_far
    ∙ append_assoc old (map read (take i ports)) (query.Port a ∷ [])
    ∙ ap (λ (qs : List Query). old ++ qs) (sym (map-append read (take i ports) (a ∷ [])))
    ∙ ap (λ (ps : List ℕ). old ++ map read ps) more

module _ (p : PolicyRows) (w : WorldRows) (id : ℕ) where
  -- ---- one read

  pub open_appended : (asked : Query) (xs ys : List Query) → ys ≡ xs ++ asked ∷ [] → IsOpenTo p w id asked → Appends (IsOneAtMost (IsOpenQuery p w id asked)) xs ys
  open_appended asked xs ys made own = (asked ∷ [], one_only (IsOpenQuery p w id asked) (asked ∷ []) asked refl (refl, own) (λ q h. h.0), made)

  pub shut_appended : (asked : Query) (xs : List Query) → ¬ IsOpenTo p w id asked → Appends (IsOneAtMost (IsOpenQuery p w id asked)) xs xs
  shut_appended asked xs shut = appends_none (IsOneAtMost (IsOpenQuery p w id asked)) xs (one_none (IsOpenQuery p w id asked) [] refl (λ q h. shut h.1))

  -- ---- a host

  pub host_appended : (host : List ℕ) (ports : List ℕ) (xs ys zs : List Query) → SeesHost p w id host → IsListOf nat_cmp (Holds (fin.get w.inventory.ports) host) ports
      → ys ≡ xs ++ query.Holder kind.Host host ∷ [] → zs ≡ ys ++ map (λ (a : ℕ). query.Port a) ports → Appends (AreOfHost p w id host) xs zs
  host_appended host ports xs ys zs sees listed made more =
      let asked = query.Holder kind.Host host in
      let reads = map (λ (a : ℕ). query.Port a) ports in (
        asked ∷ [] ++ reads,
        (
          asked ∷ [],
          reads,
          one_only (IsOpenQuery p w id asked) (asked ∷ []) asked refl (refl, sees) (λ q h. h.0),
          (ports, list_as (Holds (fin.get w.inventory.ports) host) (IsOwnPort p w id host) ports (λ a h. (sees, h)) (λ a h. h.1) listed, refl),
          refl,
        ),
        more ∙ ap (λ (qs : List Query). qs ++ reads) made ∙ append_assoc xs (asked ∷ []) reads,
      )

  pub host_unseen : (host : List ℕ) (xs : List Query) → ¬ SeesHost p w id host → Appends (AreOfHost p w id host) xs xs
  host_unseen host xs unseen = appends_none (AreOfHost p w id host) xs (
    [],
    [],
    one_none (IsOpenQuery p w id (query.Holder kind.Host host)) [] refl (λ q h. unseen h.1),
    ([], listed_none nat_cmp (IsOwnPort p w id host) [] refl (λ a h. unseen h.0), refl),
    refl,
  )

  -- ---- storage groups

  module _ (G : StorageGroupRows → Type 0) where
    -- a storage group of this name has G, and its read is open to the caller
    abbrev pub IsOwnGroup : List ℕ → Type 0
    IsOwnGroup n = (g : StorageGroupRows) × (fin.get w.config.mapping.groups n ≡ Some g) × G g × IsOpenTo p w id (query.Group n)

    -- that of the entry has G, and it is its read, which is open to the caller
    abbrev pub IsOfEntry : List ℕ × StorageGroupRows → Query → Type 0
    IsOfEntry e q = G e.1 × IsOpenQuery p w id (query.Group e.0) q

    entry_from : (e : List ℕ × StorageGroupRows) → fin.get w.config.mapping.groups e.0 ≡ Some e.1 → IsOwnGroup e.0 → IsOfEntry e (query.Group e.0)
    entry_from e at own =
        let is : ◌≡◌ {A = Option StorageGroupRows} (Some own.0) (Some e.1) = sym own.1 ∙ at in
        let same : own.0 ≡ e.1 = cc is in (subst G same own.2, (refl, own.3))

    pub group_read : (e : List ℕ × StorageGroupRows) (xs ys : List Query) → G e.1 → Appends (IsOneAtMost (IsOpenQuery p w id (query.Group e.0))) xs ys → Appends (IsOneAtMost (IsOfEntry e)) xs ys
    group_read e xs ys has a = appends_as (IsOneAtMost (IsOpenQuery p w id (query.Group e.0))) (IsOneAtMost (IsOfEntry e)) xs ys
        (λ qs one. ((λ q. ((λ c. (has, (one.0 q).0 c)), λ h. (one.0 q).1 h.1)), one.1)) a

    pub group_passed : (e : List ℕ × StorageGroupRows) (xs : List Query) → ¬ G e.1 → Appends (IsOneAtMost (IsOfEntry e)) xs xs
    group_passed e xs has_not = appends_none (IsOneAtMost (IsOfEntry e)) xs (one_none (IsOfEntry e) [] refl (λ q h. has_not h.0))

    pub groups_more : (listed before it more : List (List ℕ × StorageGroupRows)) (e : List ℕ × StorageGroupRows) (old mid new : List Query) → listed ≡ fin.entries w.config.mapping.groups → listed ≡ before ++ it → it ≡ e ∷ more
        → Appends (ArePicked IsOwnGroup (keys_of before)) old mid → Appends (IsOneAtMost (IsOfEntry e)) mid new → Appends (ArePicked IsOwnGroup (keys_of (before ++ e ∷ []))) old new
    groups_more listed before it more e old mid new is so_far next a b =
        let groups = w.config.mapping.groups in
        let key = λ (x : List ℕ × StorageGroupRows). x.0 in
        let whole : fin.entries groups ≡ before ++ e ∷ more = sym is ∙ so_far ∙ ap (λ (es : List (List ℕ × StorageGroupRows)). before ++ es) next in
        let inside : Contains (fin.entries groups) e = subst (λ (es : List (List ℕ × StorageGroupRows)). Contains es e) (sym whole) (Contains-append_right before (e ∷ more) e (here e more)) in
        let at : fin.get groups e.0 ≡ Some e.1 = (entry_decides name_cmp name_total name_exact groups e.0 e.1).1 inside in
        let rising : IsStrictlySortedBy name_cmp (keys_of before ++ e.0 ∷ keys_of more) =
        subst (IsStrictlySortedBy name_cmp) (map-append key before (e ∷ more)) (subst (λ (es : List (List ℕ × StorageGroupRows)). IsStrictlySortedBy name_cmp (keys_of es)) whole (sorted name_cmp (fin.entries groups) (fin.entries_sorted groups))) in
        subst (λ (ks : List (List ℕ)). Appends (ArePicked IsOwnGroup ks) old new) (sym (map-append key before (e ∷ [])))
        (picked_more IsOwnGroup (IsOfEntry e) (keys_of before) (keys_of more) e.0 old mid new rising (λ q h. ((e.1, at, h.0, h.1.1), h.1.0)) (entry_from e at) a b)

    pub groups_all : (listed before : List (List ℕ × StorageGroupRows)) (old new : List Query) → before ≡ listed → listed ≡ fin.entries w.config.mapping.groups → Appends (ArePicked IsOwnGroup (keys_of before)) old new → Appends (AreGroupReads IsOwnGroup) old new
    groups_all listed before old new ended is =
        let groups = w.config.mapping.groups in
        appends_as (ArePicked IsOwnGroup (keys_of before)) (AreGroupReads IsOwnGroup) old new (λ qs k. (
          k.0,
          picks_all name_cmp IsOwnGroup (keys_of before) (keys_of (fin.entries groups)) k.0 (ap (λ (es : List (List ℕ × StorageGroupRows)). keys_of es) (ended ∙ is))
              (λ n own. key_of (fin.entries groups) (n, own.0) ((entry_decides name_cmp name_total name_exact groups n own.0).0 own.1)) k.1,
          k.2,
        ))

  -- ---- a way

  module _ (host volume : List ℕ) where
    pub of_way : (none xs ys zs : List Query) → none ≡ [] → Appends (AreOfHost p w id host) none xs → Appends (IsOneAtMost (IsOpenQuery p w id (query.Volume volume))) xs ys → Appends (AreGroupReads (IsOwnMapping p w id volume)) ys zs → AreOfWay p w id host volume zs
    of_way none xs ys zs is a b c = record {
      hosts = a.1.0;
      ports = a.1.1;
      volumes = b.0;
      groups = c.0;
      host_is = a.1.2;
      ports_are = a.1.3;
      volume_is = b.1;
      groups_are = c.1;
      in_order = c.2 ∙ ap (λ (qs : List Query). qs ++ c.0) (b.2 ∙ ap (λ (qs : List Query). qs ++ b.0) (a.2 ∙ ap (λ (qs : List Query). qs ++ a.0) is ∙ a.1.4));
    }

    -- which reads there are
    pub way_is : (qs : List Query) → AreOfWay p w id host volume qs → (q : Query) → (Contains qs q → IsOfWay p w id host volume q) × (IsOfWay p w id host volume q → Contains qs q)
    way_is qs way q = (
      (λ c. elim (from_four way.hosts way.ports way.volumes way.groups q (subst (λ (rs : List Query). Contains rs q) way.in_order c)) [
        | inl h ↦ let o = (way.host_is.0 q).0 h in inl (o.1, inl o.0)
        | inr (inl h) ↦ let r = from_port (IsOwnPort p w id host) way.ports q way.ports_are h in inl (r.1.0, inr (r.0, r.1.1, r.2))
        | inr (inr (inl h)) ↦ inr (inl ((way.volume_is.0 q).0 h))
        | inr (inr (inr h)) ↦ let r = from_group (IsOwnMapping p w id volume) way.groups q way.groups_are h in inr (inr (r.0, r.1.0, r.1.1, r.1.2, (r.2, r.1.3)))
      ]),
      λ o. subst (λ (rs : List Query). Contains rs q) (sym way.in_order) (into_four way.hosts way.ports way.volumes way.groups q (elim o [
        | inl h ↦ elim h.1 [
          | inl e ↦ inl ((way.host_is.0 q).1 (e, h.0))
          | inr k ↦ inr (inl (into_port (IsOwnPort p w id host) way.ports q way.ports_are k.0 (h.0, k.1) k.2))
        ]
        | inr (inl h) ↦ inr (inr (inl ((way.volume_is.0 q).1 h)))
        | inr (inr h) ↦ inr (inr (inr (into_group (IsOwnMapping p w id volume) way.groups q way.groups_are h.0 (h.1, h.2, h.3, h.4.1) h.4.0)))
      ])),
    )

    -- a port that is held is known
    held_known : (a : ℕ) → Holds (fin.get w.inventory.ports) host a → IsSome (fin.get w.inventory.ports a)
    held_known a = by (fin.get w.inventory.ports a)
      where
        by : (o : Option Known) → option_and_then (λ (k : Known). k.holder) o ≡ Some host → IsSome o
        by None e = let f : ◌≡◌ {A = Option (List ℕ)} None (Some host) = e in absurd cc
        by (Some k) e = refl

    pub way_recorded : (qs : List Query) → AreOfWay p w id host volume qs → (q : Query) → Contains qs q → IsRecorded w q
    way_recorded qs way q c = elim ((way_is qs way q).0 c) [
      | inl h ↦ elim h.1 [ inl e ↦ subst (IsRecorded w) (sym e) (h.0.0, h.0.1) | inr k ↦ subst (IsRecorded w) (sym k.2) (held_known k.0 k.1) ]
      | inr (inl v) ↦ subst (IsRecorded w) (sym v.0) (v.1.0, v.1.1)
      | inr (inr m) ↦ subst (IsRecorded w) (sym m.4.0) (m.4.1.0, m.4.1.1)
    ]
