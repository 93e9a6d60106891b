-- Each step keeps a zoning sound.
use Rattle.std.proofs.Common.{ℕ, zero, suc, ◌≡◌, ◌<◌, ◌≤◌, ◌+◌, List, [], length, Option, None, Some, is_some, true, false, min, nat_eq, inl, inr, All, refl, sym, ap, ◌∙◌, subst, arith}
use mathlib.Core.Bool.{true≢false}
use Rattle.std.specs.declared.cmp.Ordering.{Ordering}
use Rattle.std.specs.Cmp.{IsTotalOrder}
use Rattle.std.specs.FinMap as map
use Rattle.std.specs.FinSet as set
use Rattle.std.proofs.lemmas.Bool.Decides.{nat_tests}
use Rattle.std.proofs.lemmas.List.Elements.{All-contains}
use Rattle.fab_names.specs.declared.fabric.Fabric.{Fabric}
use Rattle.fab_names.specs.declared.member.Member.{Member}
use Rattle.fab_names.specs.declared.member.Member.TheVariants as member
use Rattle.fab_names.specs.Orders.{name_cmp, member_cmp}
use Rattle.fab_names.proofs.OrderLaws.{name_total, name_exact, member_total, member_exact}
use Rattle.std.specs.BTreeSet.{BTreeSet}
use Rattle.fab_zoning_rows.specs.fab_lemmas.MapsOfSets.{has, in_set, seen_sets}
use Rattle.fab_zoning_rows.proofs.fab_lemmas.SeenSets.{listed_decides}
use Rattle.fab_zoning_rows.proofs.fab_lemmas.Sizes.{map_put, map_gone, holds_some, some_listed, at_most_listed, some_member}
use Rattle.fab_zoning_rows.proofs.fab_lemmas.Changed.{entry_put, entry_gone, still_there, there_without, has_put, has_gone}
use Rattle.fab_zoning_rows.specs.Limits.{most_rows}
use Rattle.fab_zoning.specs.Limits.{most_members}
use Rattle.fab_zoning_rows.specs.Rows.{Row, Rows, row_cmp, IsPlain}
use Rattle.fab_zoning.specs.declared.flag.DefaultFlag.TheVariants.{Deny}
use Rattle.fab_zoning.specs.Zonings.{FabricZoning, NamedSets, new_zoning}
use Rattle.fab_zoning.specs.Steps.{IsListing, HasAlias, HasZone, CanPutAlias, CanPutZone, CanPutSet, CanDropAlias, CanDropZone}
use Rattle.fab_zoning.specs.Resolved.{IsResolved, AreResolved}
use Rattle.fab_zoning.specs.Soundness.{AreListings, AreSoundDefinitions, IsSoundActive, IsSound}
use Rattle.fab_zoning_rows.proofs.RowSets.{row_total, row_exact}

-- a set that may be listed: it has something, and is not too large
abbrev IsListed : {K : Type 0} {R : K → K → Ordering} → List ℕ → set.FinSet R → Type 0
IsListed n s = (0 < set.len s) × (set.len s ≤ most_members)

-- ---- one set more under a name, or one less
module _ {K : Type 0} {R : K → K → Ordering} (o : IsTotalOrder R) where
  listed_put : (m : NamedSets R) (k : List ℕ) (xs : List K) → IsListing (length xs) → AreListings m → AreListings (map.insert m k (set.from_list xs))
  listed_put m k xs l = entry_put name_total m k name_exact IsListed (set.from_list xs) (some_listed o xs l.0, let few = at_most_listed o xs in let most = l.1 in omega arith)

  listed_dropped : (m : NamedSets R) (k : List ℕ) → AreListings m → AreListings (map.remove m k)
  listed_dropped m k = entry_gone name_total m k IsListed

  module _ (exact : set.IsAntisymmetric R) where
    -- the set of a name that is there has a member
    pub set_at : (m : NamedSets R) (n : List ℕ) → map.contains_key m n ≡ true → AreListings m → (x : K) × (has m n x ≡ true)
    set_at m n there h = by (map.get m n) refl there
      where
        by : (a : Option (set.FinSet R)) → map.get m n ≡ a → is_some a ≡ true → (x : K) × (has m n x ≡ true)
        by None is e = absurd (true≢false (sym e))
        by (Some s) is e = let w = some_member o exact s (h n s is).0 in (w.0, ap (λ (a : Option (set.FinSet R)). in_set a w.0) is ∙ w.1)

    -- what each listed item has, each member of their set has
    each_listed : (P : K → Type 0) (xs : List K) → All P xs → (x : K) → set.contains (set.from_list {R = R} xs) x ≡ true → P x
    each_listed P xs all x h = All-contains P xs x all ((listed_decides o exact xs x).0 h)

    -- and with what each former member has, each member
    each_put : (P : K → Type 0) (m : NamedSets R) (k : List ℕ) (xs : List K) → All P xs → (n : List ℕ) (x : K) → has (map.insert m k (set.from_list xs)) n x ≡ true → (has m n x ≡ true → P x) → P x
    each_put P m k xs all n x h before = elim (has_put name_total m k (set.from_list xs) n x h) [ inl e ↦ each_listed P xs all x e | inr e ↦ before e ]

-- ---- the steps
-- nothing is active
pub none_active : IsSoundActive None set.empty
none_active = record {
  has_rows = λ e. absurd (true≢false (sym e));
  has_name = λ few. absurd (let e = set.len-empty row_cmp in omega arith);
  plain_rows = λ r h. absurd (true≢false (sym h ∙ set.contains-empty row_cmp r));
  few_rows = let e = set.len-empty row_cmp in omega arith;
}

pub new_is_sound : (fabric : Fabric) → IsSound (new_zoning fabric)
new_is_sound fabric = record {
  definitions = record {
    plain_aliases = λ n m is. absurd (true≢false (sym is ∙ nothing member_cmp n m));
    listed_aliases = λ n s is. absurd (no_set member_cmp n s is);
    listed_zones = λ n s is. absurd (no_set member_cmp n s is);
    listed_sets = λ n s is. absurd (no_set name_cmp n s is);
    known_aliases = λ z a is. absurd (true≢false (sym is ∙ nothing member_cmp z (member.Alias a)));
    known_zones = λ n z is. absurd (true≢false (sym is ∙ nothing name_cmp n z));
    few_aliases = let e = map.len-empty name_cmp (set.FinSet member_cmp) in omega arith;
    few_zones = let e = map.len-empty name_cmp (set.FinSet member_cmp) in omega arith;
    few_sets = let e = map.len-empty name_cmp (set.FinSet name_cmp) in omega arith;
  };
  active = none_active;
}
  where
    nothing : {K : Type 0} (R : K → K → Ordering) (n : List ℕ) (x : K) → has (map.empty {X = set.FinSet R} {R = name_cmp}) n x ≡ false
    nothing R n x = ap (λ (a : Option (set.FinSet R)). in_set a x) (map.get-empty name_cmp n)

    no_set : {K : Type 0} (R : K → K → Ordering) (n : List ℕ) (s : set.FinSet R) → ¬ (map.get (map.empty {X = set.FinSet R} {R = name_cmp}) n ≡ Some s)
    no_set R n s is = let e : ◌≡◌ {A = Option (set.FinSet R)} None (Some s) = sym (map.get-empty name_cmp n) ∙ is in absurd cc

-- without a name there are no rows, by their count
pub unnamed : (rows : Rows) (n : ℕ) → n ≡ min (set.len rows) (most_rows + 1) → nat_eq n 0 ≡ true → IsSoundActive None rows
unnamed rows n count e = subst (IsSoundActive None) (sym (set.empty_of_len rows (let z : n ≡ 0 = grind (arith, nat_tests) in omega arith))) none_active

pub unnamed_back : (rows : Rows) (n : ℕ) → n ≡ min (set.len rows) (most_rows + 1) → IsSoundActive None rows → nat_eq n 0 ≡ true
unnamed_back rows n count sound = by n refl
  where
    by : (k : ℕ) → n ≡ k → nat_eq n 0 ≡ true
    by zero e = ap (λ m. nat_eq m 0) e
    by (suc k) e = absurd (true≢false (sym (sound.has_name (omega arith))))

-- listed rows are active
pub listed_active : (name : List ℕ) (rows : List Row) → 0 < length rows → length rows ≤ most_rows → All (λ (r : Row). IsPlain r.1) rows → IsSoundActive (Some name) (set.from_list rows)
listed_active name rows some few plain = record {
  has_rows = λ _. some_listed row_total rows some;
  has_name = λ _. refl;
  plain_rows = λ r h. each_listed row_total row_exact (λ (q : Row). IsPlain q.1) rows plain r h;
  few_rows = let e = at_most_listed row_total rows in omega arith;
}

-- the same of what the code holds
pub nothing_is_sound : (fabric : Fabric) (aliases zones : List (List ℕ × BTreeSet Member)) (sets : List (List ℕ × BTreeSet (List ℕ))) (rows : Rows) → aliases ≡ [] → zones ≡ [] → sets ≡ [] → rows ≡ set.empty
    → IsSound (record { fabric = fabric; aliases = seen_sets name_cmp member_cmp aliases; zones = seen_sets name_cmp member_cmp zones; sets = seen_sets name_cmp name_cmp sets; active = None; rows = rows; flag = Deny })
nothing_is_sound fabric aliases zones sets rows a z s r = rw (a, z, s, r) (new_is_sound fabric)

module _ (v : FabricZoning) (sound : IsSound v) where
  abbrev d : AreSoundDefinitions v.aliases v.zones v.sets
  d = sound.definitions

  pub put_alias_keeps : (name : List ℕ) (members : List Member) → All IsPlain members → CanPutAlias v name members → IsSound (record v { aliases = map.insert v.aliases name (set.from_list members) })
  put_alias_keeps name members plain can = record {
    definitions = record {
      plain_aliases = λ n m is. each_put member_total member_exact IsPlain v.aliases name members plain n m is (d.plain_aliases n m);
      listed_aliases = listed_put member_total v.aliases name members can.listing d.listed_aliases;
      listed_zones = d.listed_zones;
      listed_sets = d.listed_sets;
      known_aliases = λ z a is. still_there name_total v.aliases name (set.from_list members) a (d.known_aliases z a is);
      known_zones = d.known_zones;
      few_aliases = map_put name_total v.aliases name (set.from_list members) _ can.room d.few_aliases;
      few_zones = d.few_zones;
      few_sets = d.few_sets;
    };
    active = sound.active;
  }

  pub drop_alias_keeps : (name : List ℕ) → CanDropAlias v name → IsSound (record v { aliases = map.remove v.aliases name })
  drop_alias_keeps name can = record {
    definitions = record {
      plain_aliases = λ n m is. d.plain_aliases n m (has_gone name_total v.aliases name n m is);
      listed_aliases = listed_dropped member_total v.aliases name d.listed_aliases;
      listed_zones = d.listed_zones;
      listed_sets = d.listed_sets;
      known_aliases = λ z a is.
          there_without name_total v.aliases name name_exact a (λ same. true≢false (sym is ∙ ap (λ (b : List ℕ). has v.zones z (member.Alias b)) same ∙ can.unused z)) (d.known_aliases z a is);
      known_zones = d.known_zones;
      few_aliases = map_gone name_total v.aliases name _ d.few_aliases;
      few_zones = d.few_zones;
      few_sets = d.few_sets;
    };
    active = sound.active;
  }

  pub put_zone_keeps : (name : List ℕ) (members : List Member) → CanPutZone v name members → IsSound (record v { zones = map.insert v.zones name (set.from_list members) })
  put_zone_keeps name members can = record {
    definitions = record {
      plain_aliases = d.plain_aliases;
      listed_aliases = d.listed_aliases;
      listed_zones = listed_put member_total v.zones name members can.listing d.listed_zones;
      listed_sets = d.listed_sets;
      known_aliases = λ z a is. each_put member_total member_exact (HasAlias v) v.zones name members can.known z (member.Alias a) is (λ before b same. subst (λ c. map.contains_key v.aliases c ≡ true) (one_alias a b same) (d.known_aliases z a before)) a refl;
      known_zones = λ n z is. still_there name_total v.zones name (set.from_list members) z (d.known_zones n z is);
      few_aliases = d.few_aliases;
      few_zones = map_put name_total v.zones name (set.from_list members) _ can.room d.few_zones;
      few_sets = d.few_sets;
    };
    active = sound.active;
  }
    where
      one_alias : (a b : List ℕ) → member.Alias a ≡ member.Alias b → a ≡ b
      one_alias a b e = cc

  pub drop_zone_keeps : (name : List ℕ) → CanDropZone v name → IsSound (record v { zones = map.remove v.zones name })
  drop_zone_keeps name can = record {
    definitions = record {
      plain_aliases = d.plain_aliases;
      listed_aliases = d.listed_aliases;
      listed_zones = listed_dropped member_total v.zones name d.listed_zones;
      listed_sets = d.listed_sets;
      known_aliases = λ z a is. d.known_aliases z a (has_gone name_total v.zones name z (member.Alias a) is);
      known_zones = λ n z is. there_without name_total v.zones name name_exact z (λ same. true≢false (sym is ∙ ap (λ (b : List ℕ). has v.sets n b) same ∙ can.unused n)) (d.known_zones n z is);
      few_aliases = d.few_aliases;
      few_zones = map_gone name_total v.zones name _ d.few_zones;
      few_sets = d.few_sets;
    };
    active = sound.active;
  }

  pub put_set_keeps : (name : List ℕ) (zones : List (List ℕ)) → CanPutSet v name zones → IsSound (record v { sets = map.insert v.sets name (set.from_list zones) })
  put_set_keeps name zones can = record {
    definitions = record {
      plain_aliases = d.plain_aliases;
      listed_aliases = d.listed_aliases;
      listed_zones = d.listed_zones;
      listed_sets = listed_put name_total v.sets name zones can.listing d.listed_sets;
      known_aliases = d.known_aliases;
      known_zones = λ n z is. each_put name_total name_exact (HasZone v) v.sets name zones can.known n z is (d.known_zones n z);
      few_aliases = d.few_aliases;
      few_zones = d.few_zones;
      few_sets = map_put name_total v.sets name (set.from_list zones) _ can.room d.few_sets;
    };
    active = sound.active;
  }

  pub drop_set_keeps : (name : List ℕ) → IsSound (record v { sets = map.remove v.sets name })
  drop_set_keeps name = record {
    definitions = record {
      plain_aliases = d.plain_aliases;
      listed_aliases = d.listed_aliases;
      listed_zones = d.listed_zones;
      listed_sets = listed_dropped name_total v.sets name d.listed_sets;
      known_aliases = d.known_aliases;
      known_zones = λ n z is. d.known_zones n z (has_gone name_total v.sets name n z is);
      few_aliases = d.few_aliases;
      few_zones = d.few_zones;
      few_sets = map_gone name_total v.sets name _ d.few_sets;
    };
    active = sound.active;
  }

  -- a set that is there has a row
  resolved_row : (name : List ℕ) → map.contains_key v.sets name ≡ true → (r : Row) × IsResolved v name r
  resolved_row name there =
      let z = set_at name_total name_exact v.sets name there d.listed_sets in
      let m = set_at member_total member_exact v.zones z.0 (d.known_zones name z.0 z.1) d.listed_zones in
      by z.0 z.1 m.0 m.1
    where
      by : (z : List ℕ) → has v.sets name z ≡ true → (m : Member) → has v.zones z m ≡ true → (r : Row) × IsResolved v name r
      by z in_set (member.Port p) in_zone = ((z, member.Port p), record { zone = in_set; plain = λ a e. absurd cc; member = inl in_zone })
      by z in_set (member.Node p) in_zone = ((z, member.Node p), record { zone = in_set; plain = λ a e. absurd cc; member = inl in_zone })
      by z in_set (member.Place p) in_zone = ((z, member.Place p), record { zone = in_set; plain = λ a e. absurd cc; member = inl in_zone })
      by z in_set (member.Address n) in_zone = ((z, member.Address n), record { zone = in_set; plain = λ a e. absurd cc; member = inl in_zone })
      by z in_set (member.Alias a) in_zone =
          let n = set_at member_total member_exact v.aliases a (d.known_aliases z a in_zone) d.listed_aliases in
          ((z, n.0), record { zone = in_set; plain = d.plain_aliases a n.0 n.1; member = inr (a, in_zone, n.1) })

  pub activate_keeps : (name : List ℕ) (rows : Rows) → map.contains_key v.sets name ≡ true → AreResolved v name rows → set.len rows ≤ most_rows → IsSound (record v { active = Some name; rows = rows })
  activate_keeps name rows there resolved few = record {
    definitions = d;
    active = record {
      has_rows = λ _. let w = resolved_row name there in holds_some row_total rows w.0 ((resolved w.0).1 w.1);
      has_name = λ _. refl;
      plain_rows = λ r h. ((resolved r).0 h).plain;
      few_rows = few;
    };
  }
