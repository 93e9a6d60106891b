-- For the test of soundness: its parts as tests of what the code holds. No public contract names what
-- stands here.
use Rattle.std.specs.Prelude.{ℕ, List, Bool, true, false, length, nat_lt, nat_le, is_some, ◌&&◌}
use Rattle.std.specs.declared.cmp.Ordering.{Ordering}
use Rattle.std.specs.List.{list_all}
use Rattle.std.specs.BTreeSet.{BTreeSet}
use Rattle.std.specs.BTreeMap.{BTreeMap, get, values}
use Rattle.std.specs.FinSet as set
use Rattle.fab_names.specs.declared.member.Member.{Member}
use Rattle.fab_names.specs.declared.member.Member.TheVariants as member
use Rattle.fab_names.specs.Orders.{name_cmp, member_cmp}
use Rattle.fab_zoning_rows.specs.fab_lemmas.MapsOfSets.{seen_set}
use Rattle.fab_zoning.specs.Limits.{most_aliases, most_zones, most_sets, most_members}

-- whether a set is not empty, and not too large
abbrev pub is_listing : {K : Type 0} → (K → K → Ordering) → BTreeSet K → Bool
is_listing R s = nat_lt 0 (set.len (seen_set R s)) && nat_le (set.len (seen_set R s)) most_members

-- whether the member is no alias
abbrev pub is_plain : Member → Bool
is_plain (member.Port n) = true
is_plain (member.Node n) = true
is_plain (member.Place p) = true
is_plain (member.Address n) = true
is_plain (member.Alias a) = false

-- whether the alias that it names, if it names one, passes
abbrev pub names_alias : (List ℕ → Bool) → Member → Bool
names_alias test (member.Port n) = true
names_alias test (member.Node n) = true
names_alias test (member.Place p) = true
names_alias test (member.Address n) = true
names_alias test (member.Alias a) = test a

-- whether the name is there
abbrev pub knows : {K : Type 0} → BTreeMap (List ℕ) (BTreeSet K) → List ℕ → Bool
knows t n = is_some (get name_cmp t n)

-- whether there are few enough aliases, zones and zone sets, none of them empty or too large
abbrev pub are_listed : BTreeMap (List ℕ) (BTreeSet Member) → BTreeMap (List ℕ) (BTreeSet Member) → BTreeMap (List ℕ) (BTreeSet (List ℕ)) → Bool
are_listed a z s =
    (nat_le (length a.entries) most_aliases && list_all (is_listing member_cmp) (values a))
    && ((nat_le (length z.entries) most_zones && list_all (is_listing member_cmp) (values z)) && (nat_le (length s.entries) most_sets && list_all (is_listing name_cmp) (values s)))

-- whether no alias holds an alias, and what zones and sets name is there
abbrev pub are_closed : BTreeMap (List ℕ) (BTreeSet Member) → BTreeMap (List ℕ) (BTreeSet Member) → BTreeMap (List ℕ) (BTreeSet (List ℕ)) → Bool
are_closed a z s =
    list_all (λ t. list_all is_plain t.keys) (values a)
    && (list_all (λ t. list_all (names_alias (knows a)) t.keys) (values z) && list_all (λ t. list_all (knows z) t.keys) (values s))
