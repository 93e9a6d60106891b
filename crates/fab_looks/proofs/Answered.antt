-- Reads that are answered in turn.
use Rattle.std.proofs.Common.{◌≡◌, ◌<◌, ◌≤◌, ◌+◌, ℕ, length, take, get_or, List, [], ◌∷◌, ◌++◌, map, Contains, sym, ap, ◌∙◌, subst}
use Rattle.std.specs.List.{AllZip}
use Rattle.std.specs.Ordering.{nat_cmp}
use Rattle.std.specs.Cmp.{nat_cmp_total}
use Rattle.std.specs.BTreeSet.{BTreeSet, IsOrdered}
use Rattle.std.specs.FinSet as set
use Rattle.std.proofs.lemmas.List.{take_more, take_all}
use Rattle.std.proofs.lemmas.Map.Views.{btree_set_contains_iff}
use Rattle.fab_reach_base.specs.fab_lemmas.Lists.{IsListOf}
use Rattle.fab_reach_base.specs.fab_names.Orders.{name_cmp}
use Rattle.fab_reach_base.proofs.fab_names.OrderLaws.{name_total, name_exact}
use Rattle.fab_policy.specs.fab_policy_base.Policies.{PolicyRows}
use Rattle.fab_world.specs.Worlds.{WorldRows}
use Rattle.fab_desk_base.specs.Showing.{IsOpenTo}
use Rattle.fab_desk_base.specs.declared.command.Query.{Query}
use Rattle.fab_desk_base.specs.declared.command.Query.TheVariants as query
use Rattle.fab_desk_base.specs.Recorded.{IsRecorded}
use Rattle.fab_looks.specs.declared.listing.Kind.{Kind}
use Rattle.fab_looks.specs.declared.listing.Kind.TheVariants as kinds
use Rattle.fab_looks.specs.Lists.{query_of, IsListing, AreKnownPorts}
use Rattle.fab_looks.proofs.Keys.{mapped}

-- ---- lists, place by place

module _ {X Y : Type 0} (R : X → Y → Type 0) where
  pub zip_more : (xs : List X) (ys : List Y) (x : X) (y : Y) → AllZip R xs ys → R x y → AllZip R (xs ++ x ∷ []) (ys ++ y ∷ [])
  zip_more [] [] x y all r = (r, tt)
  zip_more [] (b ∷ ys) x y all r = absurd all
  zip_more (a ∷ xs) [] x y all r = absurd all
  zip_more (a ∷ xs) (b ∷ ys) x y all r = (all.0, zip_more xs ys x y all.1 r)

  pub zip_next : (xs : List X) (i : ℕ) (x : X) (ys : List Y) (y : Y) → i < length xs → x ≡ get_or xs i x → AllZip R (take i xs) ys → R x y → AllZip R (take (i + 1) xs) (ys ++ y ∷ [])
  zip_next xs i x ys y h is all r = subst (λ (zs : List X). AllZip R zs (ys ++ y ∷ [])) (ap (λ (z : X). take i xs ++ z ∷ []) is ∙ sym (take_more xs i x h)) (zip_more (take i xs) ys x y all r)

  pub zip_last : (xs : List X) (i : ℕ) (ys : List Y) → length xs ≤ i → AllZip R (take i xs) ys → AllZip R xs ys
  zip_last xs i ys h all = subst (λ (zs : List X). AllZip R zs ys) (take_all i xs h) all

-- the item at a place is one of the list
pub at_place : {X : Type 0} (xs : List X) (i : ℕ) (x : X) → i < length xs → x ≡ get_or xs i x → Contains xs x
at_place xs i x h is = (i, h, sym is)

-- ---- names

module _ (p : PolicyRows) (w : WorldRows) (id : ℕ) where
  -- what is open is recorded
  pub open_recorded : (k : Kind) (n : List ℕ) → IsOpenTo p w id (query_of k n) → IsRecorded w (query_of k n)
  open_recorded kinds.Hosts n h = (h.0, h.1)
  open_recorded kinds.Arrays n h = (h.0, h.1)
  open_recorded kinds.Volumes n h = (h.0, h.1)
  open_recorded kinds.HostGroups n h = (h.0, h.1)
  open_recorded kinds.Groups n h = (h.0, h.1)
  open_recorded kinds.Plans n h = h
  open_recorded (kinds.Aliases f) n h = h
  open_recorded (kinds.Zones f) n h = h
  open_recorded (kinds.Sets f) n h = h

  pub names_listed : (k : Kind) (s : BTreeSet (List ℕ)) → IsOrdered name_cmp s → IsListing p w id k s → IsListOf name_cmp (λ n. IsOpenTo p w id (query_of k n)) s.keys
  names_listed k s sorted is = record {
    sorted = sorted;
    sound = λ n c. (is n).0 ((btree_set_contains_iff name_total name_exact s n).1 c);
    complete = λ n o. (btree_set_contains_iff name_total name_exact s n).0 ((is n).1 o);
  }

  pub names_recorded : (k : Kind) (s : BTreeSet (List ℕ)) (qs : List Query) → qs ≡ map (query_of k) s.keys → IsListing p w id k s → (q : Query) → Contains qs q → IsRecorded w q
  names_recorded k s qs made is q c =
      let r = mapped (query_of k) s.keys q (subst (λ (ys : List Query). Contains ys q) made c) in
      subst (IsRecorded w) r.2 (open_recorded k r.0 ((is r.0).0 ((btree_set_contains_iff name_total name_exact s r.0).1 r.1)))

  pub ports_listed : (s : BTreeSet ℕ) → IsOrdered nat_cmp s → AreKnownPorts w s → IsListOf nat_cmp (λ a. IsOpenTo p w id (query.Port a)) s.keys
  ports_listed s sorted is = record {
    sorted = sorted;
    sound = λ a c. (is a).0 ((btree_set_contains_iff nat_cmp_total set.nat_cmp-IsAntisymmetric s a).1 c);
    complete = λ a o. (btree_set_contains_iff nat_cmp_total set.nat_cmp-IsAntisymmetric s a).0 ((is a).1 o);
  }

pub ports_recorded : (w : WorldRows) (s : BTreeSet ℕ) (qs : List Query) → qs ≡ map (λ (a : ℕ). query.Port a) s.keys → AreKnownPorts w s → (q : Query) → Contains qs q → IsRecorded w q
ports_recorded w s qs made is q c =
    let r = mapped (λ (a : ℕ). query.Port a) s.keys q (subst (λ (ys : List Query). Contains ys q) made c) in
    subst (IsRecorded w) r.2 ((is r.0).0 ((btree_set_contains_iff nat_cmp_total set.nat_cmp-IsAntisymmetric s r.0).1 r.1))
