-- What hosts have left.
use Rattle.std.proofs.Common.{◌≡◌, ◌≢◌, ◌↔◌, ℕ, List, [], Bool, true, false, IsTrue, Contains, inl, inr, ◌⊎◌, refl, sym, subst}
use mathlib.Core.Bool.{true≢false}
use Rattle.std.specs.BTreeSet.{BTreeSet}
use Rattle.std.proofs.lemmas.Map.Views.{btree_set_contains_iff}
use Rattle.fab_desk_machine.specs.fab_desk_base.Tenants.{Has}
use Rattle.fab_looks_tries.specs.Hosts.{HasPathOver, IsOnOneFabric, IsWithoutPath}
use Rattle.fab_looks_tries.specs.Inner.Gathered.{IsOver}
use Rattle.fab_looks_tries.proofs.Losing.{Inserts, name_added}
use Rattle.fab_names.proofs.OrderLaws.{name_total, name_exact}
use Rattle.fab_names.specs.declared.fabric.Fabric.{Fabric}
use Rattle.fab_names.specs.declared.fabric.Fabric.TheVariants.{A, B}
use Rattle.fab_reach_base.specs.Adding.{Adds}
use Rattle.fab_reach_base.specs.Orders.{IsListOf}
use Rattle.fab_reach_base.specs.Reach.{ReachesFrom}
use Rattle.fab_reach_base.specs.Records.{Records}
use Rattle.fab_reach_base.specs.declared.path.Path.{Path}
use Rattle.fab_reach_base.proofs.Adding.{Before, adds_as, from_none}
use Rattle.fab_reach_base.proofs.Sets.{none_in}

-- one of the listed paths is over the fabric where the host has such a path
pub over_is : (v : Records) (host : List ℕ) (f : Fabric) (xs : List Path) → IsListOf (ReachesFrom v host) xs → IsOver xs f ↔ HasPathOver v host f
over_is v host f xs list = ((λ o. (o.0, list.sound o.0 o.1, o.2)), λ h. (h.0, list.complete h.0 h.1, h.2))

-- ---- two tests

no : ¬ IsTrue false
no h = true≢false (sym h)

module _ (v : Records) (host : List ℕ) where
  -- the tests say over which fabrics the host has paths
  abbrev pub Tells : Bool → Bool → Type 0
  Tells a b = (IsTrue a ↔ HasPathOver v host A) × (IsTrue b ↔ HasPathOver v host B)

  pub one_from : (a b : Bool) → Tells a b → a ≢ b → IsOnOneFabric v host
  one_from true true t differ = absurd (differ refl)
  one_from true false t differ = inl (t.0.0 refl, λ h. no (t.1.1 h))
  one_from false true t differ = inr (t.1.0 refl, λ h. no (t.0.1 h))
  one_from false false t differ = absurd (differ refl)

  pub one_to : (a b : Bool) → Tells a b → IsOnOneFabric v host → a ≢ b
  one_to a b t (inl o) same = o.1 (t.1.0 (subst IsTrue same (t.0.1 o.0)))
  one_to a b t (inr o) same = o.1 (t.0.0 (subst IsTrue (sym same) (t.1.1 o.0)))

  over_some : (x : Path) (f : Fabric) → x.fabric ≡ f → ReachesFrom v host x → HasPathOver v host A ⊎ HasPathOver v host B
  over_some x A is r = inl (x, r, is)
  over_some x B is r = inr (x, r, is)

  pub none_from : (a b : Bool) → Tells a b → (¬ IsTrue a) × (¬ IsTrue b) → IsWithoutPath v host
  none_from a b t none x r = elim (over_some x x.fabric refl r) [ inl h ↦ none.0 (t.0.1 h) | inr h ↦ none.1 (t.1.1 h) ]

  pub none_to : (a b : Bool) → Tells a b → IsWithoutPath v host → (¬ IsTrue a) × (¬ IsTrue b)
  none_to a b t without = ((λ y. let h = t.0.0 y in without h.0 h.1), λ y. let h = t.1.0 y in without h.0 h.1)

-- ---- hosts that are kept

-- a host, if it has P
abbrev pub By : (List ℕ → Type 0) → List ℕ → List ℕ → Type 0
By P host n = P host × (n ≡ host)

-- a host was added if it is asked for
pub by_added : (P : List ℕ → Type 0) (host : List ℕ) (b : Bool) (old new : List ℕ → Type 0) → (IsTrue b → P host) → (P host → IsTrue b) → Adds (λ n. IsTrue b × (n ≡ host)) old new → Adds (By P host) old new
by_added P host b old new to from = adds_as (λ n. IsTrue b × (n ≡ host)) (By P host) old new (λ n h. (to h.0, h.1)) (λ n h. (from h.0, h.1))

-- a name that is asked for was inserted
pub asked_added : (b : Bool) (name : List ℕ) (s t : BTreeSet (List ℕ)) → IsTrue b → Inserts s t name → Adds (λ n. IsTrue b × (n ≡ name)) (Has s) (Has t)
asked_added b name s t is u = adds_as (λ y. y ≡ name) (λ n. IsTrue b × (n ≡ name)) (Has s) (Has t) (λ y e. (is, e)) (λ y h. h.1) (name_added s t name u)

-- the hosts of a set that have P
pub kept_are : (P : List ℕ → Type 0) (u s t : BTreeSet (List ℕ)) (ks : List (List ℕ)) → ks ≡ u.keys → s.keys ≡ [] → Adds (Before (By P) ks) (Has s) (Has t) → (h : List ℕ) → (Has t h → Has u h × P h) × (Has u h × P h → Has t h)
kept_are P u s t ks is none a h =
    let d = from_none (Before (By P) ks) (Has s) (Has t) (none_in name_total name_exact s none) a h in (
      (λ y.
          let b = d.0 y in (
            (btree_set_contains_iff name_total name_exact u h).1 (subst (λ n. Contains u.keys n) (sym b.2.1) (subst (λ xs. Contains xs b.0) is b.1)),
            subst P (sym b.2.1) b.2.0,
          )),
      λ y. d.1 (h, subst (λ xs. Contains xs h) (sym is) ((btree_set_contains_iff name_total name_exact u h).0 y.0), (y.1, refl)),
    )
