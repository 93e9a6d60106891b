-- The index of the storage groups that serve each host.
use Rattle.std.proofs.Common.{ℕ, ◌≡◌, ◌<◌, ◌≤◌, ◌+◌, List, [], ◌∷◌, ◌++◌, length, Bool, true, false, cond, Contains, Option, None, Some, ◌⊎◌, inl, inr, refl, sym, ap, ◌∙◌, subst, arith}
use mathlib.Core.Bool.{true≢false}
use Rattle.std.specs.Ordering.{is_eq, nat_cmp}
use Rattle.std.specs.Cmp.{Equal-is, tied_itself, nat_cmp_total}
use Rattle.std.specs.BTreeMap as tree
use Rattle.std.specs.BTreeMap.{BTreeMap, is_at}
use Rattle.std.specs.BTreeSet.{BTreeSet, contains}
use Rattle.std.specs.FinSet as set
use Rattle.std.specs.List.{slice_get}
use Rattle.std.specs.Map.{lookup}
use Rattle.std.proofs.lemmas.Bool.{cases_lt}
use Rattle.fab_inventory.specs.fab_lemmas.Adding.{Adds}
use Rattle.std.proofs.lemmas.Option.{slice_get_within}
use Rattle.std.proofs.lemmas.List.Elements.{Contains-push_cases, Contains-append_left, Contains-push}
use Rattle.fab_inventory.specs.fab_lemmas.MapsOfSets.{in_tree}
use Rattle.fab_inventory.proofs.fab_lemmas.Adding.{Before, adds_as, adds_both}
use Rattle.fab_inventory.proofs.fab_lemmas.SeenSets.{listed_decides}
use Rattle.fab_inventory.specs.fab_names.Orders.{name_cmp}
use Rattle.fab_inventory.proofs.fab_names.OrderLaws.{name_total, name_exact}
use Rattle.fab_mapping_base.specs.Groups.{HostGroupRows, StorageGroupRows, Names}
use Rattle.std.proofs.lemmas.Map.Views.{btree_map_get_iff}
use Rattle.fab_mapping_base.specs.Clashes.{HostGroups, IsExposed}
use Rattle.fab_mapping_base.specs.ClashSearch.{Index, Service, lists, HasHost, ServesHost, ServesAt}

same_name : (a b : List ℕ) → is_at (name_cmp a) b ≡ true → a ≡ b
same_name a b h = name_exact a b ((Equal-is (name_cmp a b)).0 h)

same_place : (a b : ℕ) → is_at (nat_cmp a) b ≡ true → a ≡ b
same_place a b h = set.nat_cmp-IsAntisymmetric a b ((Equal-is (nat_cmp a b)).0 h)

-- the index after the places of k, which were those of o, have become those of w, with z among them
pub adds_service : (t u : Index) (k : List ℕ) (z : ℕ) (o : Option (BTreeSet ℕ)) (w : BTreeSet ℕ) → tree.get name_cmp t k ≡ o
    → ((y : ℕ) → contains nat_cmp w y ≡ cond (is_at (nat_cmp z) y) true (in_tree nat_cmp o y))
    → ((q : List ℕ) → tree.get name_cmp u q ≡ cond (is_at (name_cmp k) q) (Some w) (tree.get name_cmp t q))
    → Adds (λ (e : Service). e ≡ (k, z)) (lists t) (lists u)
adds_service t u k z o w at adds updates e = (
  (λ h. came e.0 e.1 (is_at (name_cmp k) e.0) refl (sym (ap (λ x. in_tree nat_cmp x e.1) (updates e.0)) ∙ h)),
  λ h. elim h [
    | inl there ↦ ap (λ x. in_tree nat_cmp x e.1) (updates e.0) ∙ stays e.0 e.1 (is_at (name_cmp k) e.0) refl there
    | inr is ↦ subst (λ (x : Service). lists u x ≡ true) (sym is) (ap (λ x. in_tree nat_cmp x z) (updates k ∙ ap (λ b. cond b (Some w) (tree.get name_cmp t k)) (ap is_eq (tied_itself name_total k))) ∙ adds z ∙ ap (λ b. cond b true (in_tree nat_cmp o z)) (ap is_eq (tied_itself nat_cmp_total z)))
  ],
)
  where
    here : (q : List ℕ) (y : ℕ) → is_at (name_cmp k) q ≡ true → in_tree nat_cmp (tree.get name_cmp t q) y ≡ in_tree nat_cmp o y
    here q y is = ap (λ x. in_tree nat_cmp x y) (ap (tree.get name_cmp t) (sym (same_name k q is)) ∙ at)

    came_in : (q : List ℕ) (y : ℕ) → is_at (name_cmp k) q ≡ true → (b : Bool) → is_at (nat_cmp z) y ≡ b → cond b true (in_tree nat_cmp o y) ≡ true → (lists t (q, y) ≡ true) ⊎ ◌≡◌ {A = Service} (q, y) (k, z)
    came_in q y is true same h = inr (λ i. (sym (same_name k q is) i, sym (same_place z y same) i))
    came_in q y is false same h = inl (here q y is ∙ h)

    came : (q : List ℕ) (y : ℕ) (b : Bool) → is_at (name_cmp k) q ≡ b → in_tree nat_cmp (cond b (Some w) (tree.get name_cmp t q)) y ≡ true → (lists t (q, y) ≡ true) ⊎ ◌≡◌ {A = Service} (q, y) (k, z)
    came q y true is h = came_in q y is (is_at (nat_cmp z) y) refl (sym (adds y) ∙ h)
    came q y false is h = inl h

    still : (b c : Bool) → c ≡ true → cond b true c ≡ true
    still true c h = refl
    still false c h = h

    stays : (q : List ℕ) (y : ℕ) (b : Bool) → is_at (name_cmp k) q ≡ b → lists t (q, y) ≡ true → in_tree nat_cmp (cond b (Some w) (tree.get name_cmp t q)) y ≡ true
    stays q y true is h = adds y ∙ still (is_at (nat_cmp z) y) (in_tree nat_cmp o y) (sym (here q y is) ∙ h)
    stays q y false is h = h

-- a set of nothing that has gained a place
pub one_key : (s t : BTreeSet ℕ) (z : ℕ) → s.keys ≡ [] → ((y : ℕ) → contains nat_cmp t y ≡ cond (is_at (nat_cmp z) y) true (contains nat_cmp s y))
    → (y : ℕ) → contains nat_cmp t y ≡ cond (is_at (nat_cmp z) y) true false
one_key s t z none updates y = updates y ∙ ap (λ ks. cond (is_at (nat_cmp z) y) true (contains nat_cmp (record { keys = ks }) y)) none

-- ---- what whole walks add

-- a listed set of names has just what is listed
pub listed_in : (s : Names) (ks : List (List ℕ)) → set.from_list ks ≡ s → (k : List ℕ) → (set.contains s k ≡ true → Contains ks k) × (Contains ks k → set.contains s k ≡ true)
listed_in s ks is k =
    let d = listed_decides name_total name_exact ks k in
    ((λ h. d.0 (ap (λ (x : Names). set.contains x k) is ∙ h)), λ h. sym (ap (λ (x : Names). set.contains x k) is) ∙ d.1 h)

-- a host of a host group
abbrev pub ByHost : ℕ → List ℕ → Service → Type 0
ByHost place host e = e ≡ (host, place)

pub hosts_served : (hosts : Names) (place : ℕ) (hs : List (List ℕ)) (old new : Service → Bool) → set.from_list hs ≡ hosts → Adds (Before (ByHost place) hs) old new → Adds (λ (e : Service). (set.contains hosts e.0 ≡ true) × (e.1 ≡ place)) old new
hosts_served hosts place hs old new is = adds_as (Before (ByHost place) hs) (λ (e : Service). (set.contains hosts e.0 ≡ true) × (e.1 ≡ place)) old new
    (λ e w. (subst (λ h. set.contains hosts h ≡ true) (sym (ap (λ (x : Service). x.0) w.2)) ((listed_in hosts hs is w.0).1 w.1), ap (λ (x : Service). x.1) w.2))
    (λ e w. (e.0, (listed_in hosts hs is e.0).0 w.0, λ i. (e.0, w.1 i)))

-- a host group of a storage group
abbrev pub ByHosts : HostGroups → ℕ → List ℕ → Service → Type 0
ByHosts host_groups place k e = HasHost host_groups k e.0 × (e.1 ≡ place)

pub by_hosts : (host_groups : HostGroups) (place : ℕ) (k : List ℕ) (hosts : HostGroupRows) (old new : Service → Bool) → host_groups k ≡ Some hosts → Adds (λ (e : Service). (set.contains hosts.hosts e.0 ≡ true) × (e.1 ≡ place)) old new
    → Adds (ByHosts host_groups place k) old new
by_hosts host_groups place k hosts old new at = adds_as (λ (e : Service). (set.contains hosts.hosts e.0 ≡ true) × (e.1 ≡ place)) (ByHosts host_groups place k) old new (λ e w. ((hosts, at, w.0), w.1))
    (λ e w. let f : Some w.0.0 ≡ Some hosts = sym w.0.1 ∙ at in let same : w.0.0 ≡ hosts = cc in (subst (λ (x : HostGroupRows). set.contains x.hosts e.0 ≡ true) same w.0.2, w.1))

pub no_hosts : (host_groups : HostGroups) (place : ℕ) (k : List ℕ) → host_groups k ≡ None → (e : Service) → ¬ ByHosts host_groups place k e
no_hosts host_groups place k none e w = let f : ◌≡◌ {A = Option HostGroupRows} None (Some w.0.0) = sym none ∙ w.0.1 in absurd cc

pub group_served : (host_groups : HostGroups) (g : StorageGroupRows) (place : ℕ) (ks : List (List ℕ)) (old new : Service → Bool) → set.from_list ks ≡ g.host_groups → Adds (Before (ByHosts host_groups place) ks) old new
    → Adds (λ (e : Service). ServesHost host_groups g e.0 × (e.1 ≡ place)) old new
group_served host_groups g place ks old new is = adds_as (Before (ByHosts host_groups place) ks) (λ (e : Service). ServesHost host_groups g e.0 × (e.1 ≡ place)) old new
    (λ e w. ((w.0, (listed_in g.host_groups ks is w.0).1 w.1, w.2.0), w.2.1))
    (λ e w. (w.0.0, (listed_in g.host_groups ks is w.0.0).0 w.0.1, (w.0.2, w.1)))

-- ---- place by place

-- those below a place
abbrev pub Below : HostGroups → List StorageGroupRows → ℕ → Service → Type 0
Below host_groups gs n e = (e.1 < n) × ServesAt host_groups gs e

pub below_start : (host_groups : HostGroups) (gs : List StorageGroupRows) (t : Index) → t.entries ≡ [] → Adds (Below host_groups gs 0) (λ _. false) (lists t)
below_start host_groups gs t none e = (
  (λ h. absurd (true≢false (sym h ∙ ap (λ (es : List (List ℕ × BTreeSet ℕ)). in_tree nat_cmp (lookup (is_at (name_cmp e.0)) es) e.1) none))),
  λ x. elim x [ inl f ↦ absurd (true≢false (sym f)) | inr p ↦ absurd (omega (arith, p.0)) ],
)

pub below_more : (host_groups : HostGroups) (gs : List StorageGroupRows) (n : ℕ) (g : StorageGroupRows) (f k h : Service → Bool) → slice_get gs n ≡ Some g → Adds (Below host_groups gs n) f k → Adds (λ (e : Service). ServesHost host_groups g e.0 × (e.1 ≡ n)) k h
    → Adds (Below host_groups gs (n + 1)) f h
below_more host_groups gs n g f k h at a b =
    adds_as (λ e. Below host_groups gs n e ⊎ (ServesHost host_groups g e.0 × (e.1 ≡ n))) (Below host_groups gs (n + 1)) f h
    (λ e x. elim x [ inl w ↦ (omega (arith, w.0), w.1) | inr w ↦ (omega (arith, w.1), (g, ap (slice_get gs) w.1 ∙ at, w.0)) ])
    (λ e w. split e w (below_or e.1 n w.0))
    (adds_both (Below host_groups gs n) (λ (e : Service). ServesHost host_groups g e.0 × (e.1 ≡ n)) f k h a b)
  where
    below_or : (i m : ℕ) → i < m + 1 → (i < m) ⊎ (i ≡ m)
    below_or i m less = elim (cases_lt i m) [ inl l ↦ inl l | inr l ↦ inr (omega arith) ]

    split : (e : Service) → Below host_groups gs (n + 1) e → (e.1 < n) ⊎ (e.1 ≡ n) → Below host_groups gs n e ⊎ (ServesHost host_groups g e.0 × (e.1 ≡ n))
    split e w (inl less) = inl (less, w.1)
    split e w (inr is) =
        let f : Some w.1.0 ≡ Some g = sym w.1.1 ∙ ap (slice_get gs) is ∙ at in
        let same : w.1.0 ≡ g = cc in inr (subst (λ (x : StorageGroupRows). ServesHost host_groups x e.0) same w.1.2, is)

-- at the last place
pub below_all : (host_groups : HostGroups) (gs : List StorageGroupRows) (n : ℕ) (f h : Service → Bool) → length gs ≤ n → Adds (Below host_groups gs n) f h → Adds (ServesAt host_groups gs) f h
below_all host_groups gs n f h long = adds_as (Below host_groups gs n) (ServesAt host_groups gs) f h (λ e w. w.1) (λ e w. (omega (arith, slice_get_within gs e.1 w.0 w.1), w))

-- ---- the exposed storage groups

-- one of these entries is the storage group, and it is exposed
abbrev pub ExposedIn : List (List ℕ × StorageGroupRows) → StorageGroupRows → Type 0
ExposedIn es g = (n : List ℕ) × Contains es (n, g) × (g.exposed ≡ true)

-- the listed storage groups are those that are exposed
abbrev pub AreExposed : List StorageGroupRows → List (List ℕ × StorageGroupRows) → Type 0
AreExposed gs es = (g : StorageGroupRows) → (Contains gs g → ExposedIn es g) × (ExposedIn es g → Contains gs g)

pub exposed_none : AreExposed [] []
exposed_none g = ((λ h. absurd (omega (arith, h.1))), λ w. absurd (omega (arith, w.1.1)))

pub exposed_more : (gs : List StorageGroupRows) (es : List (List ℕ × StorageGroupRows)) (n : List ℕ) (x : StorageGroupRows) → x.exposed ≡ true → AreExposed gs es → AreExposed (gs ++ x ∷ []) (es ++ (n, x) ∷ [])
exposed_more gs es n x is all g = (
  (λ h. elim (Contains-push_cases gs x g h) [
    | inl i ↦ let w = (all g).0 i in (w.0, Contains-append_left es _ (w.0, g) w.1, w.2)
    | inr e ↦ (n, subst (λ y. Contains (es ++ (n, x) ∷ []) (n, y)) e (Contains-push es (n, x)), ap (λ (y : StorageGroupRows). y.exposed) (sym e) ∙ is)
  ]),
  λ w. elim (Contains-push_cases es (n, x) (w.0, g) w.1) [
    | inl i ↦ Contains-append_left gs _ g ((all g).1 (w.0, i, w.2))
    | inr e ↦ subst (Contains (gs ++ x ∷ [])) (ap (λ (p : List ℕ × StorageGroupRows). p.1) e) (Contains-push gs x)
  ],
)

pub exposed_skip : (gs : List StorageGroupRows) (es : List (List ℕ × StorageGroupRows)) (n : List ℕ) (x : StorageGroupRows) → x.exposed ≡ false → AreExposed gs es → AreExposed gs (es ++ (n, x) ∷ [])
exposed_skip gs es n x is all g = (
  (λ h. let w = (all g).0 h in (w.0, Contains-append_left es _ (w.0, g) w.1, w.2)),
  λ w. elim (Contains-push_cases es (n, x) (w.0, g) w.1) [
    | inl i ↦ (all g).1 (w.0, i, w.2)
    | inr e ↦ absurd (true≢false (sym w.2 ∙ ap (λ (p : List ℕ × StorageGroupRows). p.1.exposed) (sym e) ∙ is))
  ],
)

-- at the end of the walk
pub exposed_all : (t : BTreeMap (List ℕ) StorageGroupRows) (es : List (List ℕ × StorageGroupRows)) (gs : List StorageGroupRows) → tree.IsOrdered name_cmp t → es ≡ t.entries → AreExposed gs es
    → (g : StorageGroupRows) → (Contains gs g → IsExposed (tree.get name_cmp t) g) × (IsExposed (tree.get name_cmp t) g → Contains gs g)
exposed_all t es gs sorted is all g = (
  (λ h. let w = (all g).0 h in (w.0, (btree_map_get_iff name_total name_exact t sorted w.0 g).1 (subst (λ ys. Contains ys (w.0, g)) is w.1), w.2)),
  λ w. (all g).1 (w.0, subst (λ ys. Contains ys (w.0, g)) (sym is) ((btree_map_get_iff name_total name_exact t sorted w.0 g).0 w.1), w.2),
)
