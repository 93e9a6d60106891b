-- Zones that are gathered from ordered rows.
use Rattle.std.proofs.Common.{◌≡◌, ◌-◌, ℕ, List, [], ◌∷◌, ◌++◌, map, length, slice_get, Some, true, Contains, ◌⊎◌, inl, inr, refl, sym, ap, ◌∙◌, subst}
use Rattle.std.specs.declared.cmp.Ordering.{Ordering}
use Rattle.std.specs.declared.cmp.Ordering.TheVariants.{Less, Equal, Greater}
use Rattle.std.specs.Cmp.{tied_itself}
use Rattle.std.specs.FinSet as set
use Rattle.std.specs.List.{AllByRecursion}
use Rattle.std.specs.List.Sorted.{IsStrictlySortedBy}
use Rattle.std.specs.Ordering.{ordering_then}
use Rattle.std.proofs.lemmas.List.{append-nil, append_assoc, flat_map_more, map-append}
use Rattle.std.proofs.lemmas.List.Elements.{Contains-append_cases, Contains-append_left, Contains-append_right}
use Rattle.std.proofs.lemmas.Map.Keys.{sorted_head, sorted_tail}
use Rattle.fab_reach_base.specs.fab_lemmas.Lists.{IsListOf}
use Rattle.fab_reach_base.proofs.fab_lemmas.Walks.{all_push}
use Rattle.fab_reach_base.specs.fab_names.Orders.{name_cmp, member_cmp}
use Rattle.fab_reach_base.specs.fab_names.declared.member.Member.{Member}
use Rattle.fab_reach_base.proofs.fab_names.OrderLaws.{name_total, name_exact}
use Rattle.fab_reach_base.specs.fab_zoning_rows.Rows.{Row, Rows, row_cmp, IsRowOf}
use Rattle.fab_desk_base.specs.Showing.{AreActiveZones, IsActiveZone}
use Rattle.fab_desk_base.specs.declared.reply.ZoneMembers.{ZoneMembers}
use Rattle.fab_desk_base.specs.Grouping.{rows_of_zone, rows_in, names_of, HasSome, EndsIn, IsOpened, IsAdded, IsGrouped}
use Rattle.fab_desk_base.proofs.Lists.{head_or_later, here, later, none_there, all_of, each_of, all_front, all_rear, push_some, last_is, sorted_push, sorted_front, sorted_rear, below_next, mapped, from_mapped, sorted_unmapped}

-- a row below another is of no later zone
zone_before : (p q : Row) → row_cmp p q ≡ Less → (name_cmp p.0 q.0 ≡ Less) ⊎ (p.0 ≡ q.0)
zone_before p q h = by (name_cmp p.0 q.0) refl h
  where
    by : (r : Ordering) → name_cmp p.0 q.0 ≡ r → ordering_then r (member_cmp p.1 q.1) ≡ Less → (name_cmp p.0 q.0 ≡ Less) ⊎ (p.0 ≡ q.0)
    by Less is h = inl is
    by Equal is h = inr (name_exact p.0 q.0 is)
    by Greater is h = absurd cc

-- no name is before itself
not_below : (n : List ℕ) → ¬ (name_cmp n n ≡ Less)
not_below n h = let e : Equal ≡ Less = sym (tied_itself name_total n) ∙ h in absurd cc

-- the rows of a zone are ordered as its members
members_sorted : (n : List ℕ) (ms : List Member) → IsStrictlySortedBy row_cmp (map (λ m. (n, m)) ms) → IsStrictlySortedBy member_cmp ms
unfolding IsStrictlySortedBy
members_sorted n [] s = tt
members_sorted n (m ∷ ms) s = (each ms s.0, members_sorted n ms s.1)
  where
    each : (xs : List Member) → AllByRecursion (λ q. row_cmp (n, m) q ≡ Less) (map (λ x. (n, x)) xs) → AllByRecursion (λ x. member_cmp m x ≡ Less) xs
    each [] h = tt
    each (x ∷ xs) h = (ap (λ r. ordering_then r (member_cmp m x)) (sym (tied_itself name_total n)) ∙ h.0, each xs h.1)

module _ {A : Type 0} where
  rows_push : (zs : List (ZoneMembers A)) (z : ZoneMembers A) → rows_in (zs ++ z ∷ []) ≡ rows_in zs ++ rows_of_zone z
  rows_push zs z = sym (flat_map_more rows_of_zone [] zs z)

  names_push : (zs : List (ZoneMembers A)) (z : ZoneMembers A) → names_of (zs ++ z ∷ []) ≡ names_of zs ++ z.name ∷ []
  names_push zs z = map-append (λ (y : ZoneMembers A). y.name) zs (z ∷ [])

  -- a last zone of the name
  abbrev Closes : List (ZoneMembers A) → List ℕ → Type 0
  Closes zs n = (before : List (ZoneMembers A)) × (z : ZoneMembers A) × (zs ≡ before ++ z ∷ []) × (z.name ≡ n)

  closes_ends : (zs : List (ZoneMembers A)) (n : List ℕ) → Closes zs n → EndsIn zs n
  closes_ends zs n c = (c.1, subst (λ xs. slice_get xs (length xs - 1) ≡ Some c.1) (sym c.2) (last_is c.0 c.1), c.3)

  -- where the rows so far are below one of another zone than the last, their zones are before its zone
  below_new : (zs : List (ZoneMembers A)) (r : Row) → IsStrictlySortedBy name_cmp (names_of zs) → AllByRecursion HasSome zs → AllByRecursion (λ q. row_cmp q r ≡ Less) (rows_in zs) → ¬ Closes zs r.0 → AllByRecursion (λ n. name_cmp n r.0 ≡ Less) (names_of zs)
  below_new [] r s some low other = tt
  below_new (z ∷ []) r s some low other =
      let first = all_front (λ q. row_cmp q r ≡ Less) (rows_of_zone z) [] low in
      let at : row_cmp (z.name, some.0.0) r ≡ Less = (subst (λ ms. AllByRecursion (λ q. row_cmp q r ≡ Less) (map (λ m. (z.name, m)) ms)) some.0.2 first).0 in
      elim (zone_before (z.name, some.0.0) r at) [ inl less ↦ (less, tt) | inr is ↦ absurd (other ([], z, refl, is)) ]
  below_new (z ∷ y ∷ zs) r s some low other =
      let more = below_new (y ∷ zs) r (sorted_tail name_cmp z.name (names_of (y ∷ zs)) s) some.1 (all_rear (λ q. row_cmp q r ≡ Less) (rows_of_zone z) (rows_in (y ∷ zs)) low) (λ c. other (z ∷ c.0, c.1, ap (λ xs. z ∷ xs) c.2, c.3)) in
      (name_total.trans z.name y.name r.0 (sorted_head name_cmp z.name (names_of (y ∷ zs)) s).0 more.0, more)

  -- ---- one row more

  module _ (before more : List Row) (r : Row) (sorted : IsStrictlySortedBy row_cmp (before ++ r ∷ more)) (old new : List (ZoneMembers A)) (g : IsGrouped before old) (mid : List (ZoneMembers A)) (z y : ZoneMembers A) where
    low : AllByRecursion (λ q. row_cmp q r ≡ Less) (rows_in old)
    low = subst (AllByRecursion (λ q. row_cmp q r ≡ Less)) (sym g.rows_are) (below_next row_cmp before more r sorted)

    -- the rows of the zones but for the last, and those of the last so far, are the rows so far
    open_rows : IsOpened r.0 old mid z → rows_in mid ++ map (λ m. (r.0, m)) z.members.items ≡ before
    open_rows o = elim o.1 [
      | inl was ↦ ap (λ n. rows_in mid ++ map (λ m. (n, m)) z.members.items) (sym o.0) ∙ sym (rows_push mid z) ∙ ap rows_in (sym was) ∙ g.rows_are
      | inr new ↦ ap (λ ms. rows_in mid ++ map (λ m. (r.0, m)) ms) new.1 ∙ append-nil (rows_in mid) ∙ ap rows_in new.0 ∙ g.rows_are
    ]

    open_some : IsOpened r.0 old mid z → AllByRecursion HasSome mid
    open_some o = elim o.1 [
      | inl was ↦ all_front HasSome mid (z ∷ []) (subst (AllByRecursion HasSome) was g.some)
      | inr new ↦ subst (AllByRecursion HasSome) (sym new.0) g.some
    ]

    open_sorted : IsOpened r.0 old mid z → IsStrictlySortedBy name_cmp (names_of mid ++ r.0 ∷ [])
    open_sorted o = elim o.1 [
      | inl was ↦ subst (IsStrictlySortedBy name_cmp) (ap names_of was ∙ names_push mid z ∙ ap (λ n. names_of mid ++ n ∷ []) o.0) g.sorted
      | inr new ↦ subst (λ zs. IsStrictlySortedBy name_cmp (names_of zs ++ r.0 ∷ [])) (sym new.0) (sorted_push name_cmp (names_of old) r.0 g.sorted (below_new old r g.sorted g.some low (λ c. new.2 (closes_ends old r.0 c))))
    ]

    grouped : IsOpened r.0 old mid z → new ≡ mid ++ y ∷ [] → y.name ≡ r.0 → y.members.items ≡ z.members.items ++ r.1 ∷ [] → IsGrouped (before ++ r ∷ []) new
    grouped o is name members =
        let own : rows_of_zone y ≡ map (λ m. (r.0, m)) z.members.items ++ r ∷ [] = ap (λ n. map (λ m. (n, m)) y.members.items) name ∙ ap (map (λ m. (r.0, m))) members ∙ map-append (λ m. (r.0, m)) z.members.items (r.1 ∷ []) in
        let some = push_some z.members.items r.1 in
        record {
          rows_are = ap rows_in is ∙ rows_push mid y ∙ ap (λ rs. rows_in mid ++ rs) own ∙ sym (append_assoc (rows_in mid) (map (λ m. (r.0, m)) z.members.items) (r ∷ [])) ∙ ap (λ rs. rs ++ r ∷ []) (open_rows o);
          sorted = subst (IsStrictlySortedBy name_cmp) (sym (ap names_of is ∙ names_push mid y ∙ ap (λ n. names_of mid ++ n ∷ []) name)) (open_sorted o);
          some = subst (AllByRecursion HasSome) (sym is) (all_push HasSome mid y (open_some o) (some.0, some.1, members ∙ some.2));
        }

  pub grouped_none : (zones : List (ZoneMembers A)) → zones ≡ [] → IsGrouped [] zones
  unfolding IsStrictlySortedBy
  grouped_none zones none = subst (IsGrouped []) (sym none) (record { rows_are = refl; sorted = tt; some = tt })

  pub grouped_more : (before more : List Row) (r : Row) (old new : List (ZoneMembers A)) → IsStrictlySortedBy row_cmp (before ++ r ∷ more) → IsGrouped before old → IsAdded r old new → IsGrouped (before ++ r ∷ []) new
  grouped_more before more r old new sorted g a = grouped before more r sorted old new g a.0 a.1 a.2 a.3 a.4 a.5 a.6

  -- ---- all rows

  -- a row of the zones is one of a zone
  from_rows : (zs : List (ZoneMembers A)) (q : Row) → Contains (rows_in zs) q → (z : ZoneMembers A) × Contains zs z × (z.name ≡ q.0) × Contains z.members.items q.1
  from_rows [] q h = absurd (none_there q h)
  from_rows (z ∷ zs) q h = elim (Contains-append_cases (rows_of_zone z) (rows_in zs) q h) [
    | inl own ↦ let m = from_mapped (λ m. (z.name, m)) z.members.items q own in (z, here z zs, ap (λ (p : Row). p.0) m.2, subst (Contains z.members.items) (ap (λ (p : Row). p.1) m.2) m.1)
    | inr rest ↦ let w = from_rows zs q rest in (w.0, later z zs w.0 w.1, w.2, w.3)
  ]

  to_rows : (zs : List (ZoneMembers A)) (z : ZoneMembers A) (m : Member) → Contains zs z → Contains z.members.items m → Contains (rows_in zs) (z.name, m)
  to_rows [] z m h k = absurd (none_there z h)
  to_rows (y ∷ zs) z m h k = elim (head_or_later y zs z h) [
    | inl is ↦ Contains-append_left (rows_of_zone y) (rows_in zs) (z.name, m) (subst (λ x. Contains (rows_of_zone x) (z.name, m)) (sym is) (mapped (λ n. (z.name, n)) z.members.items m k))
    | inr rest ↦ Contains-append_right (rows_of_zone y) (rows_in zs) (z.name, m) (to_rows zs z m rest k)
  ]

  -- one name, one zone
  one_zone : (zs : List (ZoneMembers A)) (z y : ZoneMembers A) → IsStrictlySortedBy name_cmp (names_of zs) → Contains zs z → Contains zs y → y.name ≡ z.name → y ≡ z
  one_zone [] z y s h k is = absurd (none_there z h)
  one_zone (x ∷ zs) z y s h k is =
      let above : (w : ZoneMembers A) → Contains zs w → name_cmp x.name w.name ≡ Less = λ w there. each_of (λ n. name_cmp x.name n ≡ Less) (names_of zs) w.name (sorted_head name_cmp x.name (names_of zs) s) (mapped (λ (v : ZoneMembers A). v.name) zs w there) in
      elim (head_or_later x zs z h) [
        | inl a ↦ elim (head_or_later x zs y k) [
          | inl b ↦ sym b ∙ a
          | inr b ↦ absurd (not_below x.name (subst (λ n. name_cmp x.name n ≡ Less) (is ∙ ap (λ (v : ZoneMembers A). v.name) (sym a)) (above y b)))
        ]
        | inr a ↦ elim (head_or_later x zs y k) [
          | inl b ↦ absurd (not_below x.name (subst (λ n. name_cmp x.name n ≡ Less) (sym is ∙ ap (λ (v : ZoneMembers A). v.name) (sym b)) (above z a)))
          | inr b ↦ one_zone zs z y (sorted_tail name_cmp x.name (names_of zs) s) a b is
        ]
      ]

  zone_sorted : (zs : List (ZoneMembers A)) (z : ZoneMembers A) → IsStrictlySortedBy row_cmp (rows_in zs) → Contains zs z → IsStrictlySortedBy member_cmp z.members.items
  zone_sorted [] z s h = absurd (none_there z h)
  zone_sorted (y ∷ zs) z s h = elim (head_or_later y zs z h) [
    | inl is ↦ subst (λ (x : ZoneMembers A). IsStrictlySortedBy member_cmp x.members.items) is (members_sorted y.name y.members.items (sorted_front row_cmp (rows_of_zone y) (rows_in zs) s))
    | inr rest ↦ zone_sorted zs z (sorted_rear row_cmp (rows_of_zone y) (rows_in zs) s) rest
  ]

  -- the zones of all active rows are those that are active
  pub zones_active : (rows : Rows) (keys : List Row) (zones : List (ZoneMembers A)) → IsListOf row_cmp (IsRowOf rows) keys → IsGrouped keys zones → AreActiveZones rows zones
  zones_active rows keys zones l g =
      let all : IsListOf row_cmp (IsRowOf rows) (rows_in zones) = subst (IsListOf row_cmp (IsRowOf rows)) (sym g.rows_are) l in record {
        sorted = sorted_unmapped (λ (z : ZoneMembers A). z.name) name_cmp zones g.sorted;
        sound = all_of (λ (z : ZoneMembers A). IsActiveZone rows z.name) zones (λ z there. let some = each_of HasSome zones z g.some there in (some.0, all.sound (z.name, some.0) (to_rows zones z some.0 there (subst (λ ms. Contains ms some.0) (sym some.2) (here some.0 some.1)))));
        complete = λ n active. let found = from_rows zones (n, active.0) (all.complete (n, active.0) active.1) in (found.1.0, found.0, found.1.1, found.1.2, found.2);
        members = all_of (λ (z : ZoneMembers A). IsListOf member_cmp (λ m. set.contains rows (z.name, m) ≡ true) z.members.items) zones (λ z there. record {
          sorted = zone_sorted zones z all.sorted there;
          sound = λ m h. all.sound (z.name, m) (to_rows zones z m there h);
          complete = λ m h. let found = from_rows zones (z.name, m) (all.complete (z.name, m) h) in subst (λ (x : ZoneMembers A). Contains x.members.items m) (one_zone zones z found.0 g.sorted there found.1 found.2) found.3;
        });
      }
