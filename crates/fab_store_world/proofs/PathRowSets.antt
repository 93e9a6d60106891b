-- Sets of rows of paths.
use Rattle.std.proofs.Common.{◌≡◌, ℕ, ◌≤◌, List, [], length, true, cond, Contains, refl, sym, ap, ◌∙◌, subst, arith}
use Rattle.std.specs.declared.cmp.Ordering.{Ordering}
use Rattle.std.specs.BTreeMap.{is_at}
use Rattle.std.specs.BTreeSet.{BTreeSet, contains, IsOrdered}
use Rattle.std.specs.Cmp.{eq_by_cmp_equiv}
use Rattle.std.specs.List.{list_any}
use Rattle.std.specs.List.Sorted.{IsStrictlySortedBy}
use Rattle.std.specs.Ordering.{eq_by_cmp}
use Rattle.std.proofs.lemmas.Map.Keys.{IsDistinct-from_sorted}
use Rattle.std.proofs.lemmas.Map.Made.{is_member-Decides, length-le_from_is_member}
use Rattle.std.proofs.lemmas.Map.Views.{btree_set_contains_iff}
use Rattle.fab_reach_base.specs.fab_lemmas.Lists.{IsListOf}
use Rattle.fab_reach_base.proofs.fab_lemmas.SeenSets.{tie_decides}
use Rattle.fab_reach_base.specs.declared.path.Path.{Path}
use Rattle.fab_reach_base.specs.Adding.{Adds}
use Rattle.fab_reach_base.specs.Limits.{MoreThan}
use Rattle.fab_reach_base.specs.Orders as paths
use Rattle.fab_reach_base.specs.Reach.{IsInitiatorOf, Reaches}
use Rattle.fab_reach_base.specs.Records.{Records}
use Rattle.fab_reach_base.proofs.Adding.{adds_as, adds_none, from_none}
use Rattle.fab_reach_base.specs.PathOrder.{path_total, path_exact}
use Rattle.fab_reach_base.proofs.Same.{same_some}
use Rattle.fab_reach_base.proofs.Sets.{adds_insert, none_in}
use Rattle.fab_world.specs.fab_store_rows.declared.record_row.PathRow.{PathRow}
use Rattle.fab_store_world.specs.PathGathering.{Has, HaveSame, IsRowOf, IsRowOfSome, HasPathRows}
use Rattle.fab_store_world.specs.Paths.{ArePathRows, path_row_cmp, path_row_order}
use Rattle.fab_store_world.proofs.PathRowOrder.{row_total, row_exact, same_order}

-- the host of an initiator is one
one_host : (w : Records) (p : ℕ) (h k : List ℕ) → IsInitiatorOf w p h → IsInitiatorOf w p k → h ≡ k
one_host w p h k a b = same_some a.2.held (ap (λ (q : _). q.holder) (same_some a.1 b.1) ∙ b.2.held)

module _ (w : Records) where
  -- a row was inserted
  pub row_added : (x : Path) (h : List ℕ) (s t : BTreeSet PathRow) → IsInitiatorOf w x.initiator h
      → ((r : PathRow) → contains path_row_cmp t r ≡ cond (is_at (path_row_cmp (record { host = h; path = x })) r) true (contains path_row_cmp s r)) → Adds (IsRowOf w x) (Has s) (Has t)
  row_added x h s t is u = adds_as (λ r. r ≡ record { host = h; path = x }) (IsRowOf w x) (Has s) (Has t)
      (λ r e. (ap (λ (q : PathRow). q.path) e, subst (IsInitiatorOf w x.initiator) (sym (ap (λ (q : PathRow). q.host) e)) is))
      (λ r a. λ i. record { host = one_host w x.initiator r.host h a.1 is i; path = a.0 i })
      (adds_insert row_total row_exact s t (record { host = h; path = x }) u)

  -- no host holds the initiator
  pub no_row : (x : Path) (s : BTreeSet PathRow) → ((h : List ℕ) → ¬ IsInitiatorOf w x.initiator h) → Adds (IsRowOf w x) (Has s) (Has s)
  no_row x s none = adds_none (IsRowOf w x) (Has s) (λ r a. none r.host a.1)

  -- the rows of all paths
  pub gathered : (xs : List Path) (s t : BTreeSet PathRow) → paths.IsListOf (Reaches w) xs → s.keys ≡ [] → Adds (IsRowOfSome w xs) (Has s) (Has t) → HasPathRows w t
  gathered xs s t l none a r =
      let d = from_none (IsRowOfSome w xs) (Has s) (Has t) (none_in row_total row_exact s none) a r in (
        (λ h. let k = d.0 h in (subst (Reaches w) (sym k.2.0) (l.sound k.0 k.1), subst (λ (x : Path). IsInitiatorOf w x.initiator r.host) (sym k.2.0) k.2.1)),
        λ h. d.1 (r.path, l.complete r.path h.0, (refl, h.1)),
      )

-- a list of all is as long as any
pub not_more : (most : ℕ) (P : Path → Type 0) (xs : List Path) → paths.IsListOf P xs → length xs ≤ most → ¬ MoreThan most P
not_more most P xs l few more =
    let fewer : length more.some ≤ length xs =
    length-le_from_is_member (eq_by_cmp_equiv path_total) more.some xs (IsDistinct-from_sorted paths.path_order more.some more.sorted)
    (λ q member. (is_member-Decides (tie_decides path_total path_exact) xs q).1 (l.complete q (more.sound q ((is_member-Decides (tie_decides path_total path_exact) more.some q).0 member)))) in
    omega (arith, few, fewer, more.many)

-- ---- a set as a list

pub set_listed : (P : PathRow → Type 0) (t : BTreeSet PathRow) (xs : List PathRow) → IsOrdered path_row_cmp t → xs ≡ t.keys → ((r : PathRow) → (Has t r → P r) × (P r → Has t r)) → IsListOf path_row_order P xs
set_listed P t xs ordered is all = subst (IsListOf path_row_order P) (sym is) (record {
  sorted = subst (λ (O : PathRow → PathRow → Ordering). IsStrictlySortedBy O t.keys) same_order ordered;
  sound = λ r h. (all r).0 ((btree_set_contains_iff row_total row_exact t r).1 h);
  complete = λ r h. (btree_set_contains_iff row_total row_exact t r).0 ((all r).1 h);
})

-- a list as a set
pub given_has : (rows : List PathRow) (s : BTreeSet PathRow) → ((r : PathRow) → contains path_row_cmp s r ≡ list_any (eq_by_cmp path_row_cmp r) rows) → (r : PathRow) → (Has s r → Contains rows r) × (Contains rows r → Has s r)
given_has rows s made r =
    let d = is_member-Decides (tie_decides row_total row_exact) rows r in
    ((λ h. d.0 (sym (made r) ∙ h)), λ h. made r ∙ d.1 h)

-- given rows that have the same set are just those of the paths
pub are_rows : (w : Records) (rows : List PathRow) (given wanted : BTreeSet PathRow) → ((r : PathRow) → contains path_row_cmp given r ≡ list_any (eq_by_cmp path_row_cmp r) rows) → HasPathRows w wanted → (HaveSame given wanted → ArePathRows w rows) × (ArePathRows w rows → HaveSame given wanted)
are_rows w rows given wanted made has = (
  λ same r. let g = given_has rows given made r in ((λ c. (has r).0 ((same r).0 (g.1 c))), λ p. g.0 ((same r).1 ((has r).1 p))),
  λ all r. let g = given_has rows given made r in ((λ h. (has r).1 ((all r).0 (g.0 h))), λ h. g.1 ((all r).1 ((has r).0 h))),
)
