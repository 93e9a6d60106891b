-- What is known of each port, made of its seat and its address.
use Rattle.std.proofs.Common.{ℕ, ◌≡◌, List, [], ◌∷◌, ◌++◌, Contains, Option, None, Some, is_some, Bool, true, false, cond, refl, sym, ap, ◌∙◌, subst, arith, inl, inr}
use mathlib.Core.Bool.{true≢false}
use Rattle.std.specs.Ordering.{nat_cmp}
use Rattle.std.specs.Cmp.{nat_cmp_total}
use Rattle.std.specs.FinSet as set
use Rattle.std.specs.BTreeMap.{BTreeMap, IsOrdered, get, keys, is_at}
use Rattle.std.specs.List.{list_all}
use Rattle.std.proofs.lemmas.Bool.Decides.{eqb_tells}
use Rattle.std.proofs.lemmas.Map.Views.{btree_map_get_iff}
use Rattle.std.proofs.lemmas.List.Elements.{Contains-push_cases, Contains-push, Contains-append_left}
use Rattle.fab_inventory.specs.declared.port.Known.{Known}
use Rattle.fab_inventory.specs.declared.port.Seat.{Seat}
use Rattle.fab_inventory.specs.Restores.{seated, AreSeated}
use Rattle.fab_inventory.specs.RestoreTests.{is_seated}
use Rattle.fab_lemmas.proofs.KeyTests.{key_passes, each_key_passes}
use Rattle.fab_inventory.proofs.Steps.{is_at_eqb}

-- ---- ports made so far

-- the ports are those of these seats, and no others
pub record Seats (addresses : ℕ → Option ℕ) (es : List (ℕ × Seat)) (ports : ℕ → Option Known) : Type 0 where
  pub at : (e : ℕ × Seat) → Contains es e → ports e.0 ≡ seated (Some e.1) (addresses e.0)
  pub else : (q : ℕ) → ((e : ℕ × Seat) → Contains es e → ¬ (e.0 ≡ q)) → ports q ≡ None

module _ (addresses : ℕ → Option ℕ) where
  pub seats_none : (ports : ℕ → Option Known) → ((q : ℕ) → ports q ≡ None) → Seats addresses [] ports
  seats_none ports empty = record { at = λ e h. absurd (omega (arith, h.1)); else = λ q none. empty q }

  module _ (t : BTreeMap ℕ Seat) (ordered : IsOrdered nat_cmp t) where
    found : (q : ℕ) (s : Seat) → Contains t.entries (q, s) → get nat_cmp t q ≡ Some s
    found q s h = (btree_map_get_iff nat_cmp_total set.nat_cmp-IsAntisymmetric t ordered q s).1 h

    same_seat : (e x : ℕ × Seat) → Contains t.entries e → Contains t.entries x → e.0 ≡ x.0 → x.1 ≡ e.1
    same_seat e x in_e in_x same = let f : Some x.1 ≡ Some e.1 = sym (found x.0 x.1 in_x) ∙ ap (get nat_cmp t) (sym same) ∙ found e.0 e.1 in_e in cc

    pub seats_more : (before more : List (ℕ × Seat)) (e : ℕ × Seat) (old new : ℕ → Option Known) → t.entries ≡ (before ++ e ∷ []) ++ more → Seats addresses before old
        → ((q : ℕ) → new q ≡ cond (is_at (nat_cmp e.0) q) (seated (Some e.1) (addresses e.0)) (old q)) → Seats addresses (before ++ e ∷ []) new
    seats_more before more e old new whole seats updates = record {
      at = λ x in_x. updates x.0 ∙ ap (λ b. cond b (seated (Some e.1) (addresses e.0)) (old x.0)) (is_at_eqb e.0 x.0) ∙ elim (eqb_tells e.0 x.0) [
        | inl is ↦ ap (λ b. cond b (seated (Some e.1) (addresses e.0)) (old x.0)) is.0 ∙ (λ i. seated (Some (same_seat x e (inside x in_x) (inside e here) (sym is.1) i)) (addresses (is.1 i)))
        | inr apart ↦ ap (λ b. cond b (seated (Some e.1) (addresses e.0)) (old x.0)) apart.0 ∙ elim (Contains-push_cases before e x in_x) [
          | inl earlier ↦ seats.at x earlier
          | inr same ↦ absurd (apart.1 (ap (λ (y : ℕ × Seat). y.0) same))
        ]
      ];
      else = λ q none. updates q ∙ ap (λ b. cond b (seated (Some e.1) (addresses e.0)) (old q)) (is_at_eqb e.0 q) ∙ elim (eqb_tells e.0 q) [
        | inl is ↦ absurd (none e here is.1)
        | inr apart ↦ ap (λ b. cond b (seated (Some e.1) (addresses e.0)) (old q)) apart.0 ∙ seats.else q (λ x in_x. none x (Contains-append_left before _ x in_x))
      ];
    }
      where
        here : Contains (before ++ e ∷ []) e
        here = Contains-push before e

        inside : (x : ℕ × Seat) → Contains (before ++ e ∷ []) x → Contains t.entries x
        inside x h = subst (λ xs. Contains xs x) (sym whole) (Contains-append_left (before ++ e ∷ []) more x h)

    pub seats_all : (before : List (ℕ × Seat)) (ports : ℕ → Option Known) → before ≡ t.entries → Seats addresses before ports → (q : ℕ) → ports q ≡ seated (get nat_cmp t q) (addresses q)
    seats_all before ports is seats q = by (get nat_cmp t q) refl
      where
        by : (o : Option Seat) → get nat_cmp t q ≡ o → ports q ≡ seated (get nat_cmp t q) (addresses q)
        by None at = seats.else q (λ e in_e same. let f : ◌≡◌ {A = Option Seat} None (Some e.1) = sym at ∙ ap (get nat_cmp t) (sym same) ∙ found e.0 e.1 (subst (λ xs. Contains xs e) is in_e) in cc) ∙ ap (λ o. seated o (addresses q)) (sym at)
        by (Some s) at = seats.at (q, s) (subst (λ xs. Contains xs (q, s)) (sym is) ((btree_map_get_iff nat_cmp_total set.nat_cmp-IsAntisymmetric t ordered q s).0 at)) ∙ ap (λ o. seated o (addresses q)) (sym at)

-- ---- which addresses are seated

-- ports that are made so have an address only where they are logged in
pub no_address : (seats : ℕ → Option Seat) (addresses : ℕ → Option ℕ) → AreSeated seats addresses → (q : ℕ) (k : Known) → seated (seats q) (addresses q) ≡ Some k → k.at ≡ None → k.address ≡ None
no_address seats addresses all q k e nowhere = by (seats q) (addresses q) refl refl e
  where
    by : (o : Option Seat) (a : Option ℕ) → seats q ≡ o → addresses q ≡ a → seated o a ≡ Some k → k.address ≡ None
    by None a at address f = absurd cc
    by (Some s) None at address f = let same : ◌≡◌ {A = Known} (record { node = s.node; at = s.at; address = None; holder = s.holder }) k = cc in ap (λ (x : Known). x.address) (sym same)
    by (Some s) (Some n) at address f =
        let same : ◌≡◌ {A = Known} (record { node = s.node; at = s.at; address = Some n; holder = s.holder }) k = cc in
        let seat = all q n address in
        let is : seat.0 ≡ s = (let g : Some seat.0 ≡ Some s = sym seat.1 ∙ at in cc) in
        absurd (true≢false (sym seat.2 ∙ ap (λ (x : Seat). is_some x.at) is ∙ ap (λ (x : Known). is_some x.at) same ∙ ap is_some nowhere))

-- the test of each port that has an address
module _ (seats : BTreeMap ℕ Seat) (addresses : BTreeMap ℕ ℕ) where
  abbrev at_seat : ℕ → Bool
  at_seat q = is_seated (get nat_cmp seats q)

  pub seated_from_test : list_all at_seat (keys addresses) ≡ true → AreSeated (get nat_cmp seats) (get nat_cmp addresses)
  seated_from_test all q n is = by (get nat_cmp seats q) refl (key_passes nat_cmp_total set.nat_cmp-IsAntisymmetric at_seat addresses.entries all q n is)
    where
      by : (o : Option Seat) → get nat_cmp seats q ≡ o → is_seated (get nat_cmp seats q) ≡ true → (s : Seat) × (get nat_cmp seats q ≡ Some s) × (is_some s.at ≡ true)
      by None at t = absurd (true≢false (sym t ∙ ap is_seated at))
      by (Some s) at t = (s, at, sym (ap is_seated at) ∙ t)

  pub test_from_seated : AreSeated (get nat_cmp seats) (get nat_cmp addresses) → list_all at_seat (keys addresses) ≡ true
  test_from_seated all = each_key_passes nat_cmp_total set.nat_cmp-IsAntisymmetric at_seat addresses.entries (λ q n is. let seat = all q n is in ap is_seated seat.1 ∙ seat.2)
