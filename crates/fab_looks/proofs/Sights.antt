-- Hosts that a caller sees, host by host.
use Rattle.std.proofs.Common.{◌≡◌, ℕ, List, [], ◌∷◌, ◌++◌, Contains, Bool, true, false, cond, Option, None, Some, inl, inr, refl, sym, ap, ◌∙◌, subst, arith}
use Rattle.std.specs.Ordering.{is_eq}
use Rattle.std.specs.Cmp.{Equal-is, tied_itself}
use Rattle.std.specs.BTreeMap.{BTreeMap, get, is_at, IsOrdered}
use Rattle.std.specs.Map.{lookup}
use Rattle.std.proofs.lemmas.List.Elements.{Contains-push_cases, Contains-append_left, Contains-push}
use Rattle.std.proofs.lemmas.Map.Views.{btree_map_get_iff}
use Rattle.fab_reach_base.specs.fab_names.Orders.{name_cmp}
use Rattle.fab_reach_base.proofs.fab_names.OrderLaws.{name_total, name_exact}
use Rattle.fab_looks.specs.declared.reaching.Counts.{Counts}
use Rattle.fab_policy.specs.fab_policy_base.Policies.{PolicyRows}
use Rattle.fab_world.specs.Worlds.{WorldRows, records_of}
use Rattle.fab_looks.specs.Reachers.{AreReachers}
use Rattle.fab_looks.specs.Told.{SeesHost, SeesVolume}
use Rattle.fab_looks.specs.Seeing.{AreTold}
use Rattle.fab_looks.specs.Inner.Seen.{AreSeen}

module _ (S : List ℕ → Type 0) where
  -- what was taken of the entries so far
  pub record SeenSoFar (before : List (List ℕ × Counts)) (m : BTreeMap (List ℕ) Counts) : Type 0 where
    pub sound : (host : List ℕ) (n : Counts) → get name_cmp m host ≡ Some n → Contains before (host, n) × S host
    pub there : (host : List ℕ) (n : Counts) → Contains before (host, n) → S host → (o : Counts) × (get name_cmp m host ≡ Some o)

  pub seen_none : (m : BTreeMap (List ℕ) Counts) → ((q : List ℕ) → get name_cmp m q ≡ None) → SeenSoFar [] m
  seen_none m none = record {
    sound = λ h n at. let e : ◌≡◌ {A = Option Counts} None (Some n) = sym (none h) ∙ at in absurd cc;
    there = λ h n c s. let e : ⊥ = omega (arith, c.1) in absurd e;
  }

  pub seen_skip : (before : List (List ℕ × Counts)) (e : List ℕ × Counts) (m : BTreeMap (List ℕ) Counts) → ¬ S e.0 → SeenSoFar before m → SeenSoFar (before ++ e ∷ []) m
  seen_skip before e m none a = record {
    sound = λ h n at. let k = a.sound h n at in (Contains-append_left before (e ∷ []) (h, n) k.0, k.1);
    there = λ h n c s. elim (Contains-push_cases before e (h, n) c) [
      | inl o ↦ a.there h n o s
      | inr is ↦ absurd (none (subst S (sym (ap (λ (x : List ℕ × Counts). x.0) is)) s))
    ];
  }

  same_name : (a b : List ℕ) → is_at (name_cmp a) b ≡ true → a ≡ b
  same_name a b h = name_exact a b ((Equal-is (name_cmp a b)).0 h)

  pub seen_more : (before : List (List ℕ × Counts)) (e : List ℕ × Counts) (m t : BTreeMap (List ℕ) Counts) → S e.0 → ((q : List ℕ) → get name_cmp t q ≡ cond (is_at (name_cmp e.0) q) (Some e.1) (get name_cmp m q)) → SeenSoFar before m → SeenSoFar (before ++ e ∷ []) t
  seen_more before e m t s updates a = record {
    sound = λ h n at. came h n (is_at (name_cmp e.0) h) refl (sym (updates h) ∙ at);
    there = λ h n c sees. let r = stays h n (is_at (name_cmp e.0) h) refl c sees in (r.0, updates h ∙ r.1);
  }
    where
      came : (h : List ℕ) (n : Counts) (b : Bool) → is_at (name_cmp e.0) h ≡ b → cond b (Some e.1) (get name_cmp m h) ≡ Some n → Contains (before ++ e ∷ []) (h, n) × S h
      came h n true is at =
          let same : e.1 ≡ n = cc in
          let name = same_name e.0 h is in
          (subst (Contains (before ++ e ∷ [])) (λ i. (name i, same i)) (Contains-push before e), subst S name s)
      came h n false is at = let k = a.sound h n at in (Contains-append_left before (e ∷ []) (h, n) k.0, k.1)

      stays : (h : List ℕ) (n : Counts) (b : Bool) → is_at (name_cmp e.0) h ≡ b → Contains (before ++ e ∷ []) (h, n) → S h → (o : Counts) × (cond b (Some e.1) (get name_cmp m h) ≡ Some o)
      stays h n true is c sees = (e.1, refl)
      stays h n false is c sees = elim (Contains-push_cases before e (h, n) c) [
        | inl o ↦ a.there h n o sees
        | inr same ↦ (
            let tie : is_at (name_cmp e.0) h ≡ true = ap (is_at (name_cmp e.0)) (sym (ap (λ (x : List ℕ × Counts). x.0) same)) ∙ ap is_eq (tied_itself name_total e.0) in
            let f : ◌≡◌ {A = Bool} true false = sym tie ∙ is in absurd cc
            )
      ]

  pub seen_all : (from m : BTreeMap (List ℕ) Counts) (before : List (List ℕ × Counts)) → IsOrdered name_cmp from → before ≡ from.entries → SeenSoFar before m → AreSeen S from m
  seen_all from m before sorted is a = record {
    sound = λ h n at. let k = a.sound h n at in ((btree_map_get_iff name_total name_exact from sorted h n).1 (subst (λ ys. Contains ys (h, n)) is k.0), k.1);
    complete = λ h n at s. a.there h n (subst (λ ys. Contains ys (h, n)) (sym is) ((btree_map_get_iff name_total name_exact from sorted h n).0 at)) s;
  }

-- by the world
pub told_seen : (p : PolicyRows) (w : WorldRows) (id : ℕ) (volume : List ℕ) (from m : BTreeMap (List ℕ) Counts) → SeesVolume p w id volume → AreReachers (records_of w) volume from → AreSeen (SeesHost p w id) from m → AreTold p w id volume m
told_seen p w id volume from m own reached seen = record {
  volume_is_own = λ h n at. own;
  host_is_own = λ h n at. (seen.sound h n at).1;
  sound = λ h n at. reached.sound h n (seen.sound h n at).0;
  complete = λ _ h s r. let k = reached.complete h r in seen.complete h k.0 k.1 s;
}

pub told_nobody : (p : PolicyRows) (w : WorldRows) (id : ℕ) (volume : List ℕ) (m : BTreeMap (List ℕ) Counts) → ¬ SeesVolume p w id volume → ((q : List ℕ) → get name_cmp m q ≡ None) → AreTold p w id volume m
told_nobody p w id volume m not_own none = record {
  volume_is_own = λ h n at. absurd (nobody h n at);
  host_is_own = λ h n at. absurd (nobody h n at);
  sound = λ h n at. absurd (nobody h n at);
  complete = λ own h s r. absurd (not_own own);
}
  where
    nobody : (h : List ℕ) (n : Counts) → ¬ (get name_cmp m h ≡ Some n)
    nobody h n at = let e : ◌≡◌ {A = Option Counts} None (Some n) = sym (none h) ∙ at in absurd cc

-- a map of nothing
pub empty_get : (m : BTreeMap (List ℕ) Counts) → m.entries ≡ [] → (q : List ℕ) → get name_cmp m q ≡ None
empty_get m none q = ap (λ (es : List (List ℕ × Counts)). lookup (is_at (name_cmp q)) es) none
