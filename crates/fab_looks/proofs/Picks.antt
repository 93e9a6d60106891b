-- Keys that are picked from others, in their order, and reads that are appended.
use Rattle.std.proofs.Common.{◌≡◌, ◌⊎◌, inl, inr, ℕ, List, [], ◌∷◌, ◌++◌, map, Contains, refl, sym, ap, ◌∙◌, subst, arith}
use Rattle.std.specs.declared.cmp.Ordering.{Ordering}
use Rattle.std.specs.declared.cmp.Ordering.TheVariants.{Less}
use Rattle.std.specs.List.{AllByRecursion}
use Rattle.std.specs.List.Sorted.{IsStrictlySortedBy}
use Rattle.std.proofs.lemmas.List.{append-nil, append_assoc, map-append}
use Rattle.std.proofs.lemmas.List.Elements.{Contains-push_cases, Contains-append_left, Contains-push}
use Rattle.fab_reach_base.specs.fab_lemmas.Lists.{IsListOf}
use Rattle.fab_reach_base.specs.fab_names.Orders.{name_cmp}
use Rattle.fab_desk_base.proofs.Lists.{below_next, each_of, later, here, none_there, sorted_push}
use Rattle.fab_desk_base.specs.declared.command.Query.{Query}
use Rattle.fab_desk_base.specs.declared.command.Query.TheVariants as query
use Rattle.fab_looks.specs.Ways.{IsOneAtMost}
use Rattle.fab_looks.specs.Inner.Gathered.{Appends}

-- what has P of what all have
pub each_has : {X : Type 0} (P : X → Type 0) (xs : List X) → ((x : X) → Contains xs x → P x) → AllByRecursion P xs
each_has P [] f = tt
each_has P (x ∷ xs) f = (f x (here x xs), each_has P xs (λ y c. f y (later x xs y c)))

-- ---- one at most

module _ {X : Type 0} (P : X → Type 0) where
  pub one_none : (xs : List X) → xs ≡ [] → ((x : X) → ¬ P x) → IsOneAtMost P xs
  one_none xs is none = subst (IsOneAtMost P) (sym is) ((λ x. ((λ c. absurd (none_there x c)), λ h. absurd (none x h))), omega arith)

  pub one_only : (xs : List X) (x : X) → xs ≡ x ∷ [] → P x → ((y : X) → P y → y ≡ x) → IsOneAtMost P xs
  one_only xs x is has only = subst (IsOneAtMost P) (sym is) (
    (λ y. (
      (λ c. elim (Contains-push_cases [] x y c) [ inl none ↦ absurd (none_there y none) | inr e ↦ subst P e has ]),
      λ h. subst (Contains (x ∷ [])) (sym (only y h)) (here x []),
    )),
    omega arith,
  )

  -- there is none, or one
  pub one_cases : (xs : List X) → IsOneAtMost P xs → ((xs ≡ []) × ((x : X) → ¬ P x)) ⊎ ((x : X) × (xs ≡ x ∷ []) × P x)
  one_cases [] one = inl (refl, λ x h. none_there x ((one.0 x).1 h))
  one_cases (x ∷ []) one = inr (x, refl, (one.0 x).0 (here x []))
  one_cases (x ∷ y ∷ xs) one = absurd (omega (arith, one.1))

  -- the same, said otherwise
  pub one_as : (Q : X → Type 0) (xs : List X) → ((x : X) → P x → Q x) → ((x : X) → Q x → P x) → IsOneAtMost P xs → IsOneAtMost Q xs
  one_as Q xs to from one = ((λ x. ((λ c. to x ((one.0 x).0 c)), λ h. (one.0 x).1 (from x h))), one.1)

-- ---- keys

module _ {K : Type 0} (R : K → K → Ordering) (P : K → Type 0) where
  -- just those with P of the keys so far, in order
  abbrev pub Picks : List K → List K → Type 0
  Picks before ks = IsListOf R (λ k. Contains before k × P k) ks

  pub picks_none : Picks [] []
  unfolding IsStrictlySortedBy
  picks_none = record { sorted = tt; sound = λ k c. absurd (none_there k c); complete = λ k h. absurd (none_there k h.0) }

  -- a key without P
  pub picks_skip : (before : List K) (k : K) (ks : List K) → ¬ P k → Picks before ks → Picks (before ++ k ∷ []) ks
  picks_skip before k ks none so = record {
    sorted = so.sorted;
    sound = λ j c. let s = so.sound j c in (Contains-append_left before (k ∷ []) j s.0, s.1);
    complete = λ j h. elim (Contains-push_cases before k j h.0) [ inl there ↦ so.complete j (there, h.1) | inr is ↦ absurd (none (subst P (sym is) h.1)) ];
  }

  -- one with P
  pub picks_more : (before more : List K) (k : K) (ks : List K) → IsStrictlySortedBy R (before ++ k ∷ more) → P k → Picks before ks → Picks (before ++ k ∷ []) (ks ++ k ∷ [])
  picks_more before more k ks sorted has so = record {
    sorted = sorted_push R ks k so.sorted (each_has (λ j. R j k ≡ Less) ks (λ j c. each_of (λ i. R i k ≡ Less) before j (below_next R before more k sorted) (so.sound j c).0));
    sound = λ j c. elim (Contains-push_cases ks k j c) [
      | inl there ↦ let s = so.sound j there in (Contains-append_left before (k ∷ []) j s.0, s.1)
      | inr is ↦ subst (λ i. Contains (before ++ k ∷ []) i × P i) is (Contains-push before k, has)
    ];
    complete = λ j h. elim (Contains-push_cases before k j h.0) [
      | inl there ↦ Contains-append_left ks (k ∷ []) j (so.complete j (there, h.1))
      | inr is ↦ subst (Contains (ks ++ k ∷ [])) is (Contains-push ks k)
    ];
  }

  -- all keys
  pub picks_all : (before all ks : List K) → before ≡ all → ((k : K) → P k → Contains all k) → Picks before ks → IsListOf R P ks
  picks_all before all ks is there so = record {
    sorted = so.sorted;
    sound = λ k c. (so.sound k c).1;
    complete = λ k h. so.complete k (subst (λ (js : List K). Contains js k) (sym is) (there k h), h);
  }

  pub listed_none : (ks : List K) → ks ≡ [] → ((k : K) → ¬ P k) → IsListOf R P ks
  unfolding IsStrictlySortedBy
  listed_none ks is none = subst (IsListOf R P) (sym is) (record { sorted = tt; sound = λ k c. absurd (none_there k c); complete = λ k h. absurd (none k h) })

-- ---- reads

-- none more
pub appends_none : (P : List Query → Type 0) (old : List Query) → P [] → Appends P old old
appends_none P old none = ([], none, sym (append-nil old))

-- the same, said otherwise
pub appends_as : (P Q : List Query → Type 0) (old new : List Query) → ((qs : List Query) → P qs → Q qs) → Appends P old new → Appends Q old new
appends_as P Q old new to a = (a.0, to a.0 a.1, a.2)

-- the reads of the storage groups with P that are picked so far
abbrev pub ArePicked : (List ℕ → Type 0) → List (List ℕ) → List Query → Type 0
ArePicked P before qs = (names : List (List ℕ)) × Picks name_cmp P before names × (qs ≡ map (λ (n : List ℕ). query.Group n) names)

module _ (P : List ℕ → Type 0) where
  pub picked_none : (old : List Query) → Appends (ArePicked P []) old old
  picked_none old = appends_none (ArePicked P []) old ([], picks_none name_cmp P, refl)

  -- a storage group more: its read is there where it has P
  pub picked_more : (Q : Query → Type 0) (before more : List (List ℕ)) (n : List ℕ) (old mid new : List Query) → IsStrictlySortedBy name_cmp (before ++ n ∷ more)
      → ((q : Query) → Q q → P n × (q ≡ query.Group n)) → (P n → Q (query.Group n))
      → Appends (ArePicked P before) old mid → Appends (IsOneAtMost Q) mid new → Appends (ArePicked P (before ++ n ∷ [])) old new
  picked_more Q before more n old mid new sorted to from a b =
      let group = λ (k : List ℕ). query.Group k in
      let names = a.1.0 in
      elim (one_cases Q b.0 b.1) [
        | inl none ↦ (a.0, (names, picks_skip name_cmp P before n names (λ h. none.1 (query.Group n) (from h)) a.1.1, a.1.2), b.2 ∙ ap (λ qs. mid ++ qs) none.0 ∙ append-nil mid ∙ a.2)
        | inr one ↦
            let has = to one.0 one.2 in
            let read : b.0 ≡ query.Group n ∷ [] = one.1 ∙ ap (λ q. q ∷ []) has.1 in (
              a.0 ++ query.Group n ∷ [],
              (names ++ n ∷ [], picks_more name_cmp P before more n names sorted has.0 a.1.1, ap (λ qs. qs ++ query.Group n ∷ []) a.1.2 ∙ sym (map-append group names (n ∷ []))),
              b.2 ∙ ap (λ qs. mid ++ qs) read ∙ ap (λ qs. qs ++ query.Group n ∷ []) a.2 ∙ append_assoc old a.0 (query.Group n ∷ []),
            )
      ]
