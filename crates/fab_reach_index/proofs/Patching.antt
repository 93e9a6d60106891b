-- Maps of sets, once they have the new sets of some keys.
use Rattle.std.proofs.Common.{◌≡◌, List, [], ◌∷◌, ◌++◌, Bool, true, false, cond, Contains, Option, None, Some, inl, inr, refl, sym, ap, ◌∙◌, subst, arith}
use mathlib.Core.Bool.{true≢false}
use Rattle.std.specs.declared.cmp.Ordering.{Ordering}
use Rattle.std.specs.Ordering.{is_eq}
use Rattle.std.specs.Cmp.{IsTotalOrder, Equal-is, tied_itself}
use Rattle.std.specs.FinSet as set
use Rattle.std.specs.Option.{IsSome}
use Rattle.std.specs.BTreeMap.{BTreeMap, IsOrdered, get, is_at}
use Rattle.std.specs.BTreeSet.{BTreeSet}
use Rattle.std.proofs.lemmas.Map.Views.{btree_map_get_iff}
use Rattle.std.proofs.lemmas.List.Elements.{Contains-push_cases, Contains-append_left, Contains-append_right, Contains-push}
use Rattle.fab_lemmas.specs.MapsOfSets.{in_tree, tree_has}
use Rattle.fab_reach_books.specs.Renewed.{set_or, patched}

tied : {Q : Type 0} {O : Q → Q → Ordering} → set.IsAntisymmetric O → (x y : Q) → is_at (O x) y ≡ true → x ≡ y
tied {O} exact x y e = exact x y ((Equal-is (O x y)).0 e)

module _ {Q K : Type 0} {O : Q → Q → Ordering} (R : K → K → Ordering) (exact : set.IsAntisymmetric O) where
  -- the set at a key was taken out, and it was empty
  pub cleared : (key : Q) (old new : BTreeMap Q (BTreeSet K)) → ((q : Q) → get O new q ≡ cond (is_at (O key) q) None (get O old q)) → ((k : K) → tree_has O R old key k ≡ false) → (q : Q) (k : K) → tree_has O R new q k ≡ tree_has O R old q k
  cleared key old new updates none q k = case (is_at (O key) q) refl
    where
      taken : (b : Bool) → is_at (O key) q ≡ b → tree_has O R new q k ≡ in_tree R (cond b None (get O old q)) k
      taken b is = ap (λ (t : Option (BTreeSet K)). in_tree R t k) (updates q) ∙ ap (λ (x : Bool). in_tree R (cond x None (get O old q)) k) is

      case : (b : Bool) → is_at (O key) q ≡ b → tree_has O R new q k ≡ tree_has O R old q k
      case true is = taken true is ∙ sym (none k) ∙ ap (λ (p : Q). tree_has O R old p k) (tied exact key q is)
      case false is = taken false is

module _ {Q : Type 0} {O : Q → Q → Ordering} (o : IsTotalOrder O) (exact : set.IsAntisymmetric O) {S L : Type 0} where
  -- the keys of these entries have places
  abbrev pub HavePlaces : List (Q × S) → BTreeMap Q L → Type 0
  HavePlaces es map = (e : Q × S) → Contains es e → IsSome (get O map e.0)

  pub places_more : (before : List (Q × S)) (e : Q × S) (old new : BTreeMap Q L) → HavePlaces before old → ((q : Q) → IsSome (get O old q) → IsSome (get O new q)) → IsSome (get O new e.0) → HavePlaces (before ++ e ∷ []) new
  places_more before e old new have stays here x h = elim (Contains-push_cases before e x h) [
    | inl b ↦ stays x.0 (have x b)
    | inr is ↦ subst (λ (y : Q × S). IsSome (get O new y.0)) is here
  ]

  pub places_all : (patch : BTreeMap Q S) (before : List (Q × S)) (map : BTreeMap Q L) → IsOrdered O patch → before ≡ patch.entries → HavePlaces before map → ((q : Q) → IsSome (get O patch q) → IsSome (get O map q))
  places_all patch before map ordered is have q there = case (get O patch q) refl there
    where
      case : (f : Option S) → get O patch q ≡ f → IsSome f → IsSome (get O map q)
      case None at h = absurd (true≢false (sym h))
      case (Some s) at h = have (q, s) (subst (λ es. Contains es (q, s)) (sym is) ((btree_map_get_iff o exact patch ordered q s).0 at))

module _ {Q : Type 0} {O : Q → Q → Ordering} (o : IsTotalOrder O) (exact : set.IsAntisymmetric O) {S : Type 0} where
  -- these entries were put into the map, and nothing else
  pub record Puts (es : List (Q × S)) (old new : BTreeMap Q S) : Type 0 where
    pub at : (e : Q × S) → Contains es e → get O new e.0 ≡ Some e.1
    pub else : (q : Q) → ((e : Q × S) → Contains es e → ¬ (e.0 ≡ q)) → get O new q ≡ get O old q
    pub stays : (q : Q) → IsSome (get O old q) → IsSome (get O new q)

  no_item : (e : Q × S) → Contains [] e → ⊥
  no_item e h = let l = h.1 in omega arith

  pub puts_none : (old : BTreeMap Q S) → Puts [] old old
  puts_none old = record { at = λ e h. absurd (no_item e h); else = λ q none. refl; stays = λ q h. h }

  pub puts_more : (patch : BTreeMap Q S) (before : List (Q × S)) (e : Q × S) (old mid new : BTreeMap Q S) → IsOrdered O patch → ((x : Q × S) → Contains before x → Contains patch.entries x) → Contains patch.entries e
      → Puts before old mid → ((q : Q) → get O new q ≡ cond (is_at (O e.0) q) (Some e.1) (get O mid q)) → Puts (before ++ e ∷ []) old new
  puts_more patch before e old mid new ordered among here p put = record {
    at = λ x h. elim (Contains-push_cases before e x h) [
      | inl b ↦ put x.0 ∙ earlier x b (is_at (O e.0) x.0) refl
      | inr is ↦ subst (λ (y : Q × S). get O new y.0 ≡ Some y.1) is (put e.0 ∙ ap (λ b. cond b (Some e.1) (get O mid e.0)) (ap is_eq (tied_itself o e.0)))
    ];
    else = λ q none. put q ∙ other q none (is_at (O e.0) q) refl;
    stays = λ q h. subst IsSome (sym (put q)) (still (is_at (O e.0) q) q (p.stays q h));
  }
    where
      earlier : (x : Q × S) → Contains before x → (b : Bool) → is_at (O e.0) x.0 ≡ b → cond b (Some e.1) (get O mid x.0) ≡ Some x.1
      earlier x h true is =
          let same : e.0 ≡ x.0 = tied exact e.0 x.0 is in
          sym ((btree_map_get_iff o exact patch ordered e.0 e.1).1 here) ∙ ap (get O patch) same ∙ (btree_map_get_iff o exact patch ordered x.0 x.1).1 (among x h)
      earlier x h false is = p.at x h

      other : (q : Q) → ((x : Q × S) → Contains (before ++ e ∷ []) x → ¬ (x.0 ≡ q)) → (b : Bool) → is_at (O e.0) q ≡ b → cond b (Some e.1) (get O mid q) ≡ get O old q
      other q none true is = absurd (none e (Contains-push before e) (tied exact e.0 q is))
      other q none false is = p.else q (λ x h. none x (Contains-append_left before (e ∷ []) x h))

      still : (b : Bool) (q : Q) → IsSome (get O mid q) → IsSome (cond b (Some e.1) (get O mid q))
      still true q h = refl
      still false q h = h

module _ {Q K : Type 0} {O : Q → Q → Ordering} (R : K → K → Ordering) (o : IsTotalOrder O) (exact : set.IsAntisymmetric O) where
  pub puts_all : (patch old new : BTreeMap Q (BTreeSet K)) (before : List (Q × BTreeSet K)) → IsOrdered O patch → before ≡ patch.entries → Puts o exact before old new
      → (q : Q) (k : K) → tree_has O R new q k ≡ patched O R patch old q k
  puts_all patch old new before ordered is p q k = case (get O patch q) refl
    where
      case : (f : Option (BTreeSet K)) → get O patch q ≡ f → tree_has O R new q k ≡ set_or R f (tree_has O R old q k) k
      case None at = ap (λ s. in_tree R s k) (p.else q (λ e h same. let there : get O patch e.0 ≡ Some e.1 = (btree_map_get_iff o exact patch ordered e.0 e.1).1 (subst (λ es. Contains es e) is h) in let f : ◌≡◌ {A = Option (BTreeSet K)} None (Some e.1) = sym at ∙ ap (get O patch) (sym same) ∙ there in absurd cc))
      case (Some s) at = ap (λ t. in_tree R t k) (p.at (q, s) (subst (λ es. Contains es (q, s)) (sym is) ((btree_map_get_iff o exact patch ordered q s).0 at)))

-- ---- the items of a walk are among the entries

module _ {X : Type 0} where
  pub among_first : (es before it : List X) → es ≡ before ++ it → (x : X) → Contains before x → Contains es x
  among_first es before it is x h = subst (λ ys. Contains ys x) (sym is) (Contains-append_left before it x h)

  pub among_next : (es before it more : List X) (e : X) → es ≡ before ++ it → it ≡ e ∷ more → Contains es e
  among_next es before it more e is next = subst (λ ys. Contains ys e) (sym is) (Contains-append_right before it e (subst (λ ys. Contains ys e) (sym next) (Contains-append_left (e ∷ []) more e (Contains-push [] e))))

module _ {Q : Type 0} {O : Q → Q → Ordering} (o : IsTotalOrder O) (exact : set.IsAntisymmetric O) {S : Type 0} where
  pub has_place : (patch : BTreeMap Q S) (e : Q × S) → IsOrdered O patch → Contains patch.entries e → IsSome (get O patch e.0)
  has_place patch e ordered h = subst IsSome (sym ((btree_map_get_iff o exact patch ordered e.0 e.1).1 h)) refl

  -- the key that was put has a place
  pub placed_here : (key : Q) (s : S) (t u : BTreeMap Q S) → ((q : Q) → get O u q ≡ cond (is_at (O key) q) (Some s) (get O t q)) → IsSome (get O u key)
  placed_here key s t u updates = subst IsSome (sym (updates key ∙ ap (λ b. cond b (Some s) (get O t key)) (ap is_eq (tied_itself o key)))) refl
