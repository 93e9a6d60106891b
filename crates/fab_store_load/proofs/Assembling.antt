-- A map that is made entry by entry from the entries of another and what is left of their parts.
use Rattle.std.proofs.Common.{◌≡◌, List, [], ◌∷◌, ◌++◌, Option, None, Some, Bool, true, false, cond, refl, sym, ap, ◌∙◌, subst}
use Rattle.std.specs.declared.cmp.Ordering.{Ordering}
use Rattle.std.specs.BTreeMap.{is_at}
use Rattle.std.specs.Cmp.{IsTotalOrder, Equal-is, eq_by_cmp_equiv}
use Rattle.std.specs.FinSet as set
use Rattle.std.specs.declared.cmp.Ordering.TheVariants.{Less}
use Rattle.std.specs.Ordering.{is_eq}
use Rattle.std.specs.List.{AllByRecursion}
use Rattle.std.specs.List.Sorted.{IsStrictlySortedBy}
use Rattle.std.proofs.lemmas.Map.Entries.{lookup_tail}
use Rattle.std.proofs.lemmas.Map.Keys.{sorted_head, sorted_tail}
use Rattle.std.specs.Map.{lookup, keys_of}
use Rattle.std.specs.Option.{option_map}

-- a look-up that does not find the last entry
look_past : {K X : Type 0} (test : K → Bool) (es : List (K × X)) (e : K × X) → test e.0 ≡ false → lookup test (es ++ e ∷ []) ≡ lookup test es
look_past test [] e not = ap (λ b. cond b (Some e.1) None) not
look_past test (d ∷ es) e not = ap (cond (test d.0) (Some d.1)) (look_past test es e not)

-- a look-up that finds the last entry, and none before it
look_last : {K X : Type 0} (test : K → Bool) (es : List (K × X)) (e : K × X) → lookup test es ≡ None → test e.0 ≡ true → lookup test (es ++ e ∷ []) ≡ Some e.1
look_last test [] e none is = ap (λ b. cond b (Some e.1) None) is
look_last test (d ∷ es) e none is = by (test d.0) (λ gone. look_last test es e gone is) none
  where
    by : (b : Bool) → (lookup test es ≡ None → lookup test (es ++ e ∷ []) ≡ Some e.1) → cond b (Some d.1) (lookup test es) ≡ None → cond b (Some d.1) (lookup test (es ++ e ∷ [])) ≡ Some e.1
    by true later gone = absurd cc
    by false later gone = later gone

-- so far the map has what is made of the entries before, and the parts of the others are as at first
pub record IsAssembled {K Y V : Type 0} (R : K → K → Ordering) (first : K → Y → V) (before : List (K × Y)) (made : K → Option V) (left : K → Y → V) : Type 0 where
  pub made_is : (q : K) → made q ≡ option_map (first q) (lookup (is_at (R q)) before)
  pub left_is : (q : K) → lookup (is_at (R q)) before ≡ None → (y : Y) → left q y ≡ first q y

module _ {K Y V : Type 0} {R : K → K → Ordering} (o : IsTotalOrder R) (exact : set.IsAntisymmetric R) (first : K → Y → V) where
  -- nothing is made yet
  pub nothing_made : (made : K → Option V) → ((q : K) → made q ≡ None) → IsAssembled R first [] made first
  nothing_made made none = record { made_is = none; left_is = λ q gone y. refl }

  middle : (P : K → Type 0) (before : List (K × Y)) (e : K × Y) (more : List (K × Y)) → AllByRecursion P (keys_of (before ++ e ∷ more)) → P e.0
  middle P [] e more h = h.0
  middle P (b ∷ before) e more h = middle P before e more h.1

  not_in : (before more : List (K × Y)) (e : K × Y) → IsStrictlySortedBy R (keys_of (before ++ e ∷ more)) → lookup (is_at (R e.0)) before ≡ None
  not_in [] more e h = refl
  not_in (b ∷ before) more e h =
      let less : R b.0 e.0 ≡ Less = middle (λ y. R b.0 y ≡ Less) before e more (sorted_head R b.0 (keys_of (before ++ e ∷ more)) h) in
      lookup_tail (is_at (R e.0)) b before ((eq_by_cmp_equiv o).symm e.0 b.0 ∙ ap is_eq less) ∙ not_in before more e (sorted_tail R b.0 (keys_of (before ++ e ∷ more)) h)

  -- no entry before one of a strictly sorted list has its key
  pub not_before : (es before it more : List (K × Y)) (e : K × Y) → es ≡ before ++ it → it ≡ e ∷ more → IsStrictlySortedBy R (keys_of es) → lookup (is_at (R e.0)) before ≡ None
  not_before es before it more e so_far next sorted = not_in before more e (subst (λ xs. IsStrictlySortedBy R (keys_of xs)) (so_far ∙ ap (λ xs. before ++ xs) next) sorted)

  -- one entry more
  pub one_made : (before : List (K × Y)) (e : K × Y) (made next : K → Option V) (left after : K → Y → V) (v : V) → lookup (is_at (R e.0)) before ≡ None → IsAssembled R first before made left → v ≡ left e.0 e.1
      → ((q : K) (y : Y) → is_at (R e.0) q ≡ false → after q y ≡ left q y) → ((q : K) → next q ≡ cond (is_at (R e.0) q) (Some v) (made q)) → IsAssembled R first (before ++ e ∷ []) next after
  one_made before e made next left after v fresh h is rest updates = record {
    made_is = λ q. updates q ∙ by q (is_at (R e.0) q) refl;
    left_is = λ q gone y. still q y (is_at (R e.0) q) refl gone;
  }
    where
      turned : (q : K) (b : Bool) → is_at (R e.0) q ≡ b → is_at (R q) e.0 ≡ b
      turned q b at = (eq_by_cmp_equiv o).symm q e.0 ∙ at

      same_key : (q : K) → is_at (R e.0) q ≡ true → e.0 ≡ q
      same_key q at = exact e.0 q ((Equal-is (R e.0 q)).0 at)

      by : (q : K) (b : Bool) → is_at (R e.0) q ≡ b → cond b (Some v) (made q) ≡ option_map (first q) (lookup (is_at (R q)) (before ++ e ∷ []))
      by q true at =
          let same = same_key q at in
          let none : lookup (is_at (R q)) before ≡ None = subst (λ k. lookup (is_at (R k)) before ≡ None) same fresh in
          ap Some (is ∙ h.left_is e.0 fresh e.1 ∙ ap (λ k. first k e.1) same) ∙ sym (ap (option_map (first q)) (look_last (is_at (R q)) before e none (turned q true at)))
      by q false at = h.made_is q ∙ sym (ap (option_map (first q)) (look_past (is_at (R q)) before e (turned q false at)))

      still : (q : K) (y : Y) (b : Bool) → is_at (R e.0) q ≡ b → lookup (is_at (R q)) (before ++ e ∷ []) ≡ None → after q y ≡ first q y
      still q y true at gone =
          let same = same_key q at in
          let none : lookup (is_at (R q)) before ≡ None = subst (λ k. lookup (is_at (R k)) before ≡ None) same fresh in
          let there : lookup (is_at (R q)) (before ++ e ∷ []) ≡ Some e.1 = look_last (is_at (R q)) before e none (turned q true at) in
          let clash : ◌≡◌ {A = Option Y} None (Some e.1) = sym gone ∙ there in absurd cc
      still q y false at gone = rest q y at ∙ h.left_is q (sym (look_past (is_at (R q)) before e (turned q false at)) ∙ gone) y

  -- at the end all are made
  pub all_made : (es before : List (K × Y)) (made : K → Option V) (left : K → Y → V) → before ≡ es → IsAssembled R first before made left → (q : K) → made q ≡ option_map (first q) (lookup (is_at (R q)) es)
  all_made es before made left whole h q = h.made_is q ∙ ap (λ xs. option_map (first q) (lookup (is_at (R q)) xs)) whole
