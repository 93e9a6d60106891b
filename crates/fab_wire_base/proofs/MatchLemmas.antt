-- A path whose route is found matches the route's pattern.
use Rattle.std.proofs.Common.{◌≡◌, ℕ, zero, suc, ◌-◌, ◌<◌, ◌≤◌, List, [], ◌∷◌, length, drop, take, Bool, true, false, cond, ◌&&◌, ltb, ◌==◌, Option, Some, None, refl, sym, ap, ◌∙◌, subst, arith, take-append-drop}
use mathlib.Core.Logic.{inl, inr}
use Rattle.std.proofs.Math.Seq.{take-length}
use Rattle.std.proofs.lemmas.Bool.Decides.{nat_tests}
use Rattle.std.specs.Prelude.{◌⊎◌}
use Rattle.matchit.specs.Rows.{RowsOf, param_token, catch_all_token}
use Rattle.matchit.specs.Seek.{segment, has_slash, same_text, own, step, or_else, longest_from, longest_suffix, with_suffix, param_step, seek, better, cuts}
use Rattle.fab_wire_base.specs.Matching.{IsRowOf, Matches}

own-row : {K : Type 0} (k : K) (rs : RowsOf K) → own rs ≡ Some k → IsRowOf [] k rs
own-row k [] e = cc
own-row k (([], l) ∷ rs) e = inl (refl, cc)
own-row k ((x ∷ t, l) ∷ rs) e = inr (own-row k rs e)

step-row-at : {K : Type 0} (same : Bool) (b x : ℕ) (t u : List ℕ) (k l : K) (rs : RowsOf K) → (IsRowOf t k (step b rs) → IsRowOf (b ∷ t) k rs) → (x == b) ≡ same
    → IsRowOf t k (cond same ((u, l) ∷ step b rs) (step b rs)) → IsRowOf (b ∷ t) k ((x ∷ u, l) ∷ rs)
step-row-at true b x t u k l rs ih e (inl h) = let s : x ≡ b = grind (arith, nat_tests) in let f = h.0 in inl (cc, h.1)
step-row-at true b x t u k l rs ih e (inr h) = inr (ih h)
step-row-at false b x t u k l rs ih e h = inr (ih h)

step-row : {K : Type 0} (b : ℕ) (t : List ℕ) (k : K) (rs : RowsOf K) → IsRowOf t k (step b rs) → IsRowOf (b ∷ t) k rs
step-row b t k [] h = h
step-row b t k (([], l) ∷ rs) h = inr (step-row b t k rs h)
step-row b t k ((x ∷ u, l) ∷ rs) h = step-row-at (x == b) b x t u k l rs (step-row b t k rs) refl h

suffix-row-at : {K : Type 0} (same : Bool) (s t u : List ℕ) (k l : K) (rs : RowsOf K) → (IsRowOf t k (with_suffix s rs) → IsRowOf t k rs)
    → IsRowOf t k (cond same ((u, l) ∷ with_suffix s rs) (with_suffix s rs)) → IsRowOf t k ((u, l) ∷ rs)
suffix-row-at true s t u k l rs ih (inl h) = inl h
suffix-row-at true s t u k l rs ih (inr h) = inr (ih h)
suffix-row-at false s t u k l rs ih h = inr (ih h)

suffix-row : {K : Type 0} (s t : List ℕ) (k : K) (rs : RowsOf K) → IsRowOf t k (with_suffix s rs) → IsRowOf t k rs
suffix-row s t k [] h = h
suffix-row s t k ((u, l) ∷ rs) h = suffix-row-at (same_text (segment u) s) s t u k l rs (suffix-row s t k rs) h

plain-front-at : (s : Bool) (n b : ℕ) (path : List ℕ) → (n < length (segment path) → has_slash (take n path) ≡ false) → suc n < length (cond s (b ∷ []) (b ∷ segment path)) → cond s true (has_slash (take n path)) ≡ false
plain-front-at true n b path ih h = absurd (omega arith)
plain-front-at false n b path ih h = ih (omega arith)

-- what is shorter than the segment has no slash
plain-front : (n : ℕ) (path : List ℕ) → n < length (segment path) → has_slash (take n path) ≡ false
plain-front zero path h = refl
plain-front (suc n) [] h = refl
plain-front (suc n) (b ∷ path) h = plain-front-at (b == 47) n b path (plain-front n path) h

length-segment-at : (s : Bool) (b : ℕ) (path : List ℕ) → length (segment path) ≤ length path → length (cond s (b ∷ []) (b ∷ segment path)) ≤ suc (length path)
length-segment-at true b path h = omega arith
length-segment-at false b path h = omega arith

length-segment : (path : List ℕ) → length (segment path) ≤ length path
length-segment [] = omega arith
length-segment (b ∷ path) = length-segment-at (b == 47) b path (length-segment path)

-- a suffix that was chosen leaves a byte of the segment
shorter : (v : Bool) (seg best s : List ℕ) → (v ≡ true → length s < length seg) → (length best ≡ 0) ⊎ (length best < length seg) → (length (cond v s best) ≡ 0) ⊎ (length (cond v s best) < length seg)
shorter true seg best s f h = inr (f refl)
shorter false seg best s f h = h

better-short : (seg best s : List ℕ) → (length best ≡ 0) ⊎ (length best < length seg) → (length (better seg best s) ≡ 0) ⊎ (length (better seg best s) < length seg)
better-short seg best s h = shorter (ltb (length best) (length s) && cuts seg s) seg best s (λ e. grind (arith, nat_tests)) h

longest-short : {K : Type 0} (seg best : List ℕ) (rs : RowsOf K) → (length best ≡ 0) ⊎ (length best < length seg) → (length (longest_from seg best rs) ≡ 0) ⊎ (length (longest_from seg best rs) < length seg)
longest-short seg best [] h = h
longest-short seg best ((t, k) ∷ rs) h = longest-short seg (better seg best (segment t)) rs (better-short seg best (segment t) h)

-- a row that a walk of some of the rows found, with what it matched of the rest
pub record Found {K : Type 0} (k : K) (rs : RowsOf K) (path : List ℕ) : Type 0 where
  pub pattern : List ℕ
  pub row : IsRowOf pattern k rs
  pub matches : Matches pattern path

-- a byte is taken, and then the rest matches
by-byte : {K : Type 0} (k : K) (rs : RowsOf K) (b : ℕ) (path : List ℕ) → Found k (step b rs) path → Found k rs (b ∷ path)
by-byte k rs b path found =
    record { pattern = b ∷ found.pattern; row = step-row b found.pattern k rs found.row; matches = inl (path, refl, found.matches) }

-- a part is taken, and then the rest matches
taken : {K : Type 0} (m : ℕ) (k : K) (rs : RowsOf K) (b : ℕ) (path : List ℕ) → has_slash (b ∷ take m path) ≡ false
    → Found k (step param_token rs) (drop m path) → Found k rs (b ∷ path)
taken m k rs b path plain found =
    record {
      pattern = param_token ∷ found.pattern;
      row = step-row param_token found.pattern k rs found.row;
      matches = inr (inl (refl, (b ∷ take m path, drop m path, ap (λ (t : List ℕ). b ∷ t) (sym (take-append-drop m path)), record { some = omega arith; plain = plain }, found.matches)));
    }

-- how much a parameter takes, and the rows that go on
abbrev param_of : {K : Type 0} → Bool → Bool → List ℕ → RowsOf K → List ℕ → ℕ × RowsOf K
param_of long slashed longest rs path = cond long (length (segment path) - length longest, with_suffix longest rs) (cond slashed (0, []) (length path, rs))

-- what a walk by a parameter finds
by-param : {K : Type 0} (longest : List ℕ) (k : K) (rs : RowsOf K) (b : ℕ) (path : List ℕ) → (length longest ≡ 0) ⊎ (length longest < length (segment (b ∷ path)))
    → (long slashed : Bool) → ltb 0 (length longest) ≡ long → has_slash (b ∷ path) ≡ slashed
    → ((n : ℕ) (rows : RowsOf K) → seek n rows path ≡ Some k → Found k rows (drop n path))
    → seek ((param_of long slashed longest (step param_token rs) (b ∷ path)).0 - 1) (param_of long slashed longest (step param_token rs) (b ∷ path)).1 path ≡ Some k
    → Found k rs (b ∷ path)
by-param {K} longest k rs b path h true slashed e f ih g =
    let some : 0 < length longest = grind (arith, nat_tests) in
    let less : length longest < length (segment (b ∷ path)) = omega (arith, h) in
    let n = length (segment (b ∷ path)) - length longest in
    let found = ih (n - 1) (with_suffix longest (step param_token rs)) g in
    let is : n ≡ suc (n - 1) = omega arith in
    let front : has_slash (take n (b ∷ path)) ≡ false = plain-front n (b ∷ path) (omega arith) in
    taken (n - 1) k rs b path (subst (λ (m : ℕ). has_slash (take m (b ∷ path)) ≡ false) is front)
    (record { pattern = found.pattern; row = suffix-row longest found.pattern k (step param_token rs) found.row; matches = found.matches })
by-param longest k rs b path h false true e f ih g = absurd ((ih (0 - 1) [] g).row)
by-param longest k rs b path h false false e f ih g =
    let n = length (b ∷ path) in
    let is : n ≡ suc (n - 1) = omega arith in
    let front : has_slash (take n (b ∷ path)) ≡ false = ap has_slash (take-length (b ∷ path)) ∙ f in
    taken (n - 1) k rs b path (subst (λ (m : ℕ). has_slash (take m (b ∷ path)) ≡ false) is front) (ih (n - 1) (step param_token rs) g)

or-split : {K : Type 0} (a b : Option K) (k : K) → or_else a b ≡ Some k → (a ≡ Some k) ⊎ (b ≡ Some k)
or-split None b k e = inr e
or-split (Some x) b k e = inl e

-- what a walk finds is the key of a row whose pattern the path matches
pub seek-found : {K : Type 0} (k : K) (path : List ℕ) (skip : ℕ) (rs : RowsOf K) → seek skip rs path ≡ Some k → Found k rs (drop skip path)
unfolding seek param_step
seek-found k [] zero rs e = record { pattern = []; row = own-row k rs e; matches = refl }
seek-found k [] (suc skip) rs e = record { pattern = []; row = own-row k rs e; matches = refl }
seek-found k (b ∷ path) (suc skip) rs e = seek-found k path skip rs e
seek-found k (b ∷ path) zero rs e =
    elim (or-split (seek 0 (step b rs) path) _ k e) [
      | inl h ↦ by-byte k rs b path (seek-found k path 0 (step b rs) h)
      | inr h ↦ elim (or-split _ (own (step catch_all_token rs)) k h) [
        | inl g ↦ by-param (longest_suffix (segment (b ∷ path)) (step param_token rs)) k rs b path (longest-short (segment (b ∷ path)) [] (step param_token rs) (inl refl)) _ _ refl refl (λ n rows x. seek-found k path n rows x) g
        | inr g ↦ record { pattern = catch_all_token ∷ []; row = step-row catch_all_token [] k rs (own-row k (step catch_all_token rs) g); matches = inr (inr refl) }
      ]
    ]
