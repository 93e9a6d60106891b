-- Names and tokens that stand once, and windows that are there.
use Rattle.std.proofs.Common.{◌≡◌, ℕ, ◌<◌, ◌≤◌, zero, suc, Bool, true, false, ◌||◌, List, [], ◌∷◌, length, take, get_or, map, Option, Some, None, sym, ap, ◌∙◌, refl, arith}
use Rattle.std.specs.Prelude.{slice_get, if◌then◌else◌}
use Rattle.std.specs.List.{list_any, AllWithin}
use Rattle.std.specs.Cmp.Lexicographic.{same_text, nat_list_eq_equiv}
use Rattle.std.proofs.lemmas.Bool.{or_parts}
use Rattle.std.proofs.lemmas.Option.{same_Some}
use mathlib.Core.Bool.{true≢false}
use Rattle.fab_policy_base.specs.Callers.{is_same, has_name}
use Rattle.fab_policy_base.specs.Policies.{RuleRow}
use Rattle.fab_policy_base.specs.Sound.{RepeatsAt, AreDistinct, HaveWindows, rule_windows}
use Rattle.fab_policy_text.specs.Tables.{IsRepeated, missing_window, IsMissing}
use Rattle.fab_policy_base.specs.declared.fault.PolicyFault.TheVariants as fault

-- what is at a place of a mapped list
map_at : {X Y : Type 0} (f : X → Y) (xs : List X) (i : ℕ) (d : X) → i < length xs → slice_get (map f xs) i ≡ Some (f (get_or xs i d))
map_at f [] i d h = absurd (omega arith)
map_at f (x ∷ xs) zero d h = refl
map_at f (x ∷ xs) (suc i) d h = map_at f xs i d (omega arith)

-- nothing is past the end of a mapped list
map_past : {X Y : Type 0} (f : X → Y) (xs : List X) (i : ℕ) (y : Y) → slice_get (map f xs) i ≡ Some y → i < length xs
map_past f [] i y h = cc
map_past f (x ∷ xs) zero y h = omega arith
map_past f (x ∷ xs) (suc i) y h = let more = map_past f xs i y h in omega (arith, more)

-- no text before i is this one
none_before : {X : Type 0} (f : X → List ℕ) (text : List ℕ) (xs : List X) (i j : ℕ) → list_any (λ x. is_same (f x) text) (take i xs) ≡ false → j < i → slice_get (map f xs) j ≡ Some text → ⊥
none_before f text [] i j h below e = cc
none_before f text (x ∷ xs) zero j h below e = absurd (omega arith)
none_before f text (x ∷ xs) (suc i) zero h below e =
    let here : f x ≡ text = same_Some (f x) text e in
    true≢false (sym (nat_list_eq_equiv.refl text) ∙ ap (λ t. is_same t text) (sym here) ∙ (or_parts (is_same (f x) text) _ h).0)
none_before f text (x ∷ xs) (suc i) (suc j) h below e = none_before f text xs i j (or_parts (is_same (f x) text) _ h).1 (omega arith) e

or_cases : {P : Type 0} (a b : Bool) → (a || b) ≡ true → (a ≡ true → P) → (b ≡ true → P) → P
or_cases true b h p q = p refl
or_cases false b h p q = q h

-- some text before i is this one
some_before : {X : Type 0} (f : X → List ℕ) (text : List ℕ) (xs : List X) (i : ℕ) → list_any (λ x. is_same (f x) text) (take i xs) ≡ true → (j : ℕ) × (j < i) × (slice_get (map f xs) j ≡ Some text)
some_before f text [] zero h = absurd (true≢false (sym h))
some_before f text [] (suc i) h = absurd (true≢false (sym h))
some_before f text (x ∷ xs) zero h = absurd (true≢false (sym h))
some_before f text (x ∷ xs) (suc i) h =
    or_cases (is_same (f x) text) (list_any (λ x. is_same (f x) text) (take i xs)) h
    (λ e. (0, omega arith, ap Some (same_text (f x) text (sym e))))
    (λ e. let more = some_before f text xs i e in (suc more.0, omega (arith, more.1), more.2))

-- the text at i stands before it too
pub repeated : {X : Type 0} (f g : X → List ℕ) (xs : List X) (i : ℕ) (x : X) (text name : List ℕ) → i < length xs → x ≡ get_or xs i x → text ≡ f x → name ≡ g x → list_any (λ y. is_same (f y) text) (take i xs) ≡ true → IsRepeated (map f xs) (map g xs) (fault.Repeated name)
repeated f g xs i x text name h at same named told =
    let found = some_before f text xs i told in
    record {
      place = i;
      name = name;
      repeats = record { first = found.0; text = text; before = found.1; earlier = found.2; again = map_at f xs i x h ∙ ap (λ y. Some (f y)) (sym at) ∙ ap Some (sym same) };
      named = map_at g xs i x h ∙ ap (λ y. Some (g y)) (sym at) ∙ ap Some (sym named);
      repeated = refl;
    }

-- the text at i does not stand before it
pub not_repeated : {X : Type 0} (f : X → List ℕ) (xs : List X) (i : ℕ) (x : X) (text : List ℕ) → i < length xs → x ≡ get_or xs i x → text ≡ f x → list_any (λ y. is_same (f y) text) (take i xs) ≡ false → ¬ RepeatsAt (map f xs) i
not_repeated f xs i x text h at same told r =
    let here : f x ≡ r.text = same_Some (f x) r.text (sym (map_at f xs i x h ∙ ap (λ y. Some (f y)) (sym at)) ∙ r.again) in
    none_before f text xs i r.first told r.before (r.earlier ∙ ap Some (sym (same ∙ here)))

-- where no place of the list repeats, none does
pub all_distinct : {X : Type 0} (f : X → List ℕ) (xs : List X) (n : ℕ) → length xs ≤ n → ((k : ℕ) → k < n → ¬ RepeatsAt (map f xs) k) → AreDistinct (map f xs)
all_distinct f xs n h below k r = let within = map_past f xs k r.text r.again in below k (omega (arith, within)) r

-- one of them has the name, or the name is among theirs
pub has_name-map : {X : Type 0} (f : X → List ℕ) (xs : List X) (name : List ℕ) → list_any (λ x. is_same (f x) name) xs ≡ has_name (map f xs) name
has_name-map f [] name = refl
has_name-map f (x ∷ xs) name = ap (λ b. is_same (f x) name || b) (has_name-map f xs name)

missing_cases : (b : Bool) (other name : List ℕ) → (if b then None else Some other) ≡ Some name → (other ≡ name) × (b ≡ false)
missing_cases true other name h = cc
missing_cases false other name h = (same_Some other name h, refl)

-- what is missing is asked for, and is not there
missing_is : (names : List (List ℕ)) (asked : Option (List ℕ)) (name : List ℕ) → Some name ≡ missing_window names asked → (asked ≡ Some name) × (has_name names name ≡ false)
missing_is names None name h = cc
missing_is names (Some other) name h =
    let found = missing_cases (has_name names other) other name (sym h) in
    (ap Some found.0, ap (has_name names) (sym found.0) ∙ found.1)

there_cases : (b : Bool) (name : List ℕ) → (if b then None else Some name) ≡ None → b ≡ true
there_cases true name h = refl
there_cases false name h = cc

map_length : {X Y : Type 0} (f : X → Y) (xs : List X) → length (map f xs) ≡ length xs
map_length f [] = refl
map_length f (x ∷ xs) = ap suc (map_length f xs)

map_get_or : {X Y : Type 0} (f : X → Y) (xs : List X) (i : ℕ) (x : X) (y : Y) → i < length xs → get_or (map f xs) i y ≡ f (get_or xs i x)
map_get_or f [] i x y h = absurd (omega arith)
map_get_or f (x ∷ xs) zero d y h = refl
map_get_or f (x ∷ xs) (suc i) d y h = map_get_or f xs i d y (omega arith)

-- a rule whose window is missing
pub one_missing : (names : List (List ℕ)) (rs : List RuleRow) (i : ℕ) (r : RuleRow) (name : List ℕ) → i < length rs → r ≡ get_or rs i r → Some name ≡ missing_window names r.window → IsMissing (rule_windows rs) names name
one_missing names rs i r name h at m =
    let found = missing_is names r.window name m in
    ((i, omega (arith, map_length (λ (r : RuleRow). r.window) rs), map_get_or (λ r. r.window) rs i r (Some name) h ∙ ap (λ (r : RuleRow). r.window) (sym at) ∙ found.0), found.1)

element : {X : Type 0} (xs : List X) (i : ℕ) → i < length xs → (x : X) × (get_or xs i x ≡ x)
element [] i h = absurd (omega arith)
element (x ∷ xs) zero h = (x, refl)
element (x ∷ xs) (suc i) h = element xs i (omega arith)

-- where no rule's window is missing, all are there
pub none_missing : (names : List (List ℕ)) (rs : List RuleRow) (n : ℕ) → length rs ≤ n → AllWithin (λ r. missing_window names r.window ≡ None) rs 0 n → HaveWindows (rule_windows rs) names
none_missing names rs n h all name asked =
    let within : asked.0 < length rs = omega (arith, asked.1, map_length (λ (r : RuleRow). r.window) rs) in
    let (r, at) = element rs asked.0 within in
    let window : (get_or rs asked.0 r).window ≡ Some name = sym (map_get_or (λ r. r.window) rs asked.0 r (Some name) within) ∙ asked.2 in
    there_cases (has_name names name) name (ap (missing_window names) (sym window) ∙ all asked.0 r (omega arith) (omega (arith, h, within)))
