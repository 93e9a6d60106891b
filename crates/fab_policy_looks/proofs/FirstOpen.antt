-- The first moment at which a window is open is among the candidates.
use Rattle.std.proofs.Common.{◌≡◌, ℕ, zero, suc, ◌+◌, ◌-◌, ◌%◌, ◌^◌, ◌<◌, ◌≤◌, ◌⊎◌, inl, inr, Bool, true, false, not, ◌&&◌, nat_le, nat_lt, List, [], ◌∷◌, Option, Some, None, IfSome, refl, sym, ap, subst, ◌∙◌, arith}
use Rattle.std.specs.Prelude.{if◌then◌else◌}
use Rattle.std.specs.List.{list_any}
use mathlib.Core.Bool.{true≢false}
use Rattle.std.proofs.lemmas.Bool.Decides.{nat_tests}
use Rattle.fab_lemmas.proofs.Tests.{both, left, right, or_true, or_left, or_right, is_false, within, from_within, below, from_below}
use Rattle.fab_policy_base.specs.Callers.{is_same}
use Rattle.fab_policy_base.specs.Policies.{WindowRow}
use Rattle.fab_policy_base.specs.declared.policy.Freeze.{Freeze}
use Rattle.fab_policy_base.specs.declared.policy.WeekSpan.{WeekSpan}
use Rattle.fab_policy.specs.Windows.{spans, week_minute, is_in_week, is_frozen, is_open, is_open_as}
use Rattle.fab_policy_looks.specs.Inner.Candidates.{seconds_to, next_start, better_than, better, with_starts, with_base, with_end, with_ends, opening_of, earlier, with_window, with_windows}
use Rattle.fab_policy_looks.specs.Openings.{IsOpening}

-- ---- where parts of the week begin

and_false : (a b : Bool) → (a && b) ≡ false → (a ≡ false) ⊎ (b ≡ false)
and_false true b e = inr e
and_false false b e = inl refl

above : (n most : ℕ) → nat_le n most ≡ false → most < n
above n most h = grind (arith, nat_tests)

at_or_above : (n most : ℕ) → nat_lt n most ≡ false → most ≤ n
at_or_above n most h = grind (arith, nat_tests)

starts_at : (from until k : ℕ) → from ≤ week_minute (suc k) → week_minute (suc k) < until → (week_minute k < from) ⊎ (until ≤ week_minute k) → (week_minute (suc k) ≡ from) × (suc k % 60 ≡ 0)
starts_at from until k low high out = elim out [ inl x ↦ omega (arith, low, high, x) | inr x ↦ omega (arith, low, high, x) ]

-- a span that holds a minute of the week, and not that of the second before, begins there
begins : (from until k : ℕ) → spans from until (week_minute (suc k)) ≡ true → spans from until (week_minute k) ≡ false → (week_minute (suc k) ≡ from) × (suc k % 60 ≡ 0)
begins from until k now before =
    let low = from_within from (week_minute (suc k)) (left _ _ now) in
    let high = from_below (week_minute (suc k)) until (right (nat_le from (week_minute (suc k))) _ now) in
    let out : (week_minute k < from) ⊎ (until ≤ week_minute k) = elim (and_false _ _ before) [ inl x ↦ inl (above from (week_minute k) x) | inr x ↦ inr (at_or_above (week_minute k) until x) ] in
    starts_at from until k low high out

-- the moment at which a minute of the week begins is the next such, from any moment on that is less than a week before
next : (base m minute : ℕ) → week_minute m ≡ minute → m % 60 ≡ 0 → base ≤ m → m < base + 604800 → base + seconds_to base minute ≡ m
next base m minute at starts after soon = omega (arith, at, starts, after, soon)

-- ---- tests

bool_cases : (b : Bool) → (b ≡ true) ⊎ (b ≡ false)
bool_cases true = inl refl
bool_cases false = inr refl

not_frozen : (b : Bool) → not b ≡ true → b ≡ false
not_frozen true e = sym e
not_frozen false e = refl

frozen_by : (now held : Bool) → (now && not held) ≡ false → now ≡ true → held ≡ true
frozen_by true true e h = refl
frozen_by true false e h = sym e
frozen_by false held e h = absurd (true≢false (sym h))

out_of_week : (now held : Bool) → (now && not held) ≡ false → held ≡ false → now ≡ false
out_of_week true true e h = h
out_of_week true false e h = e
out_of_week false held e h = refl

-- a moment is less than a week behind a start, or there is one a week before it
soon_or_week_before : (start k : ℕ) → start ≤ k → (suc k < start + 604800) ⊎ ((past : ℕ) × (start ≤ past) × (past + 604800 ≡ suc k))
soon_or_week_before start k le = elim (bool_cases (nat_lt (suc k) (start + 604800))) [
  | inl x ↦ inl (from_below (suc k) (start + 604800) x)
  | inr x ↦ let y = at_or_above (suc k) (start + 604800) x in inr (suc k - 604800, omega (arith, y), omega (arith, y))
]

-- a week later it is the same minute of the week
week_later : (past m : ℕ) → past + 604800 ≡ m → week_minute past ≡ week_minute m
week_later past m e = omega (arith, e)

at_start : (start k : ℕ) → start ≤ suc k → (start ≡ suc k) ⊎ (start ≤ k)
at_start start k le = elim (bool_cases (nat_le start k)) [
  | inl x ↦ inr (from_within start k x)
  | inr x ↦ let y = above start k x in inl (omega (arith, le, y))
]

-- ---- what was found so far

-- it is from a moment on, and the window is open then
abbrev IsGood : WindowRow → ℕ → Option ℕ → Type 0
IsGood w from None = Unit {0}
IsGood w from (Some b) = (from ≤ b) × (is_open w b ≡ true)

-- it is there, and not behind a moment
abbrev IsBy : Option ℕ → ℕ → Type 0
IsBy None c = ⊥
IsBy (Some b) c = b ≤ c

later_by : (o : Option ℕ) (c d : ℕ) → IsBy o c → c ≤ d → IsBy o d
later_by None c d h le = absurd h
later_by (Some b) c d h le = omega (arith, h, le)

module _ (w : WindowRow) where
  good_if : (from c : ℕ) (o : Bool) → is_open w c ≡ o → from ≤ c → IsGood w from (if o then Some c else None)
  good_if from c true is le = (le, is)
  good_if from c false is le = tt

  good_pick : (from c b : ℕ) (t o : Bool) → is_open w c ≡ o → from ≤ c → IsGood w from (Some b) → IsGood w from (if t && o then Some c else Some b)
  good_pick from c b true true is le h = (le, is)
  good_pick from c b true false is le h = h
  good_pick from c b false o is le h = h

  good_better : (from c : ℕ) (best : Option ℕ) → from ≤ c → IsGood w from best → IsGood w from (better_than w best c)
  good_better from c None le h = good_if from c (is_open w c) refl le
  good_better from c (Some b) le h = good_pick from c b (nat_lt c b) (is_open w c) refl le h

  kept_pick : (c b d : ℕ) (t o : Bool) → nat_lt c b ≡ t → b ≤ d → IsBy (if t && o then Some c else Some b) d
  kept_pick c b d true true lt le = let h = from_below c b lt in omega (arith, h, le)
  kept_pick c b d true false lt le = le
  kept_pick c b d false o lt le = le

  kept_better : (c d : ℕ) (best : Option ℕ) → IsBy best d → IsBy (better_than w best c) d
  kept_better c d None h = absurd h
  kept_better c d (Some b) h = kept_pick c b d (nat_lt c b) (is_open w c) refl h

  taken_if : (c : ℕ) (o : Bool) → o ≡ true → IsBy (if o then Some c else None) c
  taken_if c true is = omega arith
  taken_if c false is = absurd (true≢false (sym is))

  taken_pick : (c b : ℕ) (t o : Bool) → nat_lt c b ≡ t → o ≡ true → IsBy (if t && o then Some c else Some b) c
  taken_pick c b true true lt is = omega arith
  taken_pick c b true false lt is = absurd (true≢false (sym is))
  taken_pick c b false o lt is = grind (arith, nat_tests)

  taken_better : (c : ℕ) (best : Option ℕ) → is_open w c ≡ true → IsBy (better_than w best c) c
  taken_better c None is = taken_if c (is_open w c) is
  taken_better c (Some b) is = taken_pick c b (nat_lt c b) (is_open w c) refl is

  -- ---- parts of the week that begin after a moment

  good_later : (from base n : ℕ) (best : Option ℕ) (t : Bool) → from ≤ base → IsGood w from best → IsGood w from (better w best (if t then Some (base + n) else None))
  good_later from base n best true le h = good_better from (base + n) best (omega (arith, le)) h
  good_later from base n best false le h = h

  good_starts : (from base : ℕ) (ss : List WeekSpan) (best : Option ℕ) → from ≤ base → IsGood w from best → IsGood w from (with_starts w base best ss)
  good_starts from base [] best le h = h
  good_starts from base (s ∷ ss) best le h = good_starts from base ss (better w best (next_start base s.from)) le (good_later from base (seconds_to base s.from) best (nat_lt (base + seconds_to base s.from) (2 ^ 64)) le h)

  kept_later : (base n d : ℕ) (best : Option ℕ) (t : Bool) → IsBy best d → IsBy (better w best (if t then Some (base + n) else None)) d
  kept_later base n d best true h = kept_better (base + n) d best h
  kept_later base n d best false h = h

  kept_starts : (base d : ℕ) (ss : List WeekSpan) (best : Option ℕ) → IsBy best d → IsBy (with_starts w base best ss) d
  kept_starts base d [] best h = h
  kept_starts base d (s ∷ ss) best h = kept_starts base d ss (better w best (next_start base s.from)) (kept_later base (seconds_to base s.from) d best (nat_lt (base + seconds_to base s.from) (2 ^ 64)) h)

  taken_later : (base n c : ℕ) (best : Option ℕ) (t : Bool) → nat_lt (base + n) (2 ^ 64) ≡ t → base + n ≡ c → c < 2 ^ 64 → is_open w c ≡ true → IsBy (better w best (if t then Some (base + n) else None)) c
  taken_later base n c best true fits e lt is = subst (λ (m : ℕ). IsBy (better_than w best (base + n)) m) e (taken_better (base + n) best (ap (is_open w) e ∙ is))
  taken_later base n c best false fits e lt is = absurd (true≢false (sym (below (base + n) (2 ^ 64) (subst (λ (m : ℕ). m < 2 ^ 64) (sym e) lt)) ∙ fits))

  taken_starts : (base k : ℕ) (ss : List WeekSpan) (best : Option ℕ) → is_in_week ss (week_minute (suc k)) ≡ true → is_in_week ss (week_minute k) ≡ false → base ≤ suc k → suc k < base + 604800 → suc k < 2 ^ 64 → is_open w (suc k) ≡ true → IsBy (with_starts w base best ss) (suc k)
  taken_starts base k [] best now before le soon fits is = absurd (true≢false (sym now))
  taken_starts base k (s ∷ ss) best now before le soon fits is =
      let first = spans s.from s.until (week_minute k) in
      let none : first ≡ false = is_false first (λ h. true≢false (sym (or_left first _ h) ∙ before)) in
      let more : is_in_week ss (week_minute k) ≡ false = is_false _ (λ h. true≢false (sym (or_right first _ h) ∙ before)) in
      elim (or_true (spans s.from s.until (week_minute (suc k))) (is_in_week ss (week_minute (suc k))) now) [
        | inl here ↦
            let start = begins s.from s.until k here none in
            let at : base + seconds_to base s.from ≡ suc k = next base (suc k) s.from start.0 start.1 le soon in
            kept_starts base (suc k) ss _ (taken_later base (seconds_to base s.from) (suc k) best (nat_lt (base + seconds_to base s.from) (2 ^ 64)) refl at fits is)
        | inr there ↦ taken_starts base k ss (better w best (next_start base s.from)) there more le soon fits is
      ]

  -- ---- a moment itself, and parts of the week that begin after it

  good_base : (from base : ℕ) (best : Option ℕ) → from ≤ base → IsGood w from best → IsGood w from (with_base w best base)
  good_base from base best le h = good_starts from base w.weekly (better_than w best base) le (good_better from base best le h)

  kept_base : (base d : ℕ) (best : Option ℕ) → IsBy best d → IsBy (with_base w best base) d
  kept_base base d best h = kept_starts base d w.weekly (better_than w best base) (kept_better base d best h)

  taken_base : (base : ℕ) (best : Option ℕ) → is_open w base ≡ true → IsBy (with_base w best base) base
  taken_base base best is = kept_starts base base w.weekly (better_than w best base) (taken_better base best is)

  taken_start : (base k : ℕ) (best : Option ℕ) → is_in_week w.weekly (week_minute (suc k)) ≡ true → is_in_week w.weekly (week_minute k) ≡ false → base ≤ suc k → suc k < base + 604800 → suc k < 2 ^ 64 → is_open w (suc k) ≡ true → IsBy (with_base w best base) (suc k)
  taken_start base k best now before le soon fits is = taken_starts base k w.weekly (better_than w best base) now before le soon fits is

  -- ---- ends of freezes

  good_end : (start end : ℕ) (best : Option ℕ) (t : Bool) → nat_le start end ≡ t → IsGood w start best → IsGood w start (if t then with_base w best end else best)
  good_end start end best true le h = good_base start end best (from_within start end le) h
  good_end start end best false le h = h

  good_ends : (start : ℕ) (fs : List Freeze) (best : Option ℕ) → IsGood w start best → IsGood w start (with_ends w start best fs)
  good_ends start [] best h = h
  good_ends start (f ∷ fs) best h = good_ends start fs (with_end w start best f.until) (good_end start f.until best (nat_le start f.until) refl h)

  kept_end : (end d : ℕ) (best : Option ℕ) (t : Bool) → IsBy best d → IsBy (if t then with_base w best end else best) d
  kept_end end d best true h = kept_base end d best h
  kept_end end d best false h = h

  kept_ends : (start d : ℕ) (fs : List Freeze) (best : Option ℕ) → IsBy best d → IsBy (with_ends w start best fs) d
  kept_ends start d [] best h = h
  kept_ends start d (f ∷ fs) best h = kept_ends start d fs (with_end w start best f.until) (kept_end f.until d best (nat_le start f.until) h)

  -- what holds of the candidates by the end of a freeze holds of all, unless that end is before the start
  taken_end : (start end d : ℕ) (best : Option ℕ) (t : Bool) → nat_le start end ≡ t → start ≤ end → IsBy (with_base w best end) d → IsBy (if t then with_base w best end else best) d
  taken_end start end d best true is le h = h
  taken_end start end d best false is le h = absurd (true≢false (sym (within start end le) ∙ is))

  -- a freeze that holds a moment and not a later one ends between them
  ends_between : (first until early late : ℕ) → spans first until early ≡ true → spans first until late ≡ false → early < late → (early < until) × (until ≤ late)
  ends_between first until early late held free lt =
      let low = from_within first early (left _ _ held) in
      let high = from_below early until (right (nat_le first early) _ held) in
      elim (and_false _ _ free) [
        | inl x ↦ let y = above first late x in absurd (omega (arith, low, lt, y))
        | inr x ↦ let y = at_or_above late until x in (high, y)
      ]

  -- a moment that some freeze ends at, or a part of the week that begins after such an end
  taken_by_end : (start early late : ℕ) (fs : List Freeze) (best : Option ℕ) → is_frozen fs early ≡ true → is_frozen fs late ≡ false → start ≤ early → early < late
      → ((end : ℕ) (some : Option ℕ) → early < end → end ≤ late → IsBy (with_base w some end) late) → IsBy (with_ends w start best fs) late
  taken_by_end start early late [] best held free le lt by = absurd (true≢false (sym held))
  taken_by_end start early late (f ∷ fs) best held free le lt by =
      let first = spans f.from f.until late in
      let none : first ≡ false = is_false first (λ h. true≢false (sym (or_left first _ h) ∙ free)) in
      let more : is_frozen fs late ≡ false = is_false _ (λ h. true≢false (sym (or_right first _ h) ∙ free)) in
      elim (or_true (spans f.from f.until early) (is_frozen fs early) held) [
        | inl here ↦
            let between = ends_between f.from f.until early late here none lt in
            let after : start ≤ f.until = omega (arith, le, between.0) in
            kept_ends start late fs (with_end w start best f.until) (taken_end start f.until late best (nat_le start f.until) refl after (by f.until best between.0 between.1))
        | inr there ↦ taken_by_end start early late fs (with_end w start best f.until) there more le lt by
      ]

  -- ---- each moment at which it is open

  -- a moment at which the window is open is in the week, and not frozen
  open_parts : (c : ℕ) → is_open w c ≡ true → (is_in_week w.weekly (week_minute c) ≡ true) × (is_frozen w.freeze c ≡ false)
  open_parts c is = (left _ _ is, not_frozen (is_frozen w.freeze c) (right (is_in_week w.weekly (week_minute c)) _ is))

  -- at a moment at which it is not open, and which is in the week, it is frozen
  shut_in_week : (c : ℕ) → is_open w c ≡ false → is_in_week w.weekly (week_minute c) ≡ true → is_frozen w.freeze c ≡ true
  shut_in_week c shut now = frozen_by (is_in_week w.weekly (week_minute c)) (is_frozen w.freeze c) shut now

  by_start : (start k : ℕ) → start ≤ k → suc k < 2 ^ 64 → is_open w (suc k) ≡ true → is_in_week w.weekly (week_minute k) ≡ false → ((d : ℕ) → start ≤ d → d ≤ k → is_open w d ≡ true → IsBy (opening_of w start) d) → IsBy (opening_of w start) (suc k)
  by_start start k le fits is before sooner =
      let parts = open_parts (suc k) is in
      elim (soon_or_week_before start k le) [
        | inl soon ↦ kept_ends start (suc k) w.freeze (with_base w None start) (taken_start start k None parts.0 before (omega (arith, le)) soon fits is)
        | inr past ↦
            let same : is_in_week w.weekly (week_minute past.0) ≡ true = ap (is_in_week w.weekly) (week_later past.0 (suc k) past.2) ∙ parts.0 in
            elim (bool_cases (is_open w past.0)) [
              | inl was ↦ later_by (opening_of w start) past.0 (suc k) (sooner past.0 past.1 (let e = past.2 in omega (arith, e)) was) (let e = past.2 in omega (arith, e))
              | inr was ↦ taken_by_end start past.0 (suc k) w.freeze (with_base w None start) (shut_in_week past.0 was same) parts.1 past.1 (let e = past.2 in omega (arith, e))
                  (λ end some after before_it. taken_start end k some parts.0 before before_it (let e = past.2 in omega (arith, e, after)) fits is)
            ]
      ]

  by_step : (start k : ℕ) → start ≤ k → suc k < 2 ^ 64 → is_open w (suc k) ≡ true → is_open w k ≡ false → ((d : ℕ) → start ≤ d → d ≤ k → is_open w d ≡ true → IsBy (opening_of w start) d) → IsBy (opening_of w start) (suc k)
  by_step start k le fits is shut sooner =
      let parts = open_parts (suc k) is in
      elim (bool_cases (is_frozen w.freeze k)) [
        | inl held ↦ taken_by_end start k (suc k) w.freeze (with_base w None start) held parts.1 le (omega arith)
            (λ end some after before_it. subst (λ (m : ℕ). IsBy (with_base w some end) m) (let e : end ≡ suc k = omega (arith, after, before_it) in e) (taken_base end some (subst (λ (m : ℕ). is_open w m ≡ true) (let e : suc k ≡ end = omega (arith, after, before_it) in e) is)))
        | inr free ↦ by_start start k le fits is (out_of_week (is_in_week w.weekly (week_minute k)) (is_frozen w.freeze k) shut free) sooner
      ]

  -- up to any moment
  by_each : (start bound d : ℕ) → d < bound → start ≤ d → d < 2 ^ 64 → is_open w d ≡ true → IsBy (opening_of w start) d
  by_each start zero d lt le fits is = absurd (omega (arith, lt))
  by_each start (suc bound) zero lt le fits is =
      let e : start ≡ zero = omega (arith, le) in
      kept_ends start zero w.freeze (with_base w None start) (subst (λ (m : ℕ). IsBy (with_base w None start) m) e (taken_base start None (subst (λ (m : ℕ). is_open w m ≡ true) (sym e) is)))
  by_each start (suc bound) (suc k) lt le fits is =
      elim (at_start start k le) [
        | inl e ↦ kept_ends start (suc k) w.freeze (with_base w None start) (subst (λ (m : ℕ). IsBy (with_base w None start) m) e (taken_base start None (subst (λ (m : ℕ). is_open w m ≡ true) (sym e) is)))
        | inr below_it ↦
            let sooner : (d : ℕ) → start ≤ d → d ≤ k → is_open w d ≡ true → IsBy (opening_of w start) d = λ d from_it to_it was. by_each start bound d (omega (arith, lt, to_it)) from_it (omega (arith, fits, to_it)) was in
            elim (bool_cases (is_open w k)) [
              | inl was ↦ later_by (opening_of w start) k (suc k) (sooner k below_it (omega arith) was) (omega arith)
              | inr was ↦ by_step start k below_it fits is was sooner
            ]
      ]

-- ---- all windows of a name

-- it is from a moment on, and passes a test
abbrev IsPassing : (ℕ → Bool) → ℕ → Option ℕ → Type 0
IsPassing test start None = Unit {0}
IsPassing test start (Some b) = (start ≤ b) × (test b ≡ true)

passing_if : (test : ℕ → Bool) (start a b : ℕ) (t : Bool) → IsPassing test start (Some a) → IsPassing test start (Some b) → IsPassing test start (if t then Some b else Some a)
passing_if test start a b true h k = k
passing_if test start a b false h k = h

earlier_passing : (test : ℕ → Bool) (start : ℕ) (a b : Option ℕ) → IsPassing test start a → IsPassing test start b → IsPassing test start (earlier a b)
earlier_passing test start None b h k = k
earlier_passing test start (Some a) None h k = h
earlier_passing test start (Some a) (Some b) h k = passing_if test start a b (nat_lt b a) h k

first_by : (a b d : ℕ) (t : Bool) → nat_lt b a ≡ t → a ≤ d → IsBy (if t then Some b else Some a) d
first_by a b d true lt le = let h = from_below b a lt in omega (arith, h, le)
first_by a b d false lt le = le

second_by : (a b d : ℕ) (t : Bool) → nat_lt b a ≡ t → b ≤ d → IsBy (if t then Some b else Some a) d
second_by a b d true lt le = le
second_by a b d false lt le = let h = at_or_above b a lt in omega (arith, h, le)

earlier_first : (a b : Option ℕ) (d : ℕ) → IsBy a d → IsBy (earlier a b) d
earlier_first None b d h = absurd h
earlier_first (Some a) None d h = h
earlier_first (Some a) (Some b) d h = first_by a b d (nat_lt b a) refl h

earlier_second : (a b : Option ℕ) (d : ℕ) → IsBy b d → IsBy (earlier a b) d
earlier_second None b d h = h
earlier_second (Some a) None d h = absurd h
earlier_second (Some a) (Some b) d h = second_by a b d (nat_lt b a) refl h

good_passes : (w : WindowRow) (test : ℕ → Bool) (start : ℕ) (o : Option ℕ) → ((m : ℕ) → is_open w m ≡ true → test m ≡ true) → IsGood w start o → IsPassing test start o
good_passes w test start None passes h = tt
good_passes w test start (Some b) passes h = (h.0, passes b h.1)

module _ (name : List ℕ) (start : ℕ) where
  passing_window : (test : ℕ → Bool) (w : WindowRow) (best : Option ℕ) (t : Bool) → is_same w.name name ≡ t → ((m : ℕ) → is_open_as name m w ≡ true → test m ≡ true) → IsPassing test start best → IsPassing test start (if t then earlier best (opening_of w start) else best)
  passing_window test w best true is passes h =
      earlier_passing test start best (opening_of w start) h
      (good_passes w test start (opening_of w start) (λ m opens. passes m (both is opens)) (good_ends w start w.freeze (with_base w None start) (good_base w start start None (omega arith) tt)))
  passing_window test w best false is passes h = h

  passing_windows : (test : ℕ → Bool) (ws : List WindowRow) (best : Option ℕ) → ((m : ℕ) → list_any (is_open_as name m) ws ≡ true → test m ≡ true) → IsPassing test start best → IsPassing test start (with_windows name start best ws)
  passing_windows test [] best passes h = h
  passing_windows test (w ∷ ws) best passes h =
      passing_windows test ws (with_window name start best w) (λ m opens. passes m (or_right (is_open_as name m w) _ opens))
      (passing_window test w best (is_same w.name name) refl (λ m opens. passes m (or_left (is_open_as name m w) _ opens)) h)

  kept_window : (w : WindowRow) (best : Option ℕ) (d : ℕ) (t : Bool) → IsBy best d → IsBy (if t then earlier best (opening_of w start) else best) d
  kept_window w best d true h = earlier_first best (opening_of w start) d h
  kept_window w best d false h = h

  kept_windows : (ws : List WindowRow) (best : Option ℕ) (d : ℕ) → IsBy best d → IsBy (with_windows name start best ws) d
  kept_windows [] best d h = h
  kept_windows (w ∷ ws) best d h = kept_windows ws (with_window name start best w) d (kept_window w best d (is_same w.name name) h)

  taken_window : (w : WindowRow) (best : Option ℕ) (d : ℕ) (t : Bool) → is_same w.name name ≡ t → start ≤ d → d < 2 ^ 64 → is_open_as name d w ≡ true → IsBy (if t then earlier best (opening_of w start) else best) d
  taken_window w best d true is le fits opens = earlier_second best (opening_of w start) d (by_each w start (suc d) d (omega arith) le fits (right (is_same w.name name) _ opens))
  taken_window w best d false is le fits opens = absurd (true≢false (sym (left _ _ opens) ∙ is))

  taken_windows : (ws : List WindowRow) (best : Option ℕ) (d : ℕ) → start ≤ d → d < 2 ^ 64 → list_any (is_open_as name d) ws ≡ true → IsBy (with_windows name start best ws) d
  taken_windows [] best d le fits opens = absurd (true≢false (sym opens))
  taken_windows (w ∷ ws) best d le fits opens = elim (or_true (is_open_as name d w) (list_any (is_open_as name d) ws) opens) [
    | inl here ↦ kept_windows ws (with_window name start best w) d (taken_window w best d (is_same w.name name) refl le fits here)
    | inr there ↦ taken_windows ws (with_window name start best w) d le fits there
  ]

  -- what was found is the first moment at which a window of the name is open
  pub is_opening : (ws : List WindowRow) (found : Option ℕ) → found ≡ with_windows name start None ws → IfSome found (λ m. m < 2 ^ 64) → IsOpening ws name start found
  is_opening ws None is fits = λ k le few. is_false _ (λ opens. subst (λ (o : Option ℕ). IsBy o k) (sym is) (taken_windows ws None k le few opens))
  is_opening ws (Some m) is fits =
      let passing : IsPassing (λ k. list_any (is_open_as name k) ws) start (Some m) = subst (λ (o : Option ℕ). IsPassing (λ k. list_any (is_open_as name k) ws) start o) (sym is) (passing_windows (λ k. list_any (is_open_as name k) ws) ws None (λ k opens. opens) tt) in
      (passing.0, passing.1, λ k le lt. is_false _ (λ opens. let by : m ≤ k = subst (λ (o : Option ℕ). IsBy o k) (sym is) (taken_windows ws None k le (omega (arith, lt, fits)) opens) in omega (arith, by, lt)))
