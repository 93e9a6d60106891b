-- Room for the parts of a change: over it they make the same world, and given back it leaves the world
-- as it was.
use Rattle.std.proofs.Common.{◌≡◌, ◌-◌, ℕ, List, [], ◌∷◌, ◌++◌, length, Bool, true, false, cond, Option, None, Some, is_some, refl, sym, ap, ◌∙◌, arith}
use mathlib.Core.Bool.{true≢false}
use Rattle.std.specs.Cmp.{Equal-is, tied_itself}
use Rattle.std.specs.FinMap as map
use Rattle.std.specs.Ordering.{eq_by_cmp, is_eq}
use Rattle.std.proofs.lemmas.List.{length-append, take_at}
use Rattle.fab_reach_base.specs.fab_names.Orders.{name_cmp}
use Rattle.fab_reach_base.proofs.fab_names.OrderLaws.{name_total, name_exact}
use Rattle.fab_world.specs.PlanRecords.{PlanRecord}
use Rattle.fab_world.specs.Worlds.{WorldRows, records_of}
use Rattle.fab_desk_base.specs.Effects.{with_plan}
use Rattle.fab_desk_commands.specs.Nexts.{all_but_last, blank_plan, next_world, order_with_room, order_without_room, with_room, without_room, Suits}
use Rattle.fab_desk_commands.specs.declared.next.Next.{Next}
use Rattle.fab_desk_commands.specs.declared.next.Next.TheVariants.{Same, Stock, Staged, Turned, Reconfigured}
use Rattle.fab_desk_commands.specs.declared.next.Turn.{Turn}
use Rattle.fab_desk_commands.specs.declared.next.Turn.TheVariants.{Withdrawn, Approved, Activated, RolledBack}

abbrev Plans : Type 0
Plans = map.FinMap name_cmp PlanRecord

put_over : (b : Bool) (p q : PlanRecord) (old : Option PlanRecord) → cond b (Some q) (cond b (Some p) old) ≡ cond b (Some q) old
put_over true p q old = refl
put_over false p q old = refl

-- a plan put in the place of another
twice : (plans : Plans) (n : List ℕ) (p q : PlanRecord) → map.insert (map.insert plans n p) n q ≡ map.insert plans n q
twice plans n p q = map.same_map name_total name_exact _ _ (λ k.
    map.get-insert name_total (map.insert plans n p) n q k
    ∙ ap (cond (eq_by_cmp name_cmp k n) (Some q)) (map.get-insert name_total plans n p k)
    ∙ put_over (eq_by_cmp name_cmp k n) p q (map.get plans k)
    ∙ sym (map.get-insert name_total plans n q k))

none_at : (o : Option PlanRecord) → is_some o ≡ false → o ≡ None
none_at None none = refl
none_at (Some p) none = absurd (true≢false none)

put_and_taken : (b : Bool) (p : PlanRecord) (old : Option PlanRecord) → (b ≡ true → old ≡ None) → cond b None (cond b (Some p) old) ≡ old
put_and_taken true p old none = sym (none refl)
put_and_taken false p old none = refl

-- a plan put where there is none, and taken away
taken_back : (plans : Plans) (n : List ℕ) (p : PlanRecord) → map.contains_key plans n ≡ false → map.remove (map.insert plans n p) n ≡ plans
taken_back plans n p absent = map.same_map name_total name_exact _ _ (λ k.
    let none : eq_by_cmp name_cmp k n ≡ true → map.get plans k ≡ None = λ at. ap (map.get plans) (name_exact k n ((Equal-is (name_cmp k n)).0 at)) ∙ none_at (map.get plans n) absent in
    map.get-remove name_total (map.insert plans n p) n k
    ∙ ap (cond (eq_by_cmp name_cmp k n) None) (map.get-insert name_total plans n p k)
    ∙ put_and_taken (eq_by_cmp name_cmp k n) p (map.get plans k) none)

-- a plan that is put is there
pub put_there : (plans : Plans) (n : List ℕ) (p : PlanRecord) → map.contains_key (map.insert plans n p) n ≡ true
put_there plans n p = ap is_some (map.get-insert name_total plans n p n ∙ ap (λ b. cond b (Some p) (map.get plans n)) (ap is_eq (tied_itself name_total n)))

abbrev with_plans : WorldRows → Plans → WorldRows
with_plans w plans = record w { plans = plans }

-- ---- the order

-- names with one more behind them, without the last
pub without_last : (rest : List (List ℕ)) (n : List ℕ) → all_but_last (rest ++ n ∷ []) ≡ rest
without_last rest n = let grown = length-append rest (n ∷ []) in take_at rest (n ∷ []) (length (rest ++ n ∷ []) - 1) (omega (arith, grown))

module _ {A : Type 0} (n : List ℕ) (order : List (List ℕ)) where
  order_back : (t : Turn A) → order_without_room t (order_with_room t n order) ≡ order
  order_back Withdrawn = refl
  order_back (Approved given) = refl
  order_back (Activated change) = without_last order n
  order_back (RolledBack change) = refl

-- ---- the world

-- a plan that is put in the place made for it is as one that is put
pub placed_over : (w : WorldRows) (n : List ℕ) (p : PlanRecord) → with_plan n p (with_plan n (blank_plan n) w) ≡ with_plan n p w
placed_over w n p = ap (with_plans w) (twice w.plans n (blank_plan n) p)

module _ {A : Type 0} (w : WorldRows) where
  -- room is no port, no holder, no volume, and nothing of the configuration
  pub records_stay : (next : Next A) → records_of (with_room w next) ≡ records_of w
  records_stay Same = refl
  records_stay (Stock v d) = refl
  records_stay (Staged n p) = refl
  records_stay (Turned n t) = refl
  records_stay (Reconfigured c n t) = refl

  -- over the room the parts make a world of the same inventory and configuration
  pub records_led : (next : Next A) → records_of (next_world (with_room w next) next) ≡ records_of (next_world w next)
  records_led Same = refl
  records_led (Stock v d) = refl
  records_led (Staged n p) = refl
  records_led (Turned n t) = refl
  records_led (Reconfigured c n t) = refl

  -- room that is given back
  pub given_back : (next : Next A) → Suits w next → without_room (with_room w next) next ≡ w
  given_back Same h = refl
  given_back (Stock v d) h = refl
  given_back (Staged n p) h = ap (with_plans w) (taken_back w.plans n (blank_plan n) h)
  given_back (Turned n t) h = refl
  given_back (Reconfigured c n t) h = ap (λ (order : List (List ℕ)). let v : WorldRows = record w { order = order } in v) (order_back n w.order t)
