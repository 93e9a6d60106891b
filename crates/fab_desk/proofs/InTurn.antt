-- What requests that are handled one after the other make of a desk.
use Rattle.std.proofs.Common.{ℕ, zero, suc, ◌≡◌, ◌≢◌, Bool, true, false, cond, List, [], ◌∷◌, ◌++◌, Option, Some, None, slice_get, inl, inr, refl, sym, ap, subst, ◌∙◌}
use Rattle.std.proofs.lemmas.Option.{same_Some}
use Rattle.fab_desk_machine.specs.fab_desk_base.Answers.{IsRun, IsStep, Request}
use Rattle.fab_desk_machine.specs.fab_desk_base.declared.fault.DeskFault.TheVariants as fault
use Rattle.fab_desk_machine.specs.fab_desk_base.declared.reply.Reply.{Reply}
use Rattle.fab_desk_machine.specs.fab_desk_base.declared.reply.Reply.TheVariants.{Refused}
use Rattle.fab_policy_base.specs.Policies.{PolicyRows}
use Rattle.fab_reach_base.specs.Records.{Records}
use Rattle.fab_store_base.specs.Worlds.{HoldsWorld}
use Rattle.fab_store_base.specs.declared.store.Store as store
use Rattle.fab_store_tables.specs.Tables.{Tables}
use Rattle.fab_world.specs.Worlds.{WorldRows}
use Rattle.fab_desk.specs.Desks.{IsTurnedAway, IsTied, IsServed, IsInDoubt, IsCleanDesk, IsTiedDesk, IsLeftByStop, IsAnsweredByDesk, IsHaltedBy, IsRead, is_done, done_replies, done_requests}
use Rattle.fab_desk.specs.Handled.{Handles, Asks, AreHandled, policy_of, world_of, serving_of, aside_of}
use Rattle.fab_desk.specs.declared.desk.Desk.{Desk}
use Rattle.fab_desk.proofs.AnsweredByDesk.{Goes, goes, clean_after, refused_keeps}

-- those so far are handled, and then one more
pub handled_more : {A S B R : Type 0} (g : store.Ghosts S A) (bounds : Records → Records → ℕ → ℕ → Type 0) (d m e : Desk A S B R) (qs : List (Request A)) (rs : List (Reply A)) (q : Request A) (r : Reply A)
    → AreHandled g bounds d qs rs m → Handles g m q r e → Asks bounds m q r e → AreHandled g bounds d (qs ++ q ∷ []) (rs ++ r ∷ []) e
handled_more g bounds d m e [] [] q r h s n = (e, subst (λ x. Handles g x q r e) h s, subst (λ x. Asks bounds x q r e) h n, refl)
handled_more g bounds d m e [] (x ∷ rs) q r h s n = absurd h
handled_more g bounds d m e (x ∷ qs) [] q r h s n = absurd h
handled_more g bounds d m e (x ∷ qs) (y ∷ rs) q r h s n = (h.0, h.1, h.2, handled_more g bounds h.0 m e qs rs q r h.3 s n)

-- ---- those that are done

-- the reply is none of those to a request that is not done
abbrev IsOfStep : {A : Type 0} → Reply A → Type 0
IsOfStep r = (r ≢ Refused fault.Memory) × (r ≢ Refused fault.Store) × (r ≢ Refused fault.Halted)

step_is_done : {A : Type 0} (r : Reply A) → IsOfStep r → is_done r ≡ true
step_is_done (Refused fault.Memory) none = absurd (none.0 refl)
step_is_done (Refused fault.Store) none = absurd (none.1 refl)
step_is_done (Refused fault.Halted) none = absurd (none.2 refl)
step_is_done _ none = refl

module _ {A : Type 0} (p : PolicyRows) (w next v : WorldRows) (q : Request A) (r : Reply A) (qs : List (Request A)) (rs : List (Reply A)) (rest : IsRun p next (done_requests qs rs) (done_replies rs) v) where
  -- the requests that are done, of which the first may be one
  abbrev RunsWith : Bool → Type 0
  RunsWith first = IsRun p w (cond first (q ∷ done_requests qs rs) (done_requests qs rs)) (cond first (r ∷ done_replies rs) (done_replies rs)) v

  not_done : is_done r ≡ false → next ≡ w → RunsWith (is_done r)
  not_done undone same = subst RunsWith (sym undone) (subst (λ u. IsRun p u (done_requests qs rs) (done_replies rs) v) same rest)

  run_more : (IsStep p w q r next → IsOfStep r) → IsAnsweredByDesk p w q r next → RunsWith (is_done r)
  run_more done (inl halted) = not_done (ap is_done halted.0) halted.1
  run_more done (inr (inl (inl memory, same))) = not_done (ap is_done memory) same
  run_more done (inr (inl (inr store, same))) = not_done (ap is_done store) same
  run_more done (inr (inr step)) = subst RunsWith (sym (step_is_done r (done step))) (next, step, rest)

-- ---- the change that the store refused

module _ {A : Type 0} (q : Request A) (r : Reply A) (qs : List (Request A)) (rs : List (Reply A)) where
  -- it is one of those behind this one
  halted_later : (x : Request A) → (r ≡ Refused fault.Store → (¬ IsRead q) → ⊥) → IsHaltedBy qs rs x → IsHaltedBy (q ∷ qs) (r ∷ rs) x
  halted_later x not h = record { place = suc h.place; at = h.at; refused = h.refused; change = h.change; only = one }
    where
      one : (i : ℕ) (y : Request A) → slice_get (q ∷ qs) i ≡ Some y → slice_get (r ∷ rs) i ≡ Some (Refused fault.Store) → (¬ IsRead y) → i ≡ suc h.place
      one zero y at is change = absurd (not (same_Some _ _ is) (subst (λ z. ¬ IsRead z) (sym (same_Some _ _ at)) change))
      one (suc i) y at is change = ap suc (h.only i y at is change)

  -- it is this one
  halted_here : r ≡ Refused fault.Store → (¬ IsRead q) → ((i : ℕ) → slice_get rs i ≡ Some (Refused fault.Store) → ⊥) → IsHaltedBy (q ∷ qs) (r ∷ rs) q
  halted_here refused change none = record { place = zero; at = refl; refused = ap Some refused; change = change; only = one }
    where
      one : (i : ℕ) (y : Request A) → slice_get (q ∷ qs) i ≡ Some y → slice_get (r ∷ rs) i ≡ Some (Refused fault.Store) → (¬ IsRead y) → i ≡ zero
      one zero y at is not = refl
      one (suc i) y at is not = absurd (none i is)

turned_away : {A : Type 0} (p : PolicyRows) (token : List ℕ) (r : Reply A) → IsTurnedAway p token r → r ≡ Refused fault.Store → ⊥
turned_away p token r (inl nobody) is = let e = sym nobody.1 ∙ is in absurd cc
turned_away p token r (inr halted) is = let e = sym halted.1 ∙ is in absurd cc

module _ {A S : Type 0} (g : store.Ghosts S A) where
  -- what a stop leaves, where the store refused a later one, or none
  left_later : (p p' : PolicyRows) (w : WorldRows) (q : Request A) (r : Reply A) (qs : List (Request A)) (rs : List (Reply A)) (serving aside : Option S) → p' ≡ p → (r ≡ Refused fault.Store → (¬ IsRead q) → ⊥)
      → IsLeftByStop g p' qs rs serving aside w → IsLeftByStop g p (q ∷ qs) (r ∷ rs) serving aside w
  left_later p p' w q r qs rs serving aside same not (inl on) = inl on
  left_later p p' w q r qs rs serving aside same not (inr (s, x, none, is, halted, doubt)) = inr (s, x, none, is, halted_later q r qs rs x not halted, subst (λ u. IsInDoubt g u w x s) same doubt)

-- ---- a list of requests

module _ {A S B R : Type 0} (g : store.Ghosts S A) (bounds : Records → Records → ℕ → ℕ → Type 0) (done : (p : PolicyRows) (w : WorldRows) (q : Request A) (r : Reply A) (v : WorldRows) → IsStep p w q r v → IsOfStep r) where
  abbrev IsClean : Desk A S B R → Type 0
  IsClean d = IsCleanDesk g (serving_of d) (aside_of d)

  abbrev IsBound : Desk A S B R → Type 0
  IsBound d = IsTiedDesk g (serving_of d) (world_of d)

  -- what one of them makes of it
  turn : (d e : Desk A S B R) (q : Request A) (r : Reply A) → Handles g d q r e → Goes g (policy_of d) (world_of d) (world_of e) q r (serving_of d) (aside_of d) (serving_of e) (aside_of e)
  turn d e q r h = goes g (policy_of d) (world_of d) (world_of e) q r (serving_of d) (aside_of d) (serving_of e) (aside_of e)
      (λ step. (done (policy_of d) (world_of d) q r (world_of e) step).1)
      (λ none. let away = h.halted none in (away.0, ap serving_of away.1, ap aside_of away.1, ap world_of away.1))
      h.served

  -- what all of them make of it
  pub record Run (d : Desk A S B R) (qs : List (Request A)) (rs : List (Reply A)) (e : Desk A S B R) : Type 0 where
    pub policy : policy_of e ≡ policy_of d
    pub clean : IsClean e → IsClean d
    pub bound : IsClean e → IsBound d → IsBound e
    pub leads : IsClean e → IsBound d → IsRun (policy_of d) (world_of d) (done_requests qs rs) (done_replies rs) (world_of e)

  pub run : (d e : Desk A S B R) (qs : List (Request A)) (rs : List (Reply A)) → AreHandled g bounds d qs rs e → Run d qs rs e
  run d e [] [] h = record { policy = ap policy_of h; clean = λ clean. subst IsClean h clean; bound = λ clean bound. subst IsBound (sym h) bound; leads = λ clean bound. ap world_of h }
  run d e [] (r ∷ rs) h = absurd h
  run d e (q ∷ qs) [] h = absurd h
  run d e (q ∷ qs) (r ∷ rs) h =
      let one = turn d h.0 q r h.1 in
      let rest = run h.0 e qs rs h.3 in
      record {
        policy = rest.policy ∙ h.1.policy;
        clean = λ clean. one.clean (rest.clean clean);
        bound = λ clean bound. rest.bound clean (one.tied (rest.clean clean) bound);
        leads = λ clean bound. run_more (policy_of d) (world_of d) (world_of h.0) (world_of e) q r qs rs
            (subst (λ p. IsRun p (world_of h.0) (done_requests qs rs) (done_replies rs) (world_of e)) h.1.policy (rest.leads clean (one.tied (rest.clean clean) bound)))
            (done (policy_of d) (world_of d) q r (world_of h.0)) (one.told (rest.clean clean) bound);
      }

  -- a halted desk stays as it is
  pub stays : (d e : Desk A S B R) (qs : List (Request A)) (rs : List (Reply A)) → AreHandled g bounds d qs rs e → serving_of d ≡ None → e ≡ d
  stays d e [] [] h none = h
  stays d e [] (r ∷ rs) h none = absurd h
  stays d e (q ∷ qs) [] h none = absurd h
  stays d e (q ∷ qs) (r ∷ rs) h none = let away = h.1.halted none in stays h.0 e qs rs h.3 (ap serving_of away.1 ∙ none) ∙ away.1

  -- and asks its store for nothing
  none_refused : (d e : Desk A S B R) (qs : List (Request A)) (rs : List (Reply A)) → AreHandled g bounds d qs rs e → serving_of d ≡ None → (i : ℕ) → slice_get rs i ≡ Some (Refused fault.Store) → ⊥
  none_refused d e [] [] h none i is = absurd cc
  none_refused d e [] (r ∷ rs) h none i is = absurd h
  none_refused d e (q ∷ qs) [] h none i is = absurd h
  none_refused d e (q ∷ qs) (r ∷ rs) h none zero is = turned_away (policy_of d) q.token r (h.1.halted none).0 (same_Some _ _ is)
  none_refused d e (q ∷ qs) (r ∷ rs) h none (suc i) is = none_refused h.0 e qs rs h.3 (ap serving_of (h.1.halted none).1 ∙ none) i is

  -- what a stop leaves, where the store refused this one
  left_here : (d n e : Desk A S B R) (q : Request A) (r : Reply A) (qs : List (Request A)) (rs : List (Reply A)) (s : S) (h : IsServed g (policy_of d) (world_of d) q r s (serving_of n) (aside_of n) (world_of n))
      → AreHandled g bounds n qs rs e → g.is_clean h.after → IsTied g s (world_of d) → (serving_of n ≡ None) × (aside_of n ≡ Some h.after) × (r ≡ Refused fault.Store)
      → IsLeftByStop g (policy_of d) (q ∷ qs) (r ∷ rs) (serving_of e) (aside_of e) (world_of e)
  left_here d n e q r qs rs s h rest clean tied off =
      let p = policy_of d in
      let same : e ≡ n = stays n e qs rs rest off.0 in
      let kept : world_of e ≡ world_of d = ap world_of same ∙ refused_keeps g p (world_of d) (world_of n) q r (λ step. (done p (world_of d) q r (world_of n) step).1) off.2 (h.answers clean tied) in
      inr (
        h.after,
        q,
        ap serving_of same ∙ off.0,
        ap aside_of same ∙ off.1,
        halted_here q r qs rs off.2 ((h.halts off.2).0 off.0) (none_refused n e qs rs rest off.0),
        subst (λ w. IsInDoubt g p w q h.after) (sym kept) (h.doubt clean tied),
      )

  pub left : (d e : Desk A S B R) (qs : List (Request A)) (rs : List (Reply A)) → AreHandled g bounds d qs rs e → IsClean e → (s : S) → serving_of d ≡ Some s → IsTied g s (world_of d)
      → IsLeftByStop g (policy_of d) qs rs (serving_of e) (aside_of e) (world_of e)
  left d e [] [] h clean s is tied = inl (s, ap serving_of h ∙ is, subst (λ w. (t : Tables) → g.may_leave s t → HoldsWorld t w) (sym (ap world_of h)) tied.leaves)
  left d e [] (r ∷ rs) h clean s is tied = absurd h
  left d e (q ∷ qs) [] h clean s is tied = absurd h
  left d e (q ∷ qs) (r ∷ rs) h clean s is tied =
      let n = h.0 in
      let served = h.1.served s is in
      let after = clean_after g (policy_of d) (world_of d) (world_of n) q r s (serving_of n) (aside_of n) served ((run n e qs rs h.3).clean clean) in
      elim served.kept [
        | inl on ↦ left_later g (policy_of d) (policy_of n) (world_of e) q r qs rs (serving_of e) (aside_of e) h.1.policy
            (λ refused change. let none = sym on ∙ (served.halts refused).1 change in absurd cc)
            (left n e qs rs h.3 clean served.after on (served.tied after tied on))
        | inr off ↦ left_here d n e q r qs rs s served h.3 after tied off
      ]
