-- A request leads to one world, and is refused or not.
use Rattle.std.proofs.Common.{ℕ, ◌≡◌, ◌⊎◌, inl, inr, List, length, slice_get, sym, ap, ◌∙◌, subst}
use Rattle.std.proofs.lemmas.Option.{same_Some}
use Rattle.fab_policy.specs.declared.act.Need.{Need}
use Rattle.fab_policy.specs.declared.act.Verdict.{Verdict}
use Rattle.fab_policy.specs.declared.act.Verdict.TheVariants.{Allowed, Denied}
use Rattle.fab_policy.specs.fab_policy_base.Policies.{CallerRow, PolicyRows}
use Rattle.fab_world.specs.Worlds.{WorldRows}
use Rattle.fab_desk_base.specs.Answers.{IsKept, IsReport, IsLeft, IsDeniedWith, IsRefusedWith, IsCarriedOut, IsOutcomeFor, IsAnswerTo, Request, IsStep}
use Rattle.fab_desk_base.specs.Commands.{tried}
use Rattle.fab_desk_base.specs.declared.command.Command.{Command}
use Rattle.fab_desk_base.specs.declared.command.Command.TheVariants.{Import, PutHolder, PutVolume, DropHolder, DropVolume, Stage, Withdraw, Approve, DryRun, Activate, Rollback, Show}
use Rattle.fab_desk_base.specs.declared.fault.DeskFault.{DeskFault}
use Rattle.fab_desk_base.specs.declared.fault.DeskFault.TheVariants as fault
use Rattle.fab_desk_base.specs.declared.reply.Reply.{Reply}
use Rattle.fab_desk_base.specs.declared.reply.Reply.TheVariants as reply
use Rattle.fab_desk_base.specs.declared.reply.Shown.{Shown}
use Rattle.fab_desk_base.specs.Laws.{IsRefusal, Agree}
use Rattle.fab_desk_base.proofs.OneVerdict.{judged_once}
use Rattle.fab_desk_base.proofs.Tried.{done_not_refused, one_done}

-- what is denied is not allowed
pub denied_or_allowed : (rule : ℕ) (name : List ℕ) (need : Need) → ¬ (Denied rule name need ≡ Allowed)
denied_or_allowed rule name need e = absurd cc

-- what is shown, and what is reported, is no refusal
pub shown_not_refused : {A : Type 0} (r : Reply A) (s : Shown A) → r ≡ reply.Shown s → ¬ IsRefusal r
shown_not_refused r s is (f, refused) = let e : reply.Shown s ≡ reply.Refused f = sym is ∙ refused in absurd cc

module _ {A : Type 0} (w : WorldRows) where
  pub report_not_refused : (c : Command A) (new : WorldRows) (r : Reply A) → IsReport w c new r → ¬ IsRefusal r
  report_not_refused (Import f rows) new r is (q, refused) = let e : reply.Changed new.revision ≡ reply.Refused q = sym is ∙ refused in absurd cc
  report_not_refused (PutHolder kind n t ports) new r is (q, refused) = let e : reply.Changed new.revision ≡ reply.Refused q = sym is ∙ refused in absurd cc
  report_not_refused (PutVolume n x) new r is (q, refused) = let e : reply.Changed new.revision ≡ reply.Refused q = sym is ∙ refused in absurd cc
  report_not_refused (DropHolder kind n) new r is (q, refused) = let e : reply.Changed new.revision ≡ reply.Refused q = sym is ∙ refused in absurd cc
  report_not_refused (DropVolume n) new r is (q, refused) = let e : reply.Changed new.revision ≡ reply.Refused q = sym is ∙ refused in absurd cc
  report_not_refused (Stage n steps) new r is (q, refused) = let e : reply.Staged n (length steps.items) ≡ reply.Refused q = sym is ∙ refused in absurd cc
  report_not_refused (Withdraw n) new r is (q, refused) = let e : reply.Withdrawn n ≡ reply.Refused q = sym is ∙ refused in absurd cc
  report_not_refused (Approve n) new r is (q, refused) = let e : reply.Approved n is.0 new.revision ≡ reply.Refused q = sym is.1 ∙ refused in absurd cc
  report_not_refused (DryRun n) new r is (q, refused) = let e : reply.Tried n is.0 ≡ reply.Refused q = sym is.1 ∙ refused in absurd cc
  report_not_refused (Activate n) new r is (q, refused) = let e : reply.Reconfigured n is.0 new.revision ≡ reply.Refused q = sym is.1 ∙ refused in absurd cc
  report_not_refused (Rollback n) new r is (q, refused) = let e : reply.Reconfigured n is.0 new.revision ≡ reply.Refused q = sym is.1 ∙ refused in absurd cc
  report_not_refused (Show x) new r is refused = absurd is

  -- one effect leaves one world
  left_once : (c : Command A) (e f a b : WorldRows) → e ≡ f → IsLeft w c e a → IsLeft w c f b → a ≡ b
  left_once (DryRun n) e f a b same h k = h ∙ sym k
  left_once (Import g rows) e f a b same h k = h ∙ same ∙ sym k
  left_once (PutHolder kind n t ports) e f a b same h k = h ∙ same ∙ sym k
  left_once (PutVolume n x) e f a b same h k = h ∙ same ∙ sym k
  left_once (DropHolder kind n) e f a b same h k = h ∙ same ∙ sym k
  left_once (DropVolume n) e f a b same h k = h ∙ same ∙ sym k
  left_once (Stage n steps) e f a b same h k = h ∙ same ∙ sym k
  left_once (Withdraw n) e f a b same h k = h ∙ same ∙ sym k
  left_once (Approve n) e f a b same h k = h ∙ same ∙ sym k
  left_once (Activate n) e f a b same h k = h ∙ same ∙ sym k
  left_once (Rollback n) e f a b same h k = h ∙ same ∙ sym k
  left_once (Show x) e f a b same h k = h ∙ same ∙ sym k

  -- two refusals leave the world as it was
  both_kept : (f g : DeskFault) (r s : Reply A) (a b : WorldRows) → IsKept w f r a → IsKept w g s b → Agree r s a b
  both_kept f g r s a b h k = record { world = h.1 ∙ sym k.1; refused = ((λ _. (g, k.0)), λ _. (f, h.0)) }

  module _ (p : PolicyRows) (id : ℕ) (caller : List ℕ) (moment : ℕ) (c : Command A) where
    -- what is refused by the policy or by the records
    abbrev IsTurnedDown : Reply A → WorldRows → Type 0
    IsTurnedDown r new = (q : DeskFault) × (IsDeniedWith p w id caller moment c q ⊎ IsRefusedWith p w id caller moment c q) × IsKept w q r new

    turned_down_or_done : (r s : Reply A) (a b : WorldRows) → IsTurnedDown r a → ¬ IsCarriedOut p w id caller moment c s b
    turned_down_or_done r s a b (q, inl (rule, name, need, judged, is), kept) done = denied_or_allowed rule name need (judged_once w p id caller moment c (Denied rule name need) Allowed judged done.allowed)
    turned_down_or_done r s a b (q, inr (judged, refused), kept) done = done_not_refused w caller (tried c) done.effect q done.is refused

    both_done : (r s : Reply A) (a b : WorldRows) → IsCarriedOut p w id caller moment c r a → IsCarriedOut p w id caller moment c s b → Agree r s a b
    both_done r s a b h k = record {
      world = left_once c h.effect k.effect a b (one_done w caller (tried c) h.effect k.effect h.is k.is) h.left k.left;
      refused = ((λ is. absurd (report_not_refused c h.effect r h.report is)), λ is. absurd (report_not_refused c k.effect s k.report is));
    }

    one_end : (r s : Reply A) (a b : WorldRows) → IsTurnedDown r a ⊎ IsCarriedOut p w id caller moment c r a → IsTurnedDown s b ⊎ IsCarriedOut p w id caller moment c s b → Agree r s a b
    one_end r s a b (inl h) (inl k) = both_kept h.0 k.0 r s a b h.2 k.2
    one_end r s a b (inl h) (inr k) = absurd (turned_down_or_done r s a b h k)
    one_end r s a b (inr h) (inl k) = absurd (turned_down_or_done s r b a k h)
    one_end r s a b (inr h) (inr k) = both_done r s a b h k

    pub one_denial : (f g : DeskFault) → IsDeniedWith p w id caller moment c f → IsDeniedWith p w id caller moment c g → f ≡ g
    one_denial f g (rule, name, need, judged, is) (rule2, name2, need2, again, too) =
        is ∙ as_fault (Denied rule name need) (Denied rule2 name2 need2) (judged_once w p id caller moment c (Denied rule name need) (Denied rule2 name2 need2) judged again) ∙ sym too
      where
        fault_of : Verdict → DeskFault
        fault_of Allowed = fault.NotFound
        fault_of (Denied rule name need) = fault.Denied rule name need

        as_fault : (u v : Verdict) → u ≡ v → fault_of u ≡ fault_of v
        as_fault u v e = ap fault_of e

  module _ (p : PolicyRows) (id : ℕ) (caller : List ℕ) (moment : ℕ) where
    one_outcome : (c : Command A) (r s : Reply A) (a b : WorldRows) → IsOutcomeFor p w id caller moment c r a → IsOutcomeFor p w id caller moment c s b → Agree r s a b
    one_outcome (Show q) r s a b (x, shows, is, new) (y, shows2, is2, new2) = record {
      world = new ∙ sym new2;
      refused = ((λ refused. absurd (shown_not_refused r x is refused)), λ refused. absurd (shown_not_refused s y is2 refused));
    }
    one_outcome (Import f rows) r s a b h k = one_end p id caller moment (Import f rows) r s a b h k
    one_outcome (PutHolder kind n t ports) r s a b h k = one_end p id caller moment (PutHolder kind n t ports) r s a b h k
    one_outcome (PutVolume n x) r s a b h k = one_end p id caller moment (PutVolume n x) r s a b h k
    one_outcome (DropHolder kind n) r s a b h k = one_end p id caller moment (DropHolder kind n) r s a b h k
    one_outcome (DropVolume n) r s a b h k = one_end p id caller moment (DropVolume n) r s a b h k
    one_outcome (Stage n steps) r s a b h k = one_end p id caller moment (Stage n steps) r s a b h k
    one_outcome (Withdraw n) r s a b h k = one_end p id caller moment (Withdraw n) r s a b h k
    one_outcome (Approve n) r s a b h k = one_end p id caller moment (Approve n) r s a b h k
    one_outcome (DryRun n) r s a b h k = one_end p id caller moment (DryRun n) r s a b h k
    one_outcome (Activate n) r s a b h k = one_end p id caller moment (Activate n) r s a b h k
    one_outcome (Rollback n) r s a b h k = one_end p id caller moment (Rollback n) r s a b h k

    one_reply : (c : Command A) (r s : Reply A) (a b : WorldRows) → IsAnswerTo p w id caller moment c r a → IsAnswerTo p w id caller moment c s b → Agree r s a b
    one_reply c r s a b (inl h) (inl k) = both_kept (fault.BadBody 0) (fault.BadBody 0) r s a b h.1 k.1
    one_reply c r s a b (inl h) (inr (inl k)) = absurd (h.0 k.0)
    one_reply c r s a b (inl h) (inr (inr k)) = absurd (h.0 k.0)
    one_reply c r s a b (inr (inl h)) (inl k) = absurd (k.0 h.0)
    one_reply c r s a b (inr (inr h)) (inl k) = absurd (k.0 h.0)
    one_reply c r s a b (inr (inl h)) (inr (inl k)) = both_kept fault.NotFound fault.NotFound r s a b h.2 k.2
    one_reply c r s a b (inr (inl h)) (inr (inr k)) = absurd (h.1 k.1)
    one_reply c r s a b (inr (inr h)) (inr (inl k)) = absurd (k.1 h.1)
    one_reply c r s a b (inr (inr h)) (inr (inr k)) = one_outcome c r s a b h.2 k.2

  pub one_answer : (p : PolicyRows) (q : Request A) (r s : Reply A) (a b : WorldRows) → IsStep p w q r a → IsStep p w q s b → Agree r s a b
  one_answer p q r s a b (inl h) (inl k) = both_kept fault.NoCaller fault.NoCaller r s a b h.1 k.1
  one_answer p q r s a b (inl h) (inr (id, caller, only, row, answer)) = absurd (h.0 id only.has)
  one_answer p q r s a b (inr (id, caller, only, row, answer)) (inl k) = absurd (k.0 id only.has)
  one_answer p q r s a b (inr (id, caller, only, row, answer)) (inr (id2, caller2, only2, row2, answer2)) =
      let same : id2 ≡ id = only.only id2 only2.has in
      let name : caller2 ≡ caller = same_Some caller2 caller (sym row2 ∙ ap (slice_get p.callers) same ∙ row) in
      one_reply p id caller.name q.moment q.command r s a b answer (subst (λ (x : CallerRow). IsAnswerTo p w id x.name q.moment q.command s b) name (subst (λ i. IsAnswerTo p w i caller2.name q.moment q.command s b) same answer2))
