-- Two refusals of one request are one.
use Rattle.std.proofs.Common.{ℕ, ◌≡◌, ◌⊎◌, inl, inr, List, slice_get, refl, sym, ap, ◌∙◌, subst}
use Rattle.std.proofs.lemmas.Option.{same_Some}
use Rattle.fab_policy.specs.declared.act.Verdict.TheVariants.{Allowed, Denied}
use Rattle.fab_policy.specs.fab_policy_base.Policies.{CallerRow, PolicyRows}
use Rattle.fab_world.specs.Worlds.{WorldRows}
use Rattle.fab_desk_base.specs.Answers.{IsKept, IsDeniedWith, IsRefusedWith, IsCarriedOut, IsOutcomeFor, IsAnswerTo, Request, IsStep}
use Rattle.fab_desk_base.specs.Commands.{tried}
use Rattle.fab_desk_base.specs.declared.command.Command.{Command}
use Rattle.fab_desk_base.specs.declared.command.Command.TheVariants.{Import, PutHolder, PutVolume, DropHolder, DropVolume, Stage, Withdraw, Approve, DryRun, Activate, Rollback, Show}
use Rattle.fab_desk_base.specs.declared.fault.DeskFault.{DeskFault}
use Rattle.fab_desk_base.specs.declared.fault.DeskFault.TheVariants as fault
use Rattle.fab_desk_base.specs.declared.reply.Reply.{Reply}
use Rattle.fab_desk_base.specs.declared.reply.Reply.TheVariants as reply
use Rattle.fab_desk_base.proofs.OneVerdict.{judged_once}
use Rattle.fab_desk_base.proofs.OneFault.{one_fault}
use Rattle.fab_desk_base.proofs.OneAnswer.{denied_or_allowed, shown_not_refused, report_not_refused, one_denial}

-- the fault of a refusal
fault_in : {A : Type 0} → Reply A → DeskFault
fault_in (reply.Refused q) = q
fault_in other = fault.NotFound

module _ {A : Type 0} (w : WorldRows) where
  kept_fault : (f q : DeskFault) (new : WorldRows) → IsKept {A = A} w q (reply.Refused f) new → f ≡ q
  unfolding fault_in
  kept_fault f q new h = ap fault_in h.0

  -- the same fault twice
  both_kept : (f g q : DeskFault) (a b : WorldRows) → IsKept {A = A} w q (reply.Refused f) a → IsKept {A = A} w q (reply.Refused g) b → f ≡ g
  both_kept f g q a b h k = kept_fault f q a h ∙ sym (kept_fault g q b k)

  module _ (p : PolicyRows) (id : ℕ) (caller : List ℕ) (moment : ℕ) where
    one_turn : (c : Command A) (f g : DeskFault) → IsDeniedWith p w id caller moment c f ⊎ IsRefusedWith p w id caller moment c f
        → IsDeniedWith p w id caller moment c g ⊎ IsRefusedWith p w id caller moment c g → f ≡ g
    one_turn c f g (inl h) (inl k) = one_denial w p id caller moment c f g h k
    one_turn c f g (inl (rule, name, need, judged, is)) (inr k) = absurd (denied_or_allowed rule name need (judged_once w p id caller moment c (Denied rule name need) Allowed judged k.0))
    one_turn c f g (inr h) (inl (rule, name, need, judged, is)) = absurd (denied_or_allowed rule name need (judged_once w p id caller moment c (Denied rule name need) Allowed judged h.0))
    one_turn c f g (inr h) (inr k) = one_fault w caller (tried c) f g h.1 k.1

    abbrev IsTurnedDown : Command A → Reply A → WorldRows → Type 0
    IsTurnedDown c r new = (q : DeskFault) × (IsDeniedWith p w id caller moment c q ⊎ IsRefusedWith p w id caller moment c q) × IsKept w q r new

    one_end : (c : Command A) (f g : DeskFault) (a b : WorldRows) → IsTurnedDown c (reply.Refused f) a ⊎ IsCarriedOut p w id caller moment c (reply.Refused f) a
        → IsTurnedDown c (reply.Refused g) b ⊎ IsCarriedOut p w id caller moment c (reply.Refused g) b → f ≡ g
    one_end c f g a b (inl (q, h, kept)) (inl (r, k, too)) = kept_fault f q a kept ∙ one_turn c q r h k ∙ sym (kept_fault g r b too)
    one_end c f g a b (inl h) (inr k) = absurd (report_not_refused w c k.effect (reply.Refused g) k.report (g, refl))
    one_end c f g a b (inr h) k = absurd (report_not_refused w c h.effect (reply.Refused f) h.report (f, refl))

    one_outcome : (c : Command A) (f g : DeskFault) (a b : WorldRows) → IsOutcomeFor p w id caller moment c (reply.Refused f) a → IsOutcomeFor p w id caller moment c (reply.Refused g) b → f ≡ g
    one_outcome (Show q) f g a b (x, shows, is, new) k = absurd (shown_not_refused (reply.Refused f) x is (f, refl))
    one_outcome (Import e rows) f g a b h k = one_end (Import e rows) f g a b h k
    one_outcome (PutHolder kind n t ports) f g a b h k = one_end (PutHolder kind n t ports) f g a b h k
    one_outcome (PutVolume n x) f g a b h k = one_end (PutVolume n x) f g a b h k
    one_outcome (DropHolder kind n) f g a b h k = one_end (DropHolder kind n) f g a b h k
    one_outcome (DropVolume n) f g a b h k = one_end (DropVolume n) f g a b h k
    one_outcome (Stage n steps) f g a b h k = one_end (Stage n steps) f g a b h k
    one_outcome (Withdraw n) f g a b h k = one_end (Withdraw n) f g a b h k
    one_outcome (Approve n) f g a b h k = one_end (Approve n) f g a b h k
    one_outcome (DryRun n) f g a b h k = one_end (DryRun n) f g a b h k
    one_outcome (Activate n) f g a b h k = one_end (Activate n) f g a b h k
    one_outcome (Rollback n) f g a b h k = one_end (Rollback n) f g a b h k

    one_reply : (c : Command A) (f g : DeskFault) (a b : WorldRows) → IsAnswerTo p w id caller moment c (reply.Refused f) a → IsAnswerTo p w id caller moment c (reply.Refused g) b → f ≡ g
    one_reply c f g a b (inl h) (inl k) = both_kept f g (fault.BadBody 0) a b h.1 k.1
    one_reply c f g a b (inl h) (inr (inl k)) = absurd (h.0 k.0)
    one_reply c f g a b (inl h) (inr (inr k)) = absurd (h.0 k.0)
    one_reply c f g a b (inr (inl h)) (inl k) = absurd (k.0 h.0)
    one_reply c f g a b (inr (inr h)) (inl k) = absurd (k.0 h.0)
    one_reply c f g a b (inr (inl h)) (inr (inl k)) = both_kept f g fault.NotFound a b h.2 k.2
    one_reply c f g a b (inr (inl h)) (inr (inr k)) = absurd (h.1 k.1)
    one_reply c f g a b (inr (inr h)) (inr (inl k)) = absurd (k.1 h.1)
    one_reply c f g a b (inr (inr h)) (inr (inr k)) = one_outcome c f g a b h.2 k.2

  pub one_refusal : (p : PolicyRows) (q : Request A) (f g : DeskFault) (a b : WorldRows) → IsStep p w q (reply.Refused f) a → IsStep p w q (reply.Refused g) b → f ≡ g
  one_refusal p q f g a b (inl h) (inl k) = both_kept f g fault.NoCaller a b h.1 k.1
  one_refusal p q f g a b (inl h) (inr (id, caller, only, row, answer)) = absurd (h.0 id only.has)
  one_refusal p q f g a b (inr (id, caller, only, row, answer)) (inl k) = absurd (k.0 id only.has)
  one_refusal p q f g a b (inr (id, caller, only, row, answer)) (inr (id2, caller2, only2, row2, answer2)) =
      let same : id2 ≡ id = only.only id2 only2.has in
      let name : caller2 ≡ caller = same_Some caller2 caller (sym row2 ∙ ap (slice_get p.callers) same ∙ row) in
      one_reply p id caller.name q.moment q.command f g a b answer
      (subst (λ (x : CallerRow). IsAnswerTo p w id x.name q.moment q.command (reply.Refused g) b) name (subst (λ i. IsAnswerTo p w i caller2.name q.moment q.command (reply.Refused g) b) same answer2))
