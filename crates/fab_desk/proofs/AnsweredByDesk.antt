-- What one request makes of a desk.
use Rattle.std.proofs.Common.{◌≡◌, ◌≢◌, List, [], ◌∷◌, ◌++◌, Option, Some, None, inl, inr, refl, sym, ap, subst, ◌∙◌, length, arith}
use Rattle.fab_desk_machine.specs.fab_desk_base.Answers.{IsStep, Request}
use Rattle.fab_desk_machine.specs.fab_desk_base.declared.fault.DeskFault.TheVariants as fault
use Rattle.fab_desk_machine.specs.fab_desk_base.declared.reply.Reply.{Reply}
use Rattle.fab_desk_machine.specs.fab_desk_base.declared.reply.Reply.TheVariants.{Refused}
use Rattle.fab_policy_base.specs.Policies.{PolicyRows}
use Rattle.fab_store_base.specs.declared.store.Store as store
use Rattle.fab_world.specs.Worlds.{WorldRows}
use Rattle.fab_desk.specs.Desks.{IsHandled, IsTurnedAway, IsTied, IsServed, IsCleanDesk, IsTiedDesk, IsAnsweredByDesk}

append_none : {X : Type 0} (xs : List X) → xs ++ [] ≡ xs
append_none [] = refl
append_none (x ∷ xs) = ap (λ t. x ∷ t) (append_none xs)

-- a list is gone through where nothing is left of it
pub gone_through : {X : Type 0} (xs before rest : List X) → before ++ rest ≡ xs → length rest ≡ 0 → before ≡ xs
gone_through xs before [] is none = sym (append_none before) ∙ is
gone_through xs before (x ∷ rest) is none = absurd (omega (arith, none))

module _ {A S : Type 0} (g : store.Ghosts S A) (p : PolicyRows) (w v : WorldRows) (q : Request A) (r : Reply A) where
  pub clean_after : (s : S) (serving aside : Option S) (h : IsServed g p w q r s serving aside v) → IsCleanDesk g serving aside → g.is_clean h.after
  clean_after s serving aside h clean = elim h.kept [
    | inl on ↦ subst (λ o. IsCleanDesk g o aside) on clean
    | inr off ↦ subst (λ o. IsCleanDesk g None o) off.1 (subst (λ o. IsCleanDesk g o aside) off.0 clean)
  ]

  -- of a desk that serves
  serving_clean : (s : S) (before serving aside : Option S) → IsServed g p w q r s serving aside v → IsCleanDesk g serving aside → IsCleanDesk g (Some s) before
  serving_clean s before serving aside h clean = h.clean (clean_after s serving aside h clean)

  serving_told : (s : S) (serving aside : Option S) → IsServed g p w q r s serving aside v → IsCleanDesk g serving aside → IsTied g s w → IsAnsweredByDesk p w q r v
  serving_told s serving aside h clean tied = inr (h.answers (clean_after s serving aside h clean) tied)

  serving_tied : (s : S) (serving aside : Option S) → IsServed g p w q r s serving aside v → IsCleanDesk g serving aside → IsTied g s w → IsTiedDesk g serving v
  serving_tied s serving aside h clean tied = elim h.kept [
    | inl on ↦ subst (λ o. IsTiedDesk g o v) (sym on) (h.tied (clean_after s serving aside h clean) tied on)
    | inr off ↦ subst (λ o. IsTiedDesk g o v) (sym off.0) tt
  ]

  -- a change that the store refused leaves the world as it was
  pub refused_keeps : (IsStep p w q r v → r ≢ Refused fault.Store) → r ≡ Refused fault.Store → IsHandled p w q r v → v ≡ w
  refused_keeps done is (inl undone) = undone.1
  refused_keeps done is (inr step) = absurd (done step is)

  -- of a halted desk
  away_told : IsTurnedAway p q.token r → v ≡ w → IsAnsweredByDesk p w q r v
  away_told (inl nobody) same = inr (inr (inl (nobody.0, (nobody.1, same))))
  away_told (inr halted) same = inl (halted.1, same)

  -- what one request more makes of the desk
  pub record Goes (so ao sn an : Option S) : Type 0 where
    pub clean : IsCleanDesk g sn an → IsCleanDesk g so ao
    pub told : IsCleanDesk g sn an → IsTiedDesk g so w → IsAnsweredByDesk p w q r v
    pub tied : IsCleanDesk g sn an → IsTiedDesk g so w → IsTiedDesk g sn v

  pub goes : (so ao sn an : Option S) → (IsStep p w q r v → r ≢ Refused fault.Store) → (so ≡ None → IsTurnedAway p q.token r × (sn ≡ so) × (an ≡ ao) × (v ≡ w)) → ((s : S) → so ≡ Some s → IsServed g p w q r s sn an v) → Goes so ao sn an
  goes None ao sn an done halted served =
      let away = halted refl in
      record {
        clean = λ clean. subst (IsCleanDesk g None) away.2 (subst (λ o. IsCleanDesk g o an) away.1 clean);
        told = λ clean tied. away_told away.0 away.3;
        tied = λ clean tied. subst (λ o. IsTiedDesk g o v) (sym away.1) tt;
      }
  goes (Some s) ao sn an done halted served =
      let h = served s refl in
      record {
        clean = serving_clean s ao sn an h;
        told = serving_told s sn an h;
        tied = serving_tied s sn an h;
      }
