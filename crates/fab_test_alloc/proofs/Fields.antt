-- The fields of a shared `Refusing`, over the allocator `Z`. Assumes `Logic`.
use Rattle.std.proofs.Common.{ℕ, ◌+◌, [], ◌∷◌, refl, Bor}
use seplogic.Ra.Ura.{Ura}
use base.Logic.{ent, sep, id⊢}
use base.Fml.{Lft}
use prog.Memory.{align, size, up}
use types.Logic.{Logic, sem}
use types.Kit.{Item, ‵, ◌$◌, ◌∵◌, !, qed, move, keep, use1, join, fsplit, fpick, rewrite, done}
use denote.Builtin.{RefOf}
use denote.Memory.{hidden_shr}
use denote.Opens.{unhide}
use denote.Param.{param}
use denote.RattleType.{RattleType}
use denote.Signature.{Slot, plain}
use Rattle.std.proofs.alloc.Calls.{Al, α, seen}
use Rattle.fab_test_alloc.specs.contracts.Refusing as refusing
use Rattle.fab_test_alloc.proofs.NextRequest.{PlanCell}

module _ (Z : Al) where
  -- the type of the whole
  abbrev pub Wrapper : RattleType
  Wrapper = refusing.the_row (param 0 Z.row)

  -- the parameter `&self` of a method
  abbrev pub self : Slot 2
  self = RefOf (0 ∷ []) tt (plain (λ _. Wrapper)) (λ _. tt)

  -- where the two fields lie
  abbrev pub inner_at : ℕ × ℕ → ℕ × ℕ
  inner_at p = (p.0, p.1 + up (align (α Z)) 0)

  abbrev pub plan_at : ℕ × ℕ → ℕ × ℕ
  plan_at p = (p.0, p.1 + up 8 (up (align (α Z)) 0 + size (α Z)))

  -- who shares the whole shares the inner allocator and the plan
  pub fields : {M : Type 1} {𝓤 : Ura M} (𝓛 : Logic 𝓤) (κ : Lft) (r : Bor Wrapper.Denot)
      → ent 𝓤 (sem 𝓛 (hidden_shr Wrapper κ r.now r.ref_ptr.0 r.ref_ptr.1))
      (sep 𝓤 (sem 𝓛 (seen Z κ (inner_at r.ref_ptr) r.now))
      (sem 𝓛 (hidden_shr PlanCell κ (record { value = tt }) (plan_at r.ref_ptr).0 (plan_at r.ref_ptr).1)))
  fields {𝓤 = 𝓤} 𝓛 κ r =
      let Seen : Z.row.Denot → Item 𝓤 = λ h. ‵ (seen Z κ (inner_at r.ref_ptr) h) in
      qed 𝓛 (‵ (hidden_shr Wrapper κ r.now r.ref_ptr.0 r.ref_ptr.1) ∷ []) ∵
      unhide ! $ fpick ! (λ x. fsplit ! $ fsplit ! $ fsplit ! $ use1 𝓛 (Seen x.0.inner) (id⊢ 𝓤 _) $ rewrite ! 0 Seen x.1.0 refl $
      move ! (1 ∷ []) $ fsplit ! $ keep ! (2 ∷ 0 ∷ []) $ join ! $ done !)
