-- `refuses_next` at a call. Assumes `Logic`.
use Rattle.std.proofs.Common.{◌≡◌, ℕ, Bool, List, [], ◌∷◌, refl, ap}
use seplogic.Ra.Ura.{Ura}
use mir.Val.{Val, vbool, vptr}
use base.Logic.{SProp, ent, ex, guard, sep, id⊢}
use base.Fml.{Lft, Share, flft, fsep, ftrue}
use prog.Memory.{Memory}
use prog.Routine.{Routine}
use types.Logic.{Logic, sem}
use types.Kit.{‵, raw, ◌⊛◌, some, later, ◌$◌, ◌∵◌, !, qed, move, keep, use1, split, join, pick, fjoin, feq_i, feq_l, check, show, await, updating, now as at_once, done}
use contract.Monad.{Fun}
use denote.Builtin.{bool}
use denote.Memory.{hidden_shr}
use denote.RattleType.{RattleType}
use denote.Steps.{nothing, only}
use denote.Triple.Spec.{triple_of}
use denote.Triple.Statement.{Contract}
use Rattle.std.specs.contracts.cell.Cell as cell
use Rattle.fab_test_alloc.specs.contracts.plan.Plan as plan
use Rattle.fab_test_alloc.specs.contracts.plan.refuses_next as f

-- a cell with a plan
abbrev pub PlanCell : RattleType
PlanCell = cell.the_row plan.the_row

module _ {M : Type 1} {𝓤 : Ura M} (𝓛 : Logic 𝓤) (at_mem : Memory → SProp 𝓤) (run : Routine → Fun 𝓤) where
  -- its contract
  abbrev pub Asks : Contract 𝓤
  Asks = triple_of 𝓛 f.signature (f.spec 𝓛 at_mem run)

  -- a call that passes a `&` to the cell at `p`
  abbrev pub at_asked : Lft → Share → ℕ × ℕ → Asks.Ghost
  at_asked κ q p = (((κ, tt), (q, tt), tt, (record { ref_ptr = p; now = record { value = tt } }, tt), (vptr p.0 p.1 ∷ [], tt)), tt)

module _ {M : Type 1} {𝓤 : Ura M} (𝓛 : Logic 𝓤) (at_mem : Memory → SProp 𝓤) (run : Routine → Fun 𝓤) (κ : Lft) (q : Share) (p : ℕ × ℕ) where
  open 𝓛 use {H, A}

  -- what the call takes: the shared cell, and the token of its lifetime
  pub asks-goes : ent 𝓤 (sep 𝓤 (sem 𝓛 (hidden_shr PlanCell κ (record { value = tt }) p.0 p.1)) (A.lft κ q)) ((Asks 𝓛 at_mem run).pre (at_asked 𝓛 at_mem run κ q p))
  asks-goes =
      qed 𝓛 (‵ (hidden_shr PlanCell κ (record { value = tt }) p.0 p.1) ∷ ‵ (flft κ q) ∷ []) ∵
      feq_i ! (List Val) (vptr p.0 p.1 ∷ []) (vptr p.0 p.1 ∷ []) refl $ fjoin ! $ nothing ! $ move ! (1 ∷ []) $ fjoin ! $
      nothing ! $ move ! (2 ∷ []) $ join ! $ join ! $ nothing ! $ move ! (1 ∷ []) $ done !

  -- what the caller has afterwards: a truth value, and the token
  abbrev pub Asked : Val → Bool → SProp 𝓤
  Asked v due = guard 𝓤 (v ≡ vbool due) (A.lft κ q)

  pub asks-gives : (v : Val) → ent 𝓤 ((Asks 𝓛 at_mem run).post (at_asked 𝓛 at_mem run κ q p) v) (H.⇛ (ex 𝓤 (Asked v)))
  asks-gives v =
      qed 𝓛 (raw ((Asks 𝓛 at_mem run).post (at_asked 𝓛 at_mem run κ q p) v) ∷ []) ∵ updating ! $
      use1 𝓛 (later (some (λ (due : Bool). ((‵ (flft κ q) ⊛ ‵ ftrue) ⊛ ‵ (bool.own_val due (v ∷ []))) ⊛ some (λ (ws : Unit {0} × Unit {0}). ‵ (fsep ftrue ftrue) ⊛ ‵ ftrue)))) (id⊢ 𝓤 _) $
      await ! tt $ pick ! (λ due. split ! $ split ! $ move ! (1 ∷ []) $ feq_l ! (λ e. split ! $
      at_once ! $ show ! (Asked v) due $ check ! (ap only e) $ keep ! (0 ∷ []) $ done !))
