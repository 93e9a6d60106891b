-- It asks its plan, and refuses or answers what the inner allocator answers. Assumes `Logic`.
use Rattle.std.proofs.Common.{◌≡◌, ℕ, ◌^◌, ◌<◌, true, false, Bool, List, [], ◌∷◌, Ok, Err, refl, w64, Bor}
use Rattle.std.proofs.VecSteps.Shapes.{after}
use Rattle.std.proofs.alloc.Calls.{Al, seen, token, Answer, answer_val, Answer-typed, Answer-Ok, Answer-err, takes_key, Takes, at_takes, Answered, Takes-goes, Takes-gives, answers}
use Rattle.std.proofs.raw_atomic.Walks.{proved}
use seplogic.Ra.Ura.{Ura}
use mir.MapTy.{inst_fn}
use mir.Syntax.{Ty, Args, Fn, a_type, dnil, dcons}
use mir.Val.{Val, vbool, vint, vptr}
use base.Logic.{SProp, ent}
use base.Fml.{Lft, Share, flft, froom, ftrue}
use prog.Memory.{Memory, align, capped, size}
use prog.Routine.{Routine}
use prog.Wp.{Tables, WpFn}
use types.Logic.{Logic}
use types.ByLocal.{alloc_all, pass_all, free_all, look_at, get, through, sets, lands_as, env}
use types.Kit.{‵, raw, ◌⊛◌, some, later, given, prop, at_ret, Sq, ◌$◌, ◌∵◌, !, qed, move, keep, use0, use1, use2, split, join, pick, learn, fsplit, fjoin, suffices, await, done}
use types.Part.{agg}
use types.Run.{lit, fld, stop, addr, no_more, and_then, first, branches, skips, exec, returns, returns_within, enter}
use contract.BorrowLft.{◌⊑◌, ⊑_trans}
use contract.Monad.{Fun, fact}
use contract.Running.{tables, tables_of}
use sound.WpLaws.{fm_of}
use denote.Builtin.{usize}
use denote.Exit.{yes}
use denote.Memory.{hidden_shr}
use denote.Param.{bounded}
use denote.Plain.{uint_vals, uint_Tells}
use denote.RattleType.{owns}
use denote.RawPtr.{block_ptr}
use denote.Ref.{shr_vals}
use denote.Signature.{plain, types_at}
use denote.Steps.{heard, nothing}
use denote.Triple.Call.{calls_at}
use denote.Triple.Clauses.{Ended, Clauses}
use denote.Triple.Statement.{Triple}
use denote.Triple.Walked.{Stays, stay_dropped, walk_of, ends_at, Goes-dropped}
use Rattle.fab_test_alloc.specs.contracts.RefusingAllocator.allocate as f
use Rattle.fab_test_alloc.proofs.RefusingAllocator.allocate.Statement.{statement}
use Rattle.fab_test_alloc.proofs.RefusingAllocator.allocate.Code as code
use Rattle.fab_test_alloc.proofs.plan.refuses_next.Met as refuses_next
use Rattle.fab_test_alloc.proofs.plan.refuses_next.Symbol as asked
use Rattle.fab_test_alloc.proofs.Fields.{Wrapper, self, inner_at, plan_at, fields}
use Rattle.fab_test_alloc.proofs.NextRequest.{PlanCell, Asks, at_asked, asks-goes, asks-gives}

module _ (Z : Al) where
  -- the type and the methods of the inner allocator
  abbrev args : Args
  args = bounded (a_type ∷ []) (Z.row, tt) (dcons Z.d (dcons Z.drops dnil))

  -- the function over it
  abbrev here : Fn
  here = inst_fn args code.function

  -- its contract, and what it still has of its parameters at the return: nothing
  abbrev ended : Ended
  ended = f.ended Z.row Z.g Z.d Z.drops

  abbrev stayed : Stays ended.signature.params ended.kept
  stayed = (stay_dropped (self Z) yes, (stay_dropped (plain (λ _. usize)) yes, (stay_dropped (plain (λ _. usize)) yes, tt)))

module _ (Z : Al) {M : Type 1} {𝓤 : Ura M} (𝓛 : Logic 𝓤) (at_mem : Memory → SProp 𝓤) (run : Routine → Fun 𝓤) (𝓣 : Tables 𝓤 𝓛.H)
    (takes : Triple 𝓤 (𝓣.C (takes_key Z)) (Takes Z 𝓛 at_mem run)) (asks : Triple 𝓤 (𝓣.C asked.name) (Asks 𝓛 at_mem run)) where
  open 𝓛 use {H}

  abbrev clauses : Clauses 𝓤 (ended Z)
  clauses = f.clauses Z.row Z.g Z.d Z.drops 𝓛 at_mem run

  -- `&self` lives for κ, and the type of the inner allocator for ρ
  module _ (κ ρ : Lft) (q s : Share) (out : κ ⊑ ρ) (r : Bor (Wrapper Z).Denot) (n a : ℕ) (τ : Ty) where
    -- what a call binds, the arguments as the machine has them, and what has to hold at the return
    abbrev bound : (walk_of 𝓛 (ended Z) (stayed Z) clauses).Ghost
    bound = (((κ, (ρ, tt)), (q, (s, tt)), (out, tt), (r, (n, (a, tt))), (shr_vals r, (vint w64 n ∷ [], (vint w64 a ∷ [], tt)))), τ)

    abbrev vs : List Val
    vs = vptr r.ref_ptr.0 r.ref_ptr.1 ∷ vint w64 n ∷ vint w64 a ∷ []

    abbrev Post : Val → SProp 𝓤
    Post = (walk_of 𝓛 (ended Z) (stayed Z) clauses).post bound

    -- the size and the alignment are those of the type asked for
    abbrev Said : Type 0
    Said = (capped (size τ) ≡ n) × (capped (align τ) ≡ a)

    -- the end with a block
    granted : (b o : ℕ)
        → Sq 𝓛 (‵ (flft κ q) ∷ ‵ (flft ρ s) ∷ ‵ (froom τ b o) ∷ ‵ (token Z r.now τ (block_ptr b o)) ∷ []) (prop (Post (answer_val true b o)))
    granted b o =
        suffices ! _ (ends_at 𝓛 (ended Z) (stayed Z) clauses bound (answer_val true b o) (Ok (block_ptr b o)) (tt, (tt, (tt, tt))) (tt, (tt, (tt, tt)))) $
        move ! (2 ∷ 3 ∷ []) $ fjoin ! $ use0 𝓛 (‵ (Answer.own_val (Ok (block_ptr b o)) (answer_val true b o ∷ []))) (Answer-Ok 𝓛 b o) $
        nothing ! $ nothing ! $ fjoin ! $ nothing ! $ fjoin ! $ nothing ! $ fjoin ! $ join ! $
        nothing ! $ move ! (4 ∷ 0 ∷ []) $ join ! $ move ! (3 ∷ 0 ∷ []) $ join ! $ join ! $ done !

    -- the end with a refusal
    refused : Sq 𝓛 (‵ (flft κ q) ∷ ‵ (flft ρ s) ∷ []) (prop (Post (answer_val false 0 0)))
    refused =
        suffices ! _ (ends_at 𝓛 (ended Z) (stayed Z) clauses bound (answer_val false 0 0) (Err (record {})) (tt, (tt, (tt, tt))) (tt, (tt, (tt, tt)))) $
        nothing ! $ use0 𝓛 (‵ (Answer.own_val (Err (record {})) (answer_val false 0 0 ∷ []))) (Answer-err 𝓛) $
        nothing ! $ nothing ! $ fjoin ! $ nothing ! $ fjoin ! $ nothing ! $ fjoin ! $ join ! $
        nothing ! $ move ! (4 ∷ 0 ∷ []) $ join ! $ move ! (3 ∷ 0 ∷ []) $ join ! $ join ! $ done !

    walk : n < 2 ^ 64 → a < 2 ^ 64 → ent 𝓤 ((walk_of 𝓛 (ended Z) (stayed Z) clauses).pre bound) (WpFn 𝓤 H 𝓣.C 𝓣.Λ (here Z) vs Post)
    walk fn fa =
        let h : Z.row.Denot = r.now in
        let i : ℕ × ℕ = inner_at Z r.ref_ptr in
        let p : ℕ × ℕ = plan_at Z r.ref_ptr in
        let y : (Takes Z 𝓛 at_mem run).Ghost = at_takes Z 𝓛 at_mem run κ q i h n a τ in
        qed 𝓛 (((‵ (flft κ q) ⊛ ‵ (flft ρ s) ⊛ ‵ ftrue) ⊛ ‵ (owns (types_at (ended Z).signature.params bound.0.0) bound.0.3 bound.0.4)) ∷ (raw (fact 𝓤 (ρ ⊑ Z.row.lives)) ⊛ raw (fact 𝓤 Said)) ∷ []) ∵
        move ! (1 ∷ []) $ split ! $ heard ! (ρ ⊑ Z.row.lives) (λ le. heard ! Said (λ said.
        split ! $ split ! $ move ! (1 ∷ []) $ split ! $ move ! (3 ∷ []) $ fsplit ! $ fsplit ! $ move ! (1 ∷ []) $
        use1 𝓛 (‵ (seen Z κ i h) ⊛ ‵ (hidden_shr PlanCell κ (record { value = tt }) p.0 p.1)) (fields Z 𝓛 κ r) $ split ! $ keep ! (1 ∷ 6 ∷ 0 ∷ 4 ∷ []) $
        enter ! 𝓣.C 𝓣.Λ (here Z) vs _ $ alloc_all ! (λ l. pass_all ! refl ((tt, tt), ((tt, record { fits = fn }), ((tt, record { fits = fa }), tt))) $
        -- [the plan; the token of κ; the inner allocator; the token of ρ]
        sets ! (addr ! (through ! refl (fld ! refl (stop !)))) refl (tt, tt) $
        use2 𝓛 (raw ((Asks 𝓛 at_mem run).pre (at_asked 𝓛 at_mem run κ q p))) (asks-goes 𝓛 at_mem run κ q p) $
        calls_at ! (fm_of 𝓤 H 𝓛.laws 𝓣) (Asks 𝓛 at_mem run) asks (at_asked 𝓛 at_mem run κ q p) (and_then ! (get ! refl) (no_more !)) (λ u.
        use1 𝓛 (later (some (λ (due : Bool). given (u ≡ vbool due) (‵ (flft κ q))))) (asks-gives 𝓛 at_mem run κ q p u) $ await ! tt $ pick ! (λ due. learn ! (λ is_due.
        lands_as ! is_due refl (tt, tt) $
        -- [the token of κ; the inner allocator; the token of ρ]
        first ! $ branches ! (get ! refl)
        (λ _. sets ! (agg ! (no_more !)) refl (tt, tt) $
        sets ! (agg ! (and_then ! (lit ! tt) (and_then ! (get ! refl) (no_more !)))) refl (Answer-typed false 0 0) $
        returns_within ! Post refl (look_at ! 0 refl) $ free_all ! refl $ keep ! (0 ∷ 2 ∷ []) $ refused)
        (λ _. skips ! $ exec ! 𝓣.C 𝓣.Λ (env (here Z).locals l) (after 3 (here Z).body) (at_ret _ Post) $
        sets ! (addr ! (through ! refl (fld ! refl (stop !)))) refl (tt, tt) $ move ! (1 ∷ 0 ∷ []) $
        use2 𝓛 (raw ((Takes Z 𝓛 at_mem run).pre y)) (Takes-goes Z 𝓛 at_mem run κ q i h (⊑_trans κ ρ Z.row.lives out le) n a τ said.0 said.1 fn fa) $
        calls_at ! (fm_of 𝓤 H 𝓛.laws 𝓣) (Takes Z 𝓛 at_mem run) takes y (and_then ! (get ! refl) (and_then ! (get ! refl) (and_then ! (get ! refl) (no_more !)))) (λ v.
        use1 𝓛 (later (raw (Answered Z 𝓛 at_mem run h τ v) ⊛ ‵ (flft κ q))) (Takes-gives Z 𝓛 at_mem run κ q i h n a τ v) $ await ! tt $ split ! $
        answers Z ! at_mem run h τ v
        (λ b o e. lands_as ! e refl (Answer-typed true b o) $ returns ! (look_at ! 0 refl) $ free_all ! refl $ move ! (2 ∷ 3 ∷ []) $ granted b o)
        (λ e. lands_as ! e refl (Answer-typed false 0 0) $ returns ! (look_at ! 0 refl) $ free_all ! refl $ refused)))))))))

pub allocate_spec : {M : Type 1} → statement M
unfolding tables_of
allocate_spec 𝓤 𝓛 𝓜 𝓡 wired Y L g d d' met _ =
    let Z : Al = record { row = Y; laws = L; g = g; d = d; drops = d' } in
    let 𝓣 : Tables 𝓤 𝓛.H = tables_of 𝓤 𝓛.H 𝓜 (tables 𝓤 𝓛.H 𝓜 𝓡 𝓡.env) in
    let number = Goes-dropped 𝓛 2 (plain (λ _. usize)) yes (λ κs x w. refl) in
    proved 𝓛 (ended Z) (stayed Z) (f.clauses Y g d d' 𝓛 𝓜.mem 𝓡.returns) 𝓜 𝓡 (Goes-dropped 𝓛 2 (self Z) yes (λ κs x w. refl), (number, (number, tt)))
    (f.Key.name (args Z)) (here Z) (code.unfolded 𝓤 𝓛.H 𝓜 𝓡 wired (Y, tt) d d')
    (λ κs. (shr_vals, (uint_vals w64, (uint_vals w64, tt)))) (λ κs. ((λ x ws is. is.0), (uint_Tells w64, (uint_Tells w64, tt)))) (λ κs qs bounds x τ are.
    walk Z 𝓛 𝓜.mem 𝓡.returns 𝓣 (met.allocate d') (refuses_next.met 𝓤 𝓛 𝓜 𝓡 (code.calls-fab_test_alloc::plan::refuses_next 𝓡.env wired))
    κs.0 κs.1.0 qs.0 qs.1.0 bounds.0 x.0 x.1.0 x.1.1.0 τ are.1.0.1 are.1.1.0.1)
