-- How tables are found and made in a file.
use Rattle.std.proofs.Common.{◌≡◌, ◌⊎◌, Bool, true, false, IsTrue, Result, Ok, Err, IfOk, IfErr, refl, inl, inr, subst, sym, ◌∙◌}
use Rattle.sqlite.specs.State.{State}
use Rattle.sqlite.specs.declared.error.Error.{Error}
use Rattle.fab_program_outside.specs.declared.faults.Fault.{Fault}
use Rattle.fab_program_desks.specs.Tables.{AreBroughtFrom, AreFound, AreMade, AreMadeFrom, AreNewTables, AreUnbroughtFrom, AreUnfound, AreUnmade, AreUnmadeFrom, IsUnopened}

-- by what a call answers
pub either : {A B : Type 0} (answer : Bool) → (IsTrue answer → A) → (answer ≡ false → B) → B ⊎ A
either true changed same = inr (changed refl)
either false changed same = inl (same refl)

-- what came of making tables over a connection in memory, which was opened
pub made_new : {H T : Type 0} (state_of : H → State) (conn_of : T → H) (opened : Result H Fault) (conn : H) (came : Result T Fault) → opened ≡ Ok conn
    → IfOk came (λ tables. AreMadeFrom state_of (λ before. opened ≡ Ok before) (conn_of tables))
    → IfErr came (λ told. (opened ≡ Err told) ⊎ AreUnmadeFrom state_of (λ before. opened ≡ Ok before) told)
    → AreNewTables state_of came conn_of
made_new state_of conn_of opened conn (Ok tables) is made none = λ clean. (made.2.tables clean).1
made_new state_of conn_of opened conn (Err told) is none (inl other) = absurd (let e = sym is ∙ other in cc)
made_new state_of conn_of opened conn (Err told) is none (inr why) = inr why.2.2.is

-- of what came of opening a file this is known
module _ {H T : Type 0} (state_of : H → State) (conn_of : T → H) (Connects : Result H Error → Type 0) (opened : Result H Fault) (is_opened : IfOk opened (λ conn. Connects (Ok conn))) where
  connects : (before : H) → opened ≡ Ok before → Connects (Ok before)
  connects before is = subst (λ o. IfOk o (λ conn. Connects (Ok conn))) is is_opened

  pub found : (HasFile : Bool → Type 0) (came : Result T Fault) → HasFile true
      → IfOk came (λ after. AreBroughtFrom state_of (λ before. opened ≡ Ok before) (conn_of after))
      → IfOk came (λ after. AreFound state_of HasFile Connects (conn_of after))
  found HasFile (Ok after) there brought = (there, (brought.0, connects brought.0 brought.1, brought.2))
  found HasFile (Err fault) there brought = tt

  pub unfound : (HasFile : Bool → Type 0) (came : Result T Fault) → HasFile true → IfErr opened (IsUnopened Connects)
      → IfErr came (λ fault. (opened ≡ Err fault) ⊎ AreUnbroughtFrom state_of (λ before. opened ≡ Ok before) fault)
      → IfErr came (AreUnfound state_of HasFile Connects)
  unfound HasFile (Ok after) there is_unopened why = tt
  unfound HasFile (Err fault) there is_unopened (inl same) = inr (there, inl (subst (λ o. IfErr o (IsUnopened Connects)) same is_unopened))
  unfound HasFile (Err fault) there is_unopened (inr why) = inr (there, inr (why.0, connects why.0 why.1, why.2))

  pub made : (came : Result T Fault) → IfOk came (λ after. AreMadeFrom state_of (λ before. opened ≡ Ok before) (conn_of after))
      → IfOk came (λ after. AreMade state_of Connects (conn_of after))
  made (Ok after) is = (is.0, connects is.0 is.1, is.2)
  made (Err fault) is = tt

  pub unmade : (came : Result T Fault) → IfErr opened (IsUnopened Connects)
      → IfErr came (λ fault. (opened ≡ Err fault) ⊎ AreUnmadeFrom state_of (λ before. opened ≡ Ok before) fault)
      → IfErr came (AreUnmade state_of Connects)
  unmade (Ok after) is_unopened why = tt
  unmade (Err fault) is_unopened (inl same) = inl (subst (λ o. IfErr o (IsUnopened Connects)) same is_unopened)
  unmade (Err fault) is_unopened (inr why) = inr (why.0, connects why.0 why.1, why.2)
