-- One more connection behind those that were served.
use Rattle.std.proofs.Common.{ℕ, refl, subst, List, [], ◌∷◌, ◌++◌, Option, Result}
use Rattle.fab_wire_streams.specs.declared.counted.Counted.{Counted}
use Rattle.fab_wire_serving.specs.declared.server.Server as server
use Rattle.fab_wire_serving.specs.Turns.{AreTurns, IsTurn}

module _ {S Store Fault Outcome W : Type 0} (g : server.Ghosts S Store Fault Outcome) (opens : Result Store Fault → Type 0)
    (gives : Option ℕ → Type 0) (tells : ℕ → Type 0) (fails : Type 0) (contents : W → Option (List ℕ)) (most : ℕ) where
  pub one-more : (s : S) (log : Counted W) (moments : List ℕ) (moment : ℕ) (t : S) (noted : Counted W) (u : S) (last : Counted W)
      → AreTurns g opens gives tells fails contents most s log moments t noted → IsTurn g opens gives tells fails contents most t noted moment u last
      → AreTurns g opens gives tells fails contents most s log (moments ++ (moment ∷ [])) u last
  one-more s log [] moment t noted u last done turn =
      let first = subst (λ x. IsTurn g opens gives tells fails contents most x noted moment u last) done.0 turn in
      (u, last, subst (λ x. IsTurn g opens gives tells fails contents most s x moment u last) done.1 first, (refl, refl))
  one-more s log (first ∷ moments) moment t noted u last done turn =
      (done.0, done.1, done.2, one-more done.0 done.1 moments moment t noted u last done.3 turn)
