-- Connections served in turn, and one more.
use Rattle.std.proofs.Common.{ℕ, List, [], ◌∷◌, ◌++◌, Option, refl, subst}
use Rattle.fab_desk.specs.fab_store_base.declared.store.Store as store
use Rattle.fab_desk.specs.declared.desk.Desk.{Desk}
use Rattle.fab_wire.specs.InTurn.{IsServed, AreServed}
use Rattle.fab_wire.specs.declared.laws.Connection.{Connection}
use Rattle.fab_wire.specs.declared.laws.Served.{Served}

module _ {A S B K R W : Type 0} (g : store.Ghosts S A) (input : R → Option (List ℕ)) (sent : W → Option (List ℕ)) where
  -- those so far are served, and then one more
  pub served_more : (old mid new : Desk A S B K) (cs : List (Connection R W)) (ss : List (Served R W)) (c : Connection R W) (s : Served R W)
      → AreServed g input sent old cs ss mid → IsServed g input sent mid c s new → AreServed g input sent old (cs ++ c ∷ []) (ss ++ s ∷ []) new
  served_more old mid new [] [] c s h k = (new, subst (λ d. IsServed g input sent d c s new) h k, refl)
  served_more old mid new [] (t ∷ ss) c s h k = absurd h
  served_more old mid new (d ∷ cs) [] c s h k = absurd h
  served_more old mid new (d ∷ cs) (t ∷ ss) c s h k = (h.0, h.1, served_more h.0 mid new cs ss c s h.2 k)
