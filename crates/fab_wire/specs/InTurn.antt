-- Connections served in turn.
use Rattle.std.specs.Prelude.{ℕ, ◌≡◌, List, [], ◌∷◌, Option}
use Rattle.fab_wire_streams.specs.Counting.{inner_of, failures_of}
use Rattle.fab_wire_streams.specs.declared.counted.Counted.{Counted}
use Rattle.fab_desk.specs.fab_store_base.declared.store.Store as store
use Rattle.fab_desk.specs.declared.desk.Desk.{Desk}
use Rattle.fab_wire.specs.Serving.{Side, side, Serves}
use Rattle.fab_wire.specs.declared.laws.Connection.{Connection}
use Rattle.fab_wire.specs.declared.laws.Served.{Served}

-- one side of a connection, whose bytes are told so
abbrev pub side_of : {T : Type 0} → (T → Option (List ℕ)) → Counted T → Side
side_of bytes counted = side (bytes (inner_of counted)) (failures_of counted)

module _ {A S B K R W : Type 0} (g : store.Ghosts S A) (input : R → Option (List ℕ)) (sent : W → Option (List ℕ)) where
  -- a connection is served so, and leaves the desk so
  abbrev pub IsServed : Desk A S B K → Connection R W → Served R W → Desk A S B K → Type 0
  IsServed d c s e = Serves g (side_of input c.reader) (side_of input s.reader) (side_of sent c.writer) (side_of sent s.writer) d c.moment s.outcome e

  -- the connections, in their order, are served so, and lead from one desk to the other
  abbrev pub AreServed : Desk A S B K → List (Connection R W) → List (Served R W) → Desk A S B K → Type 0
  AreServed d [] [] e = e ≡ d
  AreServed d [] (s ∷ ss) e = ⊥
  AreServed d (c ∷ cs) [] e = ⊥
  AreServed d (c ∷ cs) (s ∷ ss) e = (next : Desk A S B K) × IsServed d c s next × AreServed next cs ss e
