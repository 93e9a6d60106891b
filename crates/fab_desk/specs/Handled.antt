-- What handling one request does to a desk.
use Rattle.std.specs.Prelude.{ℕ, ◌≡◌, Option, None, Some, List, [], ◌∷◌}
use Rattle.fab_desk_machine.specs.fab_desk_base.Answers.{Request}
use Rattle.fab_desk_machine.specs.fab_desk_base.declared.reply.Reply.{Reply}
use Rattle.fab_desk_machine.specs.Proposals.{CountsStep, IsAccepted, IsEffectOf}
use Rattle.fab_policy_base.specs.Policies.{PolicyRows}
use Rattle.fab_reach_base.specs.Records.{Records}
use Rattle.fab_store_base.specs.declared.store.Store as store
use Rattle.fab_world.specs.Worlds.{WorldRows}
use Rattle.fab_desk.specs.Desks.{IsServed, IsTurnedAway}
use Rattle.fab_desk.specs.declared.desk.Desk.{Desk}

-- its policy
abbrev pub policy_of : {A S B R : Type 0} → Desk A S B R → PolicyRows
policy_of d = d.policy

-- its world
abbrev pub world_of : {A S B R : Type 0} → Desk A S B R → WorldRows
world_of d = d.ledger.world

-- the store that serves; none while the desk is halted
abbrev pub serving_of : {A S B R : Type 0} → Desk A S B R → Option S
serving_of d = d.store

-- the store that refused a change, until it is released
abbrev pub aside_of : {A S B R : Type 0} → Desk A S B R → Option S
aside_of d = d.aside

-- how many pairs of ports it has asked about
abbrev pub pairs_of : {A S B R : Type 0} → Desk A S B R → ℕ
pairs_of d = d.ledger.asked

-- the request is replied to so, and leaves the desk so: a halted desk turns it away and stays as it
-- was, and one that serves answers it over its store
pub record Handles {A S B R : Type 0} (g : store.Ghosts S A) (d : Desk A S B R) (q : Request A) (r : Reply A) (e : Desk A S B R) : Type 0 where
  pub policy : policy_of e ≡ policy_of d
  pub halted : serving_of d ≡ None → IsTurnedAway (policy_of d) q.token r × (e ≡ d)
  pub served : (s : S) → serving_of d ≡ Some s → IsServed g (policy_of d) (world_of d) q r s (serving_of e) (aside_of e) (world_of e)

-- where the request is accepted, its desk has asked about as many pairs more as a step of its book may
abbrev pub Asks : {A S B R : Type 0} → (Records → Records → ℕ → ℕ → Type 0) → Desk A S B R → Request A → Reply A → Desk A S B R → Type 0
Asks bounds d q r e = IsAccepted r → CountsStep bounds (world_of d) (IsEffectOf (policy_of d) (world_of d) q) (pairs_of d) (pairs_of e)

module _ {A S B R : Type 0} (g : store.Ghosts S A) (bounds : Records → Records → ℕ → ℕ → Type 0) where
  -- the requests, in their order, are handled so and ask so, and lead from one desk to the other
  abbrev pub AreHandled : Desk A S B R → List (Request A) → List (Reply A) → Desk A S B R → Type 0
  AreHandled d [] [] e = e ≡ d
  AreHandled d [] (r ∷ rs) e = ⊥
  AreHandled d (q ∷ qs) [] e = ⊥
  AreHandled d (q ∷ qs) (r ∷ rs) e = (next : Desk A S B R) × Handles g d q r next × Asks bounds d q r next × AreHandled next qs rs e
