-- The world that connections lead to, one after the other: that of the commands which they ask.
use Rattle.std.specs.Prelude.{ℕ, ◌≡◌, ◌⊎◌, List, [], ◌∷◌, Option, IfSome}
use Rattle.fab_wire_streams.specs.Counting.{inner_of}
use Rattle.fab_desk.specs.fab_desk_base.Answers.{Request}
use Rattle.fab_desk.specs.fab_desk_base.Commands.{IsGiven}
use Rattle.fab_desk.specs.fab_desk_base.declared.reply.Reply.{Reply}
use Rattle.fab_desk.specs.Desks.{IsAnsweredByDesk}
use Rattle.fab_policy_base.specs.Policies.{PolicyRows}
use Rattle.fab_world.specs.Worlds.{WorldRows}
use Rattle.fab_wire_base.specs.Spelling.{Spelling, nothing, refused, asked, Spells}
use Rattle.fab_wire_base.specs.Spelling as wire
use Rattle.fab_wire_requests.specs.Commands.{Order, order_of}
use Rattle.fab_wire_requests.specs.Meanings.{Meaning, asks, unnamed, bad_body, Means}
use Rattle.fab_wire_answers.specs.Messages.{want_of_memory}
use Rattle.fab_wire_answers.specs.declared.answers.Answer.{Answer}
use Rattle.fab_wire_answers.specs.declared.answers.Answer.TheVariants as answer
use Rattle.fab_wire.specs.Known.{is_known}
use Rattle.fab_wire.specs.Telling.{TellsOutcome}
use Rattle.fab_wire.specs.declared.laws.Connection.{Connection}
use Rattle.fab_wire.specs.declared.laws.Served.{Served}
use Rattle.fab_wire.specs.declared.outcome.Outcome.TheVariants as outcome

-- the request is no command: its body has a fault, or its path names nothing
abbrev pub IsNoOrder : Meaning → Type 0
IsNoOrder (asks order) = ⊥
IsNoOrder unnamed = Unit {0}
IsNoOrder (bad_body line) = Unit {0}

-- no command is spelled: nothing, a refusal, or a request that is no command
abbrev pub IsNoCommand : Spelling → Type 0
IsNoCommand nothing = Unit {0}
IsNoCommand (refused why) = Unit {0}
IsNoCommand (asked q) = (m : Meaning) × Means q.kind q.target q.body m × IsNoOrder m

module _ {R W : Type 0} (input : R → Option (List ℕ)) where
  -- the connection's bytes spell no command
  abbrev pub AsksNothing : PolicyRows → Connection R W → Type 0
  AsksNothing p c = (spelling : Spelling) × IfSome (input (inner_of c.reader)) (λ bytes. Spells (is_known p) bytes spelling) × IsNoCommand spelling

  -- the connection's bytes spell this request of the desk, which comes at the connection's moment
  pub record Asks {A : Type 0} (p : PolicyRows) (c : Connection R W) (q : Request A) : Type 0 where
    pub request : wire.Request
    pub spelled : IfSome (input (inner_of c.reader)) (λ bytes. Spells (is_known p) bytes (asked request))
    pub order : Order
    pub means : Means request.kind request.target request.body (asks order)
    pub command : order_of q.command ≡ order
    pub given : IsGiven q.command
    pub token : q.token ≡ request.token
    pub moment : q.moment ≡ c.moment

module _ {R W : Type 0} (sent : W → Option (List ℕ)) where
  -- the text of the answer was written, or a beginning of it until a write failed
  abbrev pub Tells : {A : Type 0} → Connection R W → Served R W → Answer A → Type 0
  Tells c s a = TellsOutcome (sent (inner_of c.writer)) (sent (inner_of s.writer)) a s.outcome

module _ (A : Type 0) {R W : Type 0} (input : R → Option (List ℕ)) (sent : W → Option (List ℕ)) where
  -- a connection leads from one world to the next: its read failed, or it asks nothing, or it is told
  -- that there was no memory, and the world stays; or it asks for what the desk answers, and is told so
  abbrev pub LeadsOn : PolicyRows → WorldRows → Connection R W → Served R W → WorldRows → Type 0
  LeadsOn p w c s v =
      (((s.outcome ≡ outcome.ReadFailed) ⊎ (AsksNothing input p c ⊎ Tells sent {A = A} c s want_of_memory)) × (v ≡ w))
      ⊎ ((q : Request A) × (r : Reply A) × Asks input p c q × Tells sent c s (answer.Replied r) × IsAnsweredByDesk p w q r v)

  -- the connections lead, in their order, from one world to the other
  abbrev pub LeadTo : PolicyRows → WorldRows → List (Connection R W) → List (Served R W) → WorldRows → Type 0
  LeadTo p w [] [] v = v ≡ w
  LeadTo p w [] (s ∷ ss) v = ⊥
  LeadTo p w (c ∷ cs) [] v = ⊥
  LeadTo p w (c ∷ cs) (s ∷ ss) v = (next : WorldRows) × LeadsOn p w c s next × LeadTo p next cs ss v
