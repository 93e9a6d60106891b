-- Connections that were served in turn lead to the world of the commands that they ask.
use Rattle.std.proofs.Common.{ℕ, ◌≡◌, ◌≢◌, ◌⊎◌, inl, inr, List, [], ◌∷◌, Option, IfSome, refl, sym, ap, subst}
use Rattle.fab_wire_streams.specs.Counting.{inner_of}
use Rattle.fab_desk.specs.fab_store_base.declared.store.Store as store
use Rattle.fab_desk.specs.fab_desk_base.Answers.{IsStep, Request}
use Rattle.fab_desk.specs.fab_desk_base.declared.fault.DeskFault.TheVariants as fault
use Rattle.fab_desk.specs.fab_desk_base.declared.reply.Reply.{Reply}
use Rattle.fab_desk.specs.fab_desk_base.declared.reply.Reply.TheVariants as reply
use Rattle.fab_desk.specs.Desks.{IsCleanDesk, IsTiedDesk}
use Rattle.fab_desk.specs.Handled.{Handles, policy_of, world_of, serving_of, aside_of}
use Rattle.fab_desk.specs.declared.desk.Desk.{Desk}
use Rattle.fab_desk.proofs.AnsweredByDesk.{goes}
use Rattle.fab_policy_base.specs.Policies.{PolicyRows}
use Rattle.fab_world.specs.Worlds.{WorldRows}
use Rattle.fab_wire_base.specs.Spelling.{Spelling, nothing, refused, asked, Spells}
use Rattle.fab_wire_base.specs.Spelling as wire
use Rattle.fab_wire_requests.specs.Meanings.{Meaning, asks, unnamed, bad_body, Means}
use Rattle.fab_wire_answers.specs.Messages.{want_of_memory}
use Rattle.fab_wire_answers.specs.declared.answers.Answer.{Answer}
use Rattle.fab_wire.specs.Known.{is_known}
use Rattle.fab_wire.specs.Serving.{AnswersMeaning, AnswersSpelling, IsAnswered, Serves}
use Rattle.fab_wire.specs.Telling.{TellsOutcome}
use Rattle.fab_wire.specs.InTurn.{AreServed, side_of}
use Rattle.fab_wire.specs.Runs.{AsksNothing, Tells, LeadsOn, LeadTo}
use Rattle.fab_wire.specs.declared.laws.Connection.{Connection}
use Rattle.fab_wire.specs.declared.laws.Served.{Served}
use Rattle.fab_wire.specs.declared.outcome.Outcome.{Outcome}
use Rattle.fab_wire.specs.declared.outcome.Outcome.TheVariants as outcome

module _ {A S B K R W : Type 0} (g : store.Ghosts S A) (input : R → Option (List ℕ)) (sent : W → Option (List ℕ))
    (done : (p : PolicyRows) (w : WorldRows) (q : Request A) (r : Reply A) (v : WorldRows) → IsStep p w q r v → r ≢ reply.Refused fault.Store) where
  abbrev IsClean : Desk A S B K → Type 0
  IsClean d = IsCleanDesk g (serving_of d) (aside_of d)

  abbrev IsBound : Desk A S B K → Type 0
  IsBound d = IsTiedDesk g (serving_of d) (world_of d)

  -- what one connection makes of the desk
  record Turn (d : Desk A S B K) (c : Connection R W) (s : Served R W) (e : Desk A S B K) : Type 0 where
    policy : policy_of e ≡ policy_of d
    clean : IsClean e → IsClean d
    bound : IsClean e → IsBound d → IsBound e
    leads : IsClean e → IsBound d → LeadsOn A input sent (policy_of d) (world_of d) c s (world_of e)

  -- nothing
  stays : (d e : Desk A S B K) (c : Connection R W) (s : Served R W) → e ≡ d
      → (s.outcome ≡ outcome.ReadFailed) ⊎ (AsksNothing input (policy_of d) c ⊎ Tells sent {A = A} c s want_of_memory) → Turn d c s e
  stays d e c s same why = record {
    policy = ap policy_of same;
    clean = λ clean. subst IsClean same clean;
    bound = λ clean bound. subst IsBound (sym same) bound;
    leads = λ clean bound. inl (why, ap world_of same);
  }

  -- what a command does
  by_meaning : (d e : Desk A S B K) (c : Connection R W) (s : Served R W) (a : Answer A) (q : wire.Request) → IfSome (input (inner_of c.reader)) (λ bytes. Spells (is_known (policy_of d)) bytes (asked q))
      → (m : Meaning) → Means q.kind q.target q.body m → AnswersMeaning g d q.token c.moment m a e → Tells sent {A = A} c s a → Turn d c s e
  by_meaning d e c s a q spelled (bad_body line) means h tells = stays d e c s h.1 (inr (inl (asked q, spelled, (bad_body line, means, tt))))
  by_meaning d e c s a q spelled unnamed means h tells = stays d e c s h.1 (inr (inl (asked q, spelled, (unnamed, means, tt))))
  by_meaning d e c s a q spelled (asks order) means h tells =
      let command = h.0 in
      let r = h.1 in
      let asking : Request A = record { token = q.token; moment = c.moment; command = command } in
      let handles : Handles g d asking r e = h.4 in
      let gone = goes g (policy_of d) (world_of d) (world_of e) asking r (serving_of d) (aside_of d) (serving_of e) (aside_of e)
      (done (policy_of d) (world_of d) asking r (world_of e))
      (λ none. let away = handles.halted none in (away.0, ap serving_of away.1, ap aside_of away.1, ap world_of away.1))
      handles.served in
      record {
        policy = handles.policy;
        clean = gone.clean;
        bound = gone.tied;
        leads = λ clean bound. inr (
          asking,
          r,
          record { request = q; spelled = spelled; order = order; means = means; command = h.2; given = h.3; token = refl; moment = refl },
          subst (Tells sent {A = A} c s) h.5 tells,
          gone.told clean bound,
        );
      }

  by_spelling : (d e : Desk A S B K) (c : Connection R W) (s : Served R W) (a : Answer A) (spelling : Spelling) → IfSome (input (inner_of c.reader)) (λ bytes. Spells (is_known (policy_of d)) bytes spelling)
      → AnswersSpelling g d c.moment spelling a e → Tells sent {A = A} c s a → Turn d c s e
  by_spelling d e c s a nothing spelled h tells = absurd h
  by_spelling d e c s a (refused why) spelled h tells = stays d e c s h.1 (inr (inl (refused why, spelled, tt)))
  by_spelling d e c s a (asked q) spelled h tells = by_meaning d e c s a q spelled h.0 h.1 h.2 tells

  by_answer : (d e : Desk A S B K) (c : Connection R W) (s : Served R W) (a : Answer A) → IsAnswered g (input (inner_of c.reader)) d c.moment a e → Tells sent {A = A} c s a → Turn d c s e
  by_answer d e c s a h tells = elim h [
    | inl want ↦ stays d e c s want.2 (inr (inr (subst (Tells sent {A = A} c s) want.0 tells)))
    | inr told ↦ by_spelling d e c s a told.0 told.1 told.2 tells
  ]

  by_outcome : (d e : Desk A S B K) (c : Connection R W) (s : Served R W) (o : Outcome) → s.outcome ≡ o
      → Serves g (side_of input c.reader) (side_of input s.reader) (side_of sent c.writer) (side_of sent s.writer) d c.moment o e → Turn d c s e
  by_outcome d e c s (outcome.Answered status) is h = by_answer d e c s h.0 h.1 (subst (TellsOutcome (sent (inner_of c.writer)) (sent (inner_of s.writer)) h.0) (sym is) (h.2, h.3))
  by_outcome d e c s outcome.Unsent is h = by_answer d e c s h.0 h.1 (subst (TellsOutcome (sent (inner_of c.writer)) (sent (inner_of s.writer)) h.0) (sym is) h.2)
  by_outcome d e c s outcome.ReadFailed is h = stays d e c s h.0 (inl is)
  by_outcome d e c s outcome.Empty is h = stays d e c s h.1 (inr (inl (nothing, h.0, tt)))

  -- what all of them make of it
  record Run (d : Desk A S B K) (cs : List (Connection R W)) (ss : List (Served R W)) (e : Desk A S B K) : Type 0 where
    clean : IsClean e → IsClean d
    leads : IsClean e → IsBound d → LeadTo A input sent (policy_of d) (world_of d) cs ss (world_of e)

  run : (d e : Desk A S B K) (cs : List (Connection R W)) (ss : List (Served R W)) → AreServed g input sent d cs ss e → Run d cs ss e
  run d e [] [] h = record { clean = λ clean. subst IsClean h clean; leads = λ clean bound. ap world_of h }
  run d e [] (s ∷ ss) h = absurd h
  run d e (c ∷ cs) [] h = absurd h
  run d e (c ∷ cs) (s ∷ ss) h =
      let turn = by_outcome d h.0 c s s.outcome refl h.1 in
      let rest = run h.0 e cs ss h.2 in
      record {
        clean = λ clean. turn.clean (rest.clean clean);
        leads = λ clean bound. (
          world_of h.0,
          turn.leads (rest.clean clean) bound,
          subst (λ p. LeadTo A input sent p (world_of h.0) cs ss (world_of e)) turn.policy (rest.leads clean (turn.bound (rest.clean clean) bound)),
        );
      }

  pub leads_to : (d e : Desk A S B K) (cs : List (Connection R W)) (ss : List (Served R W)) → AreServed g input sent d cs ss e → IsClean e → IsBound d
      → LeadTo A input sent (policy_of d) (world_of d) cs ss (world_of e)
  leads_to d e cs ss h = (run d e cs ss h).leads
