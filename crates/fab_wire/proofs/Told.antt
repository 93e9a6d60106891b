-- An answer, from what was heard and what was told.
use Rattle.std.proofs.Common.{ℕ, ◌≡◌, ◌<◌, ◌⊎◌, Bool, List, Option, None, Some, IfSome, inl, inr, length}
use Rattle.fab_desk.specs.fab_store_base.declared.store.Store as store
use Rattle.fab_desk.specs.Handled.{policy_of}
use Rattle.fab_desk.specs.declared.desk.Desk.{Desk}
use Rattle.fab_wire_base.specs.Spelling.{Request, asked, Spells}
use Rattle.fab_wire_base.proofs.SpellingLemmas.{head-some}
use Rattle.fab_wire_answers.specs.Messages.{want_of_memory}
use Rattle.fab_wire_answers.specs.declared.answers.Answer.{Answer}
use Rattle.fab_wire.specs.Known.{is_known}
use Rattle.fab_wire.specs.Serving.{IsAnswered, AnswersRequest, Serves, side}
use Rattle.fab_wire.specs.Telling.{TellsOutcome, failures_after_outcome}
use Rattle.fab_wire.specs.declared.outcome.Outcome.{Outcome}
use Rattle.fab_wire.specs.declared.outcome.Outcome.TheVariants as outcome

-- an input that spells a request has a byte
asked_some : (knows : List ℕ → Bool) (input : List ℕ) (q : Request) → Spells knows input (asked q) → 0 < length input
asked_some knows input q (inl h) = absurd (cc h.1)
asked_some knows input q (inr (inl h)) = h.0
asked_some knows input q (inr (inr (head, rest, is, h))) = head-some input head rest is.0

-- what holds of the bytes that are there holds of what follows from it
some_map : {X : Type 0} (o : Option X) (P Q : X → Type 0) → ((x : X) → P x → Q x) → IfSome o P → IfSome o Q
some_map None P Q f h = tt
some_map (Some x) P Q f h = f x h

module _ {A S B R : Type 0} (g : store.Ghosts S A) where
  -- what a request is answered is the answer to an input that spells it
  pub asked_answered : (input : Option (List ℕ)) (d e : Desk A S B R) (moment : ℕ) (q : Request) (a : Answer A) → IfSome input (λ bytes. Spells (is_known (policy_of d)) bytes (asked q))
      → ((a ≡ want_of_memory) × (e ≡ d)) ⊎ AnswersRequest g d moment q a e → IsAnswered g input d moment a e
  asked_answered input d e moment q a heard (inl want) = inl (want.0, some_map input (λ bytes. Spells (is_known (policy_of d)) bytes (asked q)) (λ bytes. 0 < length bytes) (λ bytes h. asked_some (is_known (policy_of d)) bytes q h) heard, want.1)
  asked_answered input d e moment q a heard (inr answers) = inr (asked q, heard, answers)

  -- an answer that was told is what serving comes to
  pub answered : (input input' sent sent' : Option (List ℕ)) (reads reads' writes writes' : ℕ) (d e : Desk A S B R) (moment : ℕ) (a : Answer A) (o : Outcome) → IsAnswered g input d moment a e → reads' ≡ reads
      → TellsOutcome sent sent' a o → writes' ≡ failures_after_outcome o writes → Serves g (side input reads) (side input' reads') (side sent writes) (side sent' writes') d moment o e
  answered input input' sent sent' reads reads' writes writes' d e moment a (outcome.Answered status) h same told count = (a, h, told.0, told.1, same, count)
  answered input input' sent sent' reads reads' writes writes' d e moment a outcome.Unsent h same told count = (a, h, told, same, count)
  answered input input' sent sent' reads reads' writes writes' d e moment a outcome.ReadFailed h same told count = absurd told
  answered input input' sent sent' reads reads' writes writes' d e moment a outcome.Empty h same told count = absurd told
