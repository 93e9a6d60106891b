-- Serving a beginning that is whole.
use Rattle.std.proofs.Common.{ℕ, List, ◌++◌, Some, inl, inr, arith, length-append}
use Rattle.fab_desk.specs.fab_store_base.declared.store.Store as store
use Rattle.fab_wire_answers.specs.declared.answers.Answer.{Answer}
use Rattle.fab_wire_base.specs.Whole.{IsWhole}
use Rattle.fab_wire_base.proofs.WholeLemmas.{beginnings-tell}
use Rattle.fab_desk.specs.Handled.{policy_of}
use Rattle.fab_wire.specs.Known.{is_known}
use Rattle.fab_wire.specs.Serving.{IsAnswered}
use Rattle.fab_desk.specs.declared.desk.Desk.{Desk}
use Rattle.fab_wire.specs.declared.outcome.Outcome.TheVariants as outcome
use Rattle.fab_wire.specs.Beginnings.{BeginningsServe}

module _ {A S B R : Type 0} (g : store.Ghosts S A) (d : Desk A S B R) where
  answered_all : (bytes more : List ℕ) (moment : ℕ) (a : Answer A) (e : Desk A S B R) → IsWhole (is_known (policy_of d)) bytes
      → IsAnswered g (Some bytes) d moment a e → IsAnswered g (Some (bytes ++ more)) d moment a e
  answered_all bytes more moment a e whole (inl (is, some, same)) = inl (is, simp length-append (omega (arith, some)), same)
  answered_all bytes more moment a e whole (inr (spelling, spelled, told)) =
      inr (spelling, beginnings-tell (is_known (policy_of d)) bytes more spelling whole spelled, told)

  pub beginnings_serve : BeginningsServe g d
  beginnings_serve bytes more n input' sent sent' moment (outcome.Answered status) e whole (a, is, named, written, read, sends) = (a, answered_all bytes more moment a e whole is, named, written, read, sends)
  beginnings_serve bytes more n input' sent sent' moment outcome.Unsent e whole (a, is, written, read, sends) = (a, answered_all bytes more moment a e whole is, written, read, sends)
  beginnings_serve bytes more n input' sent sent' moment outcome.ReadFailed e whole h = h
  beginnings_serve bytes more n input' sent sent' moment outcome.Empty e whole (spelled, same, kept, read, sends) =
      (beginnings-tell (is_known (policy_of d)) bytes more _ whole spelled, same, kept, read, sends)
