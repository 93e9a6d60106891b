-- What a desk over a store does with a request.
use Rattle.std.specs.Prelude.{ℕ, ◌≡◌, ◌≢◌, ◌↔◌, ◌⊎◌, Bool, true, false, cond, List, [], ◌∷◌, filter, slice_get, None, Some, Option}
use Rattle.fab_desk_machine.specs.fab_desk_base.Answers.{IsNobodys, IsStep, Request}
use Rattle.fab_desk_machine.specs.fab_desk_base.declared.command.Command.TheVariants as command
use Rattle.fab_desk_machine.specs.fab_desk_base.declared.command.Query.{Query}
use Rattle.fab_desk_machine.specs.fab_desk_base.declared.fault.DeskFault.TheVariants as fault
use Rattle.fab_desk_machine.specs.fab_desk_base.declared.reply.Reply.{Reply}
use Rattle.fab_desk_machine.specs.fab_desk_base.declared.reply.Reply.TheVariants.{Refused}
use Rattle.fab_policy_base.specs.Callers.{HasToken}
use Rattle.fab_policy_base.specs.Policies.{PolicyRows}
use Rattle.fab_store_base.specs.Calls.{IsCounted, OpensNot, Rises}
use Rattle.fab_store_base.specs.Worlds.{HoldsWorld, IsWritten}
use Rattle.fab_store_load.specs.declared.fault.OpenFault.{OpenFault}
use Rattle.fab_store_base.specs.declared.store.Store as store
use Rattle.fab_store_tables.specs.Tables.{Tables}
use Rattle.fab_world.specs.Worlds.{WorldRows}

-- ---- one request

-- the request is a read
abbrev pub IsRead : {A : Type 0} → Request A → Type 0
IsRead q = (query : Query) × (q.command ≡ command.Show query)

-- there was no memory, or the store refused
abbrev pub IsUndone : {A : Type 0} → Reply A → Type 0
IsUndone r = (r ≡ Refused fault.Memory) ⊎ (r ≡ Refused fault.Store)

-- the request is answered by a step of the desk; or it is not done, and the world is as it was
abbrev pub IsHandled : {A : Type 0} → PolicyRows → WorldRows → Request A → Reply A → WorldRows → Type 0
IsHandled p w q r v = (IsUndone r × (v ≡ w)) ⊎ IsStep p w q r v

-- the world after the request, if it is done
abbrev pub IsAfter : {A : Type 0} → PolicyRows → WorldRows → Request A → WorldRows → Type 0
IsAfter {A} p w q v = (r : Reply A) × IsStep p w q r v

-- what a halted desk answers: nobody has the token, or the desk is halted
abbrev pub IsTurnedAway : {A : Type 0} → PolicyRows → List ℕ → Reply A → Type 0
IsTurnedAway p token r = (IsNobodys p token × (r ≡ Refused fault.NoCaller)) ⊎ (((id : ℕ) × HasToken p token id) × (r ≡ Refused fault.Halted))

-- ---- a list of requests

-- whether the reply tells that the request was done: there was memory, the store did not refuse, and
-- the desk was not halted
abbrev pub is_done : {A : Type 0} → Reply A → Bool
is_done (Refused fault.Memory) = false
is_done (Refused fault.Store) = false
is_done (Refused fault.Halted) = false
is_done _ = true

-- the requests that were done, and their replies
abbrev pub done_requests : {A : Type 0} → List (Request A) → List (Reply A) → List (Request A)
done_requests (q ∷ qs) (r ∷ rs) = cond (is_done r) (q ∷ done_requests qs rs) (done_requests qs rs)
done_requests _ _ = []

abbrev pub done_replies : {A : Type 0} → List (Reply A) → List (Reply A)
done_replies rs = filter is_done rs

-- the store refused this change, which halted the desk, and no other one
pub record IsHaltedBy {A : Type 0} (asked : List (Request A)) (replies : List (Reply A)) (q : Request A) : Type 0 where
  pub place : ℕ
  pub at : slice_get asked place ≡ Some q
  pub refused : slice_get replies place ≡ Some (Refused fault.Store)
  pub change : ¬ IsRead q
  pub only : (i : ℕ) (x : Request A) → slice_get asked i ≡ Some x → slice_get replies i ≡ Some (Refused fault.Store) → (¬ IsRead x) → i ≡ place

-- ---- the tables

module _ {A S : Type 0} (g : store.Ghosts S A) where
  -- the tables have just the rows of the world, now and after a stop; those of a store that is shut
  -- are told by a stop alone
  pub record IsTied (s : S) (w : WorldRows) : Type 0 where
    pub ready : g.is_ready s
    pub written : IsWritten w
    pub holds : g.is_open s → HoldsWorld (g.tables s) w
    pub leaves : (left : Tables) → g.may_leave s left → HoldsWorld left w

  -- after a stop the tables have just the rows of the world, or those of the world after the request
  abbrev pub IsInDoubt : PolicyRows → WorldRows → Request A → S → Type 0
  IsInDoubt p w q s = (left : Tables) → g.may_leave s left → HoldsWorld left w ⊎ ((v : WorldRows) × IsAfter p w q v × HoldsWorld left v)

  -- what a request comes to over a store: the store serves on, or a change was refused by it, which
  -- halts the desk and leaves the store aside
  pub record IsServed (p : PolicyRows) (w : WorldRows) (q : Request A) (r : Reply A) (s : S) (serving aside : Option S) (v : WorldRows) : Type 0 where
    -- the store as the request left it
    pub after : S
    pub kept : (serving ≡ Some after) ⊎ ((serving ≡ None) × (aside ≡ Some after) × (r ≡ Refused fault.Store))
    pub clean : g.is_clean after → g.is_clean s
    pub answers : g.is_clean after → IsTied s w → IsHandled p w q r v
    pub tied : g.is_clean after → IsTied s w → serving ≡ Some after → IsTied after v
    pub doubt : g.is_clean after → IsTied s w → IsInDoubt p w q after
    -- what the store refused halts the desk just where it was no read
    pub halts : r ≡ Refused fault.Store → (serving ≡ None) ↔ ¬ IsRead q
    -- the count rises just where the store refused
    pub counted : r ≡ Refused fault.Store → Rises (g.refused s) (g.refused after)
    pub uncounted : r ≢ Refused fault.Store → g.refused after ≡ g.refused s
    pub untouched : r ≡ Refused fault.Memory → after ≡ s

  -- what opening leaves of a store: nothing is changed
  pub record IsFound (before after : S) : Type 0 where
    pub clean : g.is_clean after → g.is_clean before
    pub same : g.is_clean after → g.is_open after → g.is_open before × (g.tables after ≡ g.tables before)
    pub stop : g.is_clean after → (left : Tables) → g.may_leave after left → g.may_leave before left

  -- a desk over the store, which is tied to its world
  pub record IsOpened (before : S) (serving : Option S) (w : WorldRows) : Type 0 where
    pub after : S
    pub serves : serving ≡ Some after
    pub found : IsFound before after
    pub tied : g.is_clean after → g.is_open after × IsTied after w
    pub uncounted : g.refused after ≡ g.refused before

  -- why there is none, and the store, which is as it was
  pub record IsUnopened (before : S) (fault : OpenFault) (after : S) : Type 0 where
    pub found : IsFound before after
    pub fault_is : g.is_clean after → OpensNot (g.tables before) fault
    pub counted : IsCounted (g.refused before) (g.refused after) fault

  -- ---- a list of requests

  -- the store that the desk has, serving or left aside, is clean
  abbrev pub IsCleanDesk : Option S → Option S → Type 0
  IsCleanDesk (Some s) aside = g.is_clean s
  IsCleanDesk None (Some s) = g.is_clean s
  IsCleanDesk None None = Unit {0}

  -- the store that serves, if one does, is tied to the world
  abbrev pub IsTiedDesk : Option S → WorldRows → Type 0
  IsTiedDesk (Some s) w = IsTied s w
  IsTiedDesk None w = Unit {0}

  -- Whatever moment a stop comes at: while the desk serves, it leaves the rows of the world, and
  -- nothing else. Where the store refused a change, which halted the desk, it leaves those, or the rows
  -- of the world after that one change.
  abbrev pub IsLeftByStop : PolicyRows → List (Request A) → List (Reply A) → Option S → Option S → WorldRows → Type 0
  IsLeftByStop p asked replies serving aside w =
      ((s : S) × (serving ≡ Some s) × ((left : Tables) → g.may_leave s left → HoldsWorld left w))
      ⊎ ((s : S) × (q : Request A) × (serving ≡ None) × (aside ≡ Some s) × IsHaltedBy asked replies q × IsInDoubt p w q s)

-- the request is handled, or the desk is halted
abbrev pub IsAnsweredByDesk : {A : Type 0} → PolicyRows → WorldRows → Request A → Reply A → WorldRows → Type 0
IsAnsweredByDesk p w q r v = ((r ≡ Refused fault.Halted) × (v ≡ w)) ⊎ IsHandled p w q r v
