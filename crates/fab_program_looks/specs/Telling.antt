-- What a caller who looks is told, and what is printed of it.
use Rattle.std.specs.Prelude.{ℕ, ◌≡◌, ◌⊎◌, List, [], ◌∷◌, Bool, true, false, Option, Result, Err}
use Rattle.std.specs.declared.alloc.Global.{Global}
use Rattle.fab_desk_base.specs.declared.fault.DeskFault.TheVariants as refusal
use Rattle.fab_desk_base.specs.declared.reply.Reply.TheVariants as reply
use Rattle.fab_desk_base.specs.declared.reply.Shown.{Shown}
use Rattle.fab_files.specs.Printed.{json_line}
use Rattle.fab_files_base.specs.declared.printing.End.{End}
use Rattle.fab_files_base.specs.declared.printing.End.TheVariants.{Done, Refused}
use Rattle.fab_files_looks.specs.Reachers.{reachers_json, reachers_text}
use Rattle.fab_files_looks.specs.Lists.{rows_json}
use Rattle.fab_files_looks.specs.Ways.{found_lines, way_json, way_text}
use Rattle.fab_looks.specs.PortWays.{ArePortWay}
use Rattle.fab_looks.specs.Told.{IsTold}
use Rattle.fab_looks.specs.Ways.{AreWayRows}
use Rattle.fab_looks.specs.declared.explaining.Why.{Why}
use Rattle.fab_looks.specs.declared.explaining.Why.TheVariants as why
use Rattle.fab_looks_ways.specs.Offers.{AreToldReachers}
use Rattle.fab_looks_ways.specs.Pairs.{ArePairs}
use Rattle.fab_looks_ways.specs.declared.pairing.Pair.{Pair}
use Rattle.fab_looks_ways.specs.declared.reachers.Reacher.{Reacher}
use Rattle.fab_policy_base.specs.Policies.{PolicyRows}
use Rattle.fab_program_outside.specs.Printing.{Prints}
use Rattle.fab_program_outside.specs.declared.faults.Fault.{Fault}
use Rattle.fab_program_outside.specs.declared.faults.Fault.TheVariants as fault
use Rattle.fab_wire_answers.specs.declared.answers.Answer.{Answer}
use Rattle.fab_wire_answers.specs.declared.answers.Answer.TheVariants as answer
use Rattle.fab_world.specs.Worlds.{WorldRows}

-- nobody has the token
abbrev pub no_caller : Answer Global
no_caller = answer.Replied (reply.Refused refusal.NoCaller)

abbrev pub IsTurnedAway : {W : Type 0} → (W → Option (List ℕ)) → W → Result (W × End) Fault → Type 0
IsTurnedAway contents writer came = Prints contents writer (json_line no_caller) Refused came

-- ---- why

-- it is done where the host reaches the volume
abbrev pub end_of_why : {A : Type 0} → Why A → End
end_of_why (why.Reaches paths) = Done
end_of_why (why.Missing link) = Refused

abbrev pub way_output : {A : Type 0} → Bool → List ℕ → List ℕ → Why A → List (Shown A) → List Pair → List ℕ
way_output true host volume told found pairs = way_json host volume told found pairs
way_output false host volume told found pairs = way_text told found pairs

module _ {W : Type 0} (contents : W → Option (List ℕ)) (w : WorldRows) (p : PolicyRows) (id : ℕ) where
  -- there was no memory; or the answer that the caller is told is printed, with what it may read of the way
  -- and with the pairs of ports
  abbrev pub TellsWay : List ℕ → List ℕ → Bool → W → Result (W × End) Fault → Type 0
  TellsWay host volume json writer came = (came ≡ Err fault.Memory)
      ⊎ ((told : Why Global) × (found : List (Shown Global)) × (pairs : List Pair) × IsTold p w id host volume told × AreWayRows p w id host volume found × ArePairs p w id host volume pairs × Prints contents writer (way_output json host volume told found pairs) (end_of_why told) came)

-- ---- who

abbrev pub who_output : {A : Type 0} → Bool → List (Reacher A) → List ℕ
who_output true rs = reachers_json rs
who_output false rs = reachers_text rs

module _ {W : Type 0} (contents : W → Option (List ℕ)) (w : WorldRows) (p : PolicyRows) (id : ℕ) where
  -- there was no memory; or the hosts that the caller is told are printed, with their counts and by what they
  -- reach the volume
  abbrev pub TellsWho : List ℕ → Bool → W → Result (W × End) Fault → Type 0
  TellsWho volume json writer came = (came ≡ Err fault.Memory)
      ⊎ ((reachers : List (Reacher Global)) × AreToldReachers p w id volume reachers × Prints contents writer (who_output json reachers) Done came)

-- ---- a port

-- it is done where there is something to show
abbrev pub end_of_port : {A : Type 0} → List (Shown A) → End
end_of_port [] = Refused
end_of_port (x ∷ xs) = Done

abbrev pub port_output : {A : Type 0} → Bool → List (Shown A) → List ℕ
port_output true found = rows_json found
port_output false found = found_lines found

module _ {W : Type 0} (contents : W → Option (List ℕ)) (w : WorldRows) (p : PolicyRows) (id : ℕ) where
  -- there was no memory; or what the caller may read of the port and of what is around it is printed
  abbrev pub TellsPort : ℕ → Bool → W → Result (W × End) Fault → Type 0
  TellsPort port json writer came = (came ≡ Err fault.Memory)
      ⊎ ((found : List (Shown Global)) × ArePortWay p w id port found × Prints contents writer (port_output json found) (end_of_port found) came)
