-- Looks of one caller at a database.
use Rattle.std.specs.Prelude.{ℕ, List, Bool, Option, Result}
use Rattle.std.specs.declared.alloc.Global.{Global}
use Rattle.fab_files_base.specs.declared.printing.End.{End}
use Rattle.fab_program_looks.specs.Looks.{LooksOver}
use Rattle.fab_program_looks.specs.declared.looks.Look.{Look}
use Rattle.fab_program_looks.specs.declared.looks.Look.TheVariants as look
use Rattle.fab_program_words.specs.declared.words.Access.{Access}
use Rattle.fab_program_words.specs.declared.words.Names.{Names}
use Rattle.fab_program_words.specs.declared.words.Who.{Who}
use Rattle.fab_program_words.specs.declared.words.WhoOf.{WhoOf}
use Rattle.fab_program_words.specs.declared.words.WhoOf.TheVariants as of
use Rattle.fab_program_words.specs.declared.words.Why.{Why}
use Rattle.fab_program_outside.specs.Coming.{Then}
use Rattle.fab_program_outside.specs.Contents.{IsPolicyAt}
use Rattle.fab_program_outside.specs.declared.faults.Fault.{Fault}
use Rattle.fab_program_outside.specs.declared.files.Files as files
use Rattle.fab_store.specs.declared.Store as store
use Rattle.fab_program_desks.specs.declared.database.Databases as databases

abbrev pub who_look : WhoOf → Look
who_look (of.Volume volume) = look.Who volume
who_look (of.Port port) = look.Port port

module _ {O F T W : Type 0} (f : files.Ghosts O F) (known : F → Option (List ℕ)) (d : databases.Ghosts O T) (t : store.Ghosts T Global) (contents : W → Option (List ℕ)) where
  -- the policy of the caller's file is read, the tables are opened, and then the caller looks at them under it
  abbrev pub ComesLooking : O → Access → Look → Bool → W → Result (W × End) Fault → Type 0
  ComesLooking outside access at json writer came =
      Then (IsPolicyAt known (f.opens outside access.policy.now)) (λ p.
      Then (d.finds outside access.db.now) (λ s. LooksOver t contents s p (record { token = access.token; look = at; is_json = json }) writer)) came

  -- why the host reaches the volume or does not
  abbrev pub WhyComes : O → Why → W → Result (W × End) Fault → Type 0
  WhyComes outside asked writer came = ComesLooking outside asked.access (look.Why asked.host asked.volume) asked.is_json writer came

  -- who reaches the volume, or what is around the port
  abbrev pub WhoComes : O → Who → W → Result (W × End) Fault → Type 0
  WhoComes outside asked writer came = ComesLooking outside asked.access (who_look asked.of) asked.is_json writer came

  -- what there is of the kind
  abbrev pub NamesComes : O → Names → W → Result (W × End) Fault → Type 0
  NamesComes outside asked writer came = ComesLooking outside asked.access (look.List asked.kind asked.state) asked.is_json writer came
