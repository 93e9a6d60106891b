-- What a parse says of the words.
use Rattle.std.proofs.Common.{◌≡◌, List, [], ◌∷◌, true, Option, refl, subst, inl, inr}
use Rattle.clap.specs.Words.{App, HasKind, HasMatchesOf, Kinds, Row, Text, fault_of, is_simple, is_simple_and_free, kind_of, subcommand_of, subcommand_rows_of}
use Rattle.clap.specs.declared.error.Error.{Error}
use Rattle.clap.specs.declared.error.kind.ErrorKind.TheVariants.{OutOfMemory}
use Rattle.clap.specs.declared.parser.matches.ArgMatches.{ArgMatches}
use Rattle.clap.proofs.OnLiterals.{clap_on_literals}
use Rattle.clap.proofs.WalkLemmas.{both}
use Rattle.fab_program_options.specs.CommandLine.{desk_app, option_rule, program_app, subcommand_app}
use Rattle.fab_program_options.specs.Asking.{AreUnderstood, Asks, IsAsked, IsReason}
use Rattle.fab_program_options.specs.Reading.{IsFaultOf}
use Rattle.fab_program_options.specs.declared.reading.WordsFault.{WordsFault}
use Rattle.fab_program_options.specs.declared.reading.WordsFault.TheVariants.{Refused, BadText, Memory}
use Rattle.fab_program_words.specs.declared.words.Words.{Words}

-- clap's faults of the words say all that can be wrong
pub is_whole : is_simple_and_free desk_app ≡ true
unfolding desk_app program_app subcommand_app option_rule clap_on_literals
is_whole = refl

-- where there is no fault, memory ran out
for_memory : (faults : Kinds) (e : Error) → faults ≡ [] → HasKind faults e → kind_of e ≡ OutOfMemory
for_memory [] e none (inl h) = h
for_memory [] e none (inr h) = absurd h
for_memory (k ∷ ks) e none h = absurd (cc none)

pub reason : (line : List Text) (e : Error) (f : WordsFault) → HasKind (fault_of desk_app line) e → IsFaultOf e f → IsReason line f
reason line e (Refused error) kinds h = λ understood. h.1 (for_memory (fault_of desk_app line) e understood kinds)
reason line e BadText kinds h = absurd h
reason line e Memory kinds h = tt

module _ (app : App) (is : app ≡ desk_app) (line : List Text) where
  pub understood : (is_simple_and_free app ≡ true → fault_of app line ≡ []) → AreUnderstood line
  understood h = let P : App → Type 0 = λ a. is_simple_and_free a ≡ true → fault_of a line ≡ [] in subst P is h is_whole

  pub refused : (e : Error) → (is_simple_and_free app ≡ true → HasKind (fault_of app line) e) → HasKind (fault_of desk_app line) e
  refused e h = let P : App → Type 0 = λ a. is_simple_and_free a ≡ true → HasKind (fault_of a line) e in subst P is h is_whole

  pub found_is : (m : ArgMatches) → HasMatchesOf app line m → subcommand_rows_of m ≡ subcommand_of desk_app line
  found_is m h = let P : App → Type 0 = λ a. HasMatchesOf a line m in (subst P is h (both (is_simple desk_app) _ is_whole).0).1

  pub asks : (m : ArgMatches) (w : Words) → (is_simple_and_free app ≡ true → fault_of app line ≡ []) → HasMatchesOf app line m → IsAsked (subcommand_rows_of m) w → Asks line w
  asks m w none matches asked = record {
    understood = understood none;
    asked = subst (λ (o : Option (Text × List Row)). IsAsked o w) (found_is m matches) asked;
  }

  pub asks_nothing : (m : ArgMatches) → (is_simple_and_free app ≡ true → fault_of app line ≡ []) → HasMatchesOf app line m → ((w : Words) → ¬ IsAsked (subcommand_rows_of m) w) → IsReason line BadText
  asks_nothing m none matches asked = (understood none, subst (λ (o : Option (Text × List Row)). (w : Words) → ¬ IsAsked o w) (found_is m matches) asked)
