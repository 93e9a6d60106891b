use Rattle.std.proofs.Common.{◌≡◌, map, drop}
use Rattle.clap.specs.Words.{app_of}
use Rattle.fab_program_options.specs.CommandLine.{desk_app, subcommand_app, with_subcommands}
use Rattle.fab_program_options.proofs.commands.command_line.Given as goal

abbrev pub invariant-loop-subcommand : goal.invariant-loop-subcommand
invariant-loop-subcommand l = with_subcommands (app_of l.command) (map (λ s. (subcommand_app s).top) (drop l.subcommand-index l.subcommand-items)) ≡ desk_app
