use Rattle.std.proofs.Common.{ap, map}
use Rattle.clap.specs.Words.{App}
use Rattle.fab_program_options.specs.CommandLine.{all_subcommands, desk_app, subcommand_app, with_subcommands}
use Rattle.fab_program_options.proofs.Grown.{subcommand_next}
use Rattle.fab_program_options.proofs.commands.command_line.Goals as goal

pub loop-subcommand-init : goal.loop-subcommand-init
unfolding desk_app
loop-subcommand-init c = ap (λ (a : App). with_subcommands a (map (λ s. (subcommand_app s).top) all_subcommands)) c.in_ok-command.ensures

pub loop-subcommand-preserved : goal.loop-subcommand-preserved
loop-subcommand-preserved c =
    subcommand_next c.loop-subcommand.command c.in_ok-added.added c.in_ok-command-2.command _ all_subcommands c.loop-subcommand.subcommand-index _ c.loop-subcommand-test.true c.loop-subcommand.invariant c.in_ok-command-2.ensures c.in_ok-added.ensures.local c.in_ok-added.ensures.app
