use Rattle.std.proofs.Common.{◌≡◌, ◌∙◌, ap}
use Rattle.std.proofs.lemmas.Result.{IfOk-weaker}
use Rattle.clap.specs.Words.{app_of, new_app}
use Rattle.clap.specs.Simple.{app_of_fields}
use Rattle.fab_program_options.specs.CommandLine.{subcommand_app, subcommand_name}
use Rattle.fab_program_options.proofs.Grown.{subcommand_made}
use Rattle.fab_program_options.proofs.commands.command_of.Goals as goal

pub returns-clause-app : goal.returns-clause-app
unfolding subcommand_app
returns-clause-app c =
    let s = c.args.subcommand in
    let base : app_of c.after_help-command.result ≡ new_app (subcommand_name s) = ap app_of_fields c.after_help-command.ensures ∙ ap app_of_fields c.about-2.ensures ∙ c.new.ensures.app ∙ ap new_app c.name.ensures in
    IfOk-weaker c.with_options-3.result _ _ (λ three third. subcommand_made (subcommand_name s) c.after_help-command.result c.in_ok-command.command c.in_ok-command-2.command three _ _ _ base (rw c.access.ensures at c.in_ok-command.ensures) (rw c.required.ensures at c.in_ok-command-2.ensures) (rw c.optional.ensures at third)) c.with_options-3.ensures
