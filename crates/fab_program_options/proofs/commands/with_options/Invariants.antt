use Rattle.std.proofs.Common.{drop}
use Rattle.fab_program_options.specs.CommandLine.{option_rules}
use Rattle.fab_program_options.proofs.Grown.{IsGrowing}
use Rattle.fab_program_options.proofs.commands.with_options.Given as goal

abbrev pub invariant-loop-option : goal.invariant-loop-option
invariant-loop-option l = IsGrowing l.fn.command l.command (option_rules l.is_required l.options) (option_rules l.is_required (drop l.option-index l.options))
