use Rattle.fab_program_options.proofs.Grown.{growing_more}
use Rattle.fab_program_options.proofs.commands.with_options.Goals as goal

pub loop-option-preserved : goal.loop-option-preserved
loop-option-preserved c =
    growing_more _ _ _ c.argument_of.result _ _ _ c.loop-option.option-index _ c.loop-option-test.true c.loop-option.invariant c.in_ok-command.ensures c.argument_of.ensures.rule c.argument_of.ensures.local
