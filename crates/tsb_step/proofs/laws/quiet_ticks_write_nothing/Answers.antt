use Rattle.tsb_step.specs.declared.inputs.Input.TheVariants.{Tick}
use Rattle.tsb_step.proofs.QuietLemmas.{writes_nothing}
use Rattle.tsb_step.proofs.laws.quiet_ticks_write_nothing.Goals as goal

pub returns : goal.returns
returns c row before after quiet = writes_nothing (Tick row) before after quiet
