use Rattle.std.proofs.Common.{None, Some, ap, option_map, sym}
use Rattle.tsb_text.specs.declared.faults.LineFault.TheVariants.{Refused}
use Rattle.tsb_text.proofs.recording.RecorderLemmas.{line-left}
use Rattle.tsb_text.proofs.recording.recorder.carry_out.Goals as goal

pub returns-in-Some-clause-done : goal.returns-in-Some-clause-done
returns-in-Some-clause-done c given log is s =
    line-left given log is c.obey.new.course c.in-Do.command c.args.reading (Some (Refused c.in-Some.refusal)) c.obey.result c.in-Do.is (sym (ap (option_map Refused) c.in-Some.is)) (c.obey.ensures.done given log is s)

pub returns-in-None-clause-done : goal.returns-in-None-clause-done
returns-in-None-clause-done c given log is s =
    line-left given log is c.obey.new.course c.in-Do.command c.args.reading None c.obey.result c.in-Do.is (sym (ap (option_map Refused) c.in-None.is)) (c.obey.ensures.done given log is s)
