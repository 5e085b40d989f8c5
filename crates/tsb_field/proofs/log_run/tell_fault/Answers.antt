use Rattle.tsb_field.proofs.EndLemmas.{told-fault}
use Rattle.tsb_field.proofs.log_run.tell_fault.Goals as goal

pub returns-in_default : goal.returns-in_default
returns-in_default g c = (
  c.tell_line.ensures.line.0,
  told-fault c.args.fault c.tell_line.result c.args.streams.now.errors c.tell_line.new.streams.errors c.in_default.not-Memory c.in_default.not-Read c.in_default.not-Write
      (c.tell_line.ensures.status, c.tell_line.ensures.line.1),
)
