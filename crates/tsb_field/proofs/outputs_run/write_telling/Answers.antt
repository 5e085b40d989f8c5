use Rattle.tsb_field.proofs.outputs_run.write_telling.Goals as goal

pub returns : goal.returns
returns g c = (c.write_log-status.result, c.write_log-status.new.streams, c.write_log-status.ensures, c.tell_more.ensures.more, c.tell_more.ensures.status)
