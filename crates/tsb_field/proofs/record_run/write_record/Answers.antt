use Rattle.std.proofs.Common.{◌∙◌, sym}
use Rattle.tsb_field.proofs.record_run.write_record.Goals as goal

pub returns-then-lacks_clock : goal.returns-then-lacks_clock
returns-then-lacks_clock g c = rw (sym c.lacks_clock.ensures ∙ c.if-lacks_clock.true) c.tell_no_clock.ensures

pub returns : goal.returns
returns g c = rw (sym c.lacks_clock.ensures ∙ c.if-lacks_clock.false) c.record_files.ensures
