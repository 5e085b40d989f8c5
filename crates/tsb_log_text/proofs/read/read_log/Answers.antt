use Rattle.std.proofs.Common.{arith}
use Rattle.tsb_log_text.proofs.ReadLemmas.{faulty-gives, log-rises, wants-row}
use Rattle.tsb_log_text.proofs.read.read_log.Goals as goal

pub of-requires : goal.of-requires
of-requires c = log-rises c.args.text.now c.read_rows.new.rows.items (omega (arith, c.if-text-gt-LIMIT.false)) c.in-Ok.ensures.reads

pub returns-in-Err-clause-reads : goal.returns-in-Err-clause-reads
returns-in-Err-clause-reads c = faulty-gives c.args.text.now c.read_rows.new.rows.items c.in-Err.fault c.in-Err.ensures.reads

pub returns-in-Err-clause-wanting : goal.returns-in-Err-clause-wanting
returns-in-Err-clause-wanting c memory = wants-row c.args.text.now c.read_rows.new.rows.items c.in-Err.fault c.in-Err.ensures.reads (grind (arith, memory))
