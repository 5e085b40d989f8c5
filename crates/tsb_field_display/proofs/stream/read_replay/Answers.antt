use Rattle.std.proofs.Common.{arith}
use Rattle.std.proofs.lemmas.Result.{err_from_is_err_and}
use Rattle.tsb_field_display.proofs.StreamLemmas.{going_next, read_endless}
use Rattle.tsb_field_display.proofs.stream.read_replay.Goals as goal

pub returns-then-not-branch : goal.returns-then-not-branch
returns-then-not-branch g c =
    let more = c.in_ok-take_read.ensures c.args.is_wide (g.R.Read.remaining c.args.reader.now.device) c.loop-read._read c.loop-read.invariant in
    c.finish.ensures c.args.is_wide c.take_read.new.reader.failed (g.R.Read.remaining c.args.reader.now.device) (g.R.Read.remaining c.take_read.new.reader.device) c.loop-read._read more.going (more.end c.if-not-branch.true)

pub returns-in_err-take_read : goal.returns-in_err-take_read
returns-in_err-take_read g c = let p = err_from_is_err_and c.from_residual.result c.from_residual.ensures.1 in
    rw (p.1, p.2) (c.in_err-take_read.ensures c.args.is_wide (g.R.Read.remaining c.args.reader.now.device) c.loop-read._read c.loop-read.invariant)

pub loop-read-preserved : goal.loop-read-preserved
loop-read-preserved g c = going_next _ _ _ _ _ _ _ c.if-not-branch.false (c.in_ok-take_read.ensures c.args.is_wide (g.R.Read.remaining c.args.reader.now.device) c.loop-read._read c.loop-read.invariant)

pub returns : goal.returns
returns g c = read_endless _ _ _ _ c.loop-read.stream c.loop-read._read (omega arith) c.loop-read.invariant
