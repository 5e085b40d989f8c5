use Rattle.std.proofs.Common.{ap, arith, nat_le}
use Rattle.tsb_log_text.proofs.ListLemmas.{word-of}
use Rattle.tsb_log_text.proofs.form.reaches.Goals as goal

pub returns : goal.returns
returns c = ap (nat_le c.args.least) (word-of 16 _ _ (omega arith) (omega arith) c.list.ensures)
