use Rattle.std.proofs.Common.{ap, arith, nat_le}
use Rattle.tsb_log_text.proofs.ListLemmas.{word-of}
use Rattle.tsb_log_text.proofs.form.reaches_detectors.Goals as goal

pub returns : goal.returns
returns c = ap (nat_le 65536) (word-of 64 _ _ (omega arith) (omega arith) c.list.ensures)
