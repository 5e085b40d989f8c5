use Rattle.std.proofs.Common.{rules}
use Rattle.tsb_log_text.specs.Rows.{inputs_of}
use Rattle.tsb_log_text.proofs.row_text.inputs_of.Goals as goal

pub returns : goal.returns
unfolding inputs_of
returns c = search rules fits 100
