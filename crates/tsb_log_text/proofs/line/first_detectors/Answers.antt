use Rattle.std.proofs.Common.{◌∙◌, ◌%◌, ℕ, ap, arith}
use Rattle.tsb_types.specs.Sets.{set_of_list}
use Rattle.tsb_log_text.proofs.ListLemmas.{word-of}
use Rattle.tsb_log_text.proofs.line.first_detectors.Goals as goal

pub returns : goal.returns
returns c = c.from_list.ensures.same ∙ ap (λ (l : ℕ). set_of_list (l % 65536)) (word-of 64 _ _ (omega arith) (omega arith) c.list.ensures)
