use Rattle.std.proofs.lemmas.Result.{IfOk-weaker}
use Rattle.tsb_plan_notes.proofs.NoteLemmas.{read-is}
use Rattle.tsb_plan_notes.proofs.text.notes.Goals as goal

pub returns : goal.returns
returns c = IfOk-weaker c.notes_read.result _ _ (λ notes is. read-is c.args.text.now notes.items c.from_slice-read.result c.from_slice-read.ensures.ok c.from_slice-read.ensures.invalid is) c.notes_read.ensures.notes
