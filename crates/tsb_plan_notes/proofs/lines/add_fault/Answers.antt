use Rattle.std.proofs.Common.{codes}
use Rattle.std.proofs.lemmas.Result.{on_ok_weaker}
use Rattle.json.specs.Value.{value_view}
use Rattle.tsb_plan_notes.specs.Notes.{fault_text, fault_words, shown}
use Rattle.tsb_plan_notes.proofs.NoteLemmas.{three}
use Rattle.tsb_plan_notes.proofs.lines.add_fault.Goals as goal

pub returns : goal.returns
unfolding fault_text
returns c =
    on_ok_weaker c.add_fault_words.result
    (three c.args.notes.now.items c.extend_from_slice.new.self.items c.add_value.new.notes.items c.add_fault_words.new.notes.items (codes ": ") (shown (value_view c.args.value.now)) (fault_words (value_view c.args.value.now))
    c.in_ok-extend_from_slice.ensures.items c.in_ok-add_value.ensures)
    c.add_fault_words.ensures
