use Rattle.std.proofs.Common.{◌≤◌, ◌∙◌, ℕ, List, length, sym, subst, arith}
use Rattle.tsb_event_text.specs.TimeForms.{time_form_word}
use Rattle.tsb_event_text.specs.declared.time_forms.TimeForm.{TimeForm}
use Rattle.tsb_event_text.specs.declared.time_forms.TimeForm.TheVariants.{YearFirst, MonthFirst, DayFirst, Seconds, Milliseconds}
use Rattle.tsb_field_streams.proofs.RoomLemmas.{part}
use Rattle.tsb_field_streams.proofs.fault_lines.push_form.Goals as goal

word-short : (form : TimeForm) → length (time_form_word form) ≤ 12
word-short YearFirst = omega arith
word-short MonthFirst = omega arith
word-short DayFirst = omega arith
word-short Seconds = omega arith
word-short Milliseconds = omega arith

pub returns : goal.returns
returns c =
    let word = c.as_bytes.ensures.value ∙ c.time_form_word.ensures in
    part word (subst (λ (t : List ℕ). length t ≤ 12) (sym word) (word-short c.args.form)) c.push.ensures.line
