use Rattle.std.proofs.Common.{◌≡◌, ◌-◌, ◌++◌}
use Rattle.tsb_field_diagram.specs.Lines.{marks_text}
use Rattle.tsb_field_diagram.proofs.axis.append_marks.Given as goal

-- the marks so far, and those that are left, are all
abbrev pub invariant-loop-index : goal.invariant-loop-index
invariant-loop-index l =
    l.text.items ++ marks_text l.bands l.clock l.seconds l.begin l.step l.index (l.until - l.index)
    ≡ l.initial.text.items ++ marks_text l.bands l.clock l.seconds l.begin l.step l.from (l.until - l.from)
