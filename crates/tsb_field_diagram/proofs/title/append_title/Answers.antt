use Rattle.std.proofs.Common.{◌≡◌, ◌∙◌, ◌++◌, ◌+◌, sym, drop, get_or, arith}
use Rattle.tsb_field_diagram.specs.Text.{escaped, escaped_byte}
use Rattle.tsb_field_diagram.proofs.TitleLemmas.{at-few, at-other, turn-byte}
use Rattle.tsb_field_diagram.proofs.title.append_title.Goals as goal
use Rattle.tsb_field_diagram.proofs.title.append_title.Goals.{else-title-at-gt2-via-then-title-at-gt2+else-is_no_character, else-title-at-gt2-via-else-title-at-gt2}

pub loop-at-preserved : goal.loop-at-preserved
loop-at-preserved c =
    let title = c.args.title.now in
    let at = c.loop-at.at in
    let step : escaped (drop at title) ≡ escaped_byte (get_or title at 0) ++ escaped (drop (at + 1) title) =
    elim c.else-title-at-gt2.branch [
      | else-title-at-gt2-via-then-title-at-gt2+else-is_no_character w ↦
          at-other title at 0 w.if-title-at-gt2.true (sym w.is_no_character.ensures ∙ w.if-is_no_character.false)
      | else-title-at-gt2-via-else-title-at-gt2 w ↦ at-few title at 0 c.loop-at-test.true w.if-title-at-gt2.false
    ] in
    record {
      within = omega (arith, c.loop-at-test.true);
      same = turn-byte title at 0 step c.loop-at.text.items c.append_byte.new.text.items _ c.in_ok-append_byte.ensures c.loop-at.invariant.same;
    }
