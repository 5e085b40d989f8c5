use Rattle.std.proofs.Common.{◌∙◌, true, ap, sym}
use Rattle.tsb_transact.specs.Cells.{desk_in}
use Rattle.tsb_transact.specs.Layer.{cells_of}
use Rattle.tsb_lines.specs.ShortLines.{Adds}
use Rattle.tsb_status_text.specs.declared.edit_lines.TheConstants.{LONGEST_EDITS}
use Rattle.tsb_status_text.specs.Bytes.{desk_bytes, list_bytes, owner_bytes, rule_bytes}
use Rattle.tsb_status_text.specs.EditsLine.{state_name}
use Rattle.tsb_lines.proofs.ShortLemmas.{all-of, said, then}
use Rattle.tsb_status_text.proofs.TextLemmas.{all-short, line-short, owner-short, text-bytes}
use Rattle.tsb_status_text.proofs.edits.edits_line.Goals as goal

pub returns : goal.returns
unfolding desk_in
returns c =
    let desk = desk_in (cells_of c.args.desk.now) in
    let sound = c.args.desk.now.row.sound in
    let added : Adds LONGEST_EDITS c.new-line.result (desk_bytes desk) c.push-6.new.self =
    then c.push.ensures.line
    (then (said (ap owner_bytes c.owner.ensures) c.push_owner.ensures)
    (then c.push-2.ensures.line
    (then (said (c.state_name.ensures ∙ ap state_name c.state.ensures) c.push-3.ensures.line)
    (then c.push-4.ensures.line
    (then (said (ap rule_bytes c.rule.ensures) c.push_rule.ensures)
    (then c.push-5.ensures.line
    (then (said (ap (list_bytes true) (c.as_slice.ensures.value ∙ c.edits.ensures)) c.push_edits.ensures)
    c.push-6.ensures.line))))))) in
    all-of c.new-line.ensures (line-short desk (owner-short _ c.args.desk.now.row.by.owner) (all-short desk.edits sound.taken) sound.room) added
    ∙ sym (text-bytes desk)
