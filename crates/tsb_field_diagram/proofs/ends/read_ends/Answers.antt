use Rattle.std.proofs.Common.{◌≡◌, ◌+◌, ◌≤◌, ◌∷◌, [], length, suc, arith}
use Rattle.std.proofs.lemmas.Result.{err_from_is_err_and}
use Rattle.tsb_lines.specs.Lines.{lines_of}
use Rattle.tsb_lines.proofs.LineLemmas.{first-line, length-lines}
use Rattle.tsb_field_diagram.proofs.EndsLemmas.{faulty, last-read, log-read}
use Rattle.tsb_field_diagram.proofs.ends.read_ends.Goals as goal

pub returns-in_err-step : goal.returns-in_err-step
returns-in_err-step c =
    let split = first-line c.next_line.result.1 (λ more. lines_of more.now) (lines_of c.loop-ends.rest.now) c.next_line.result.0.now c.next_line.ensures in
    let p = err_from_is_err_and c.from_residual.result c.from_residual.ensures.1 in
    rw (p.1, p.2) (faulty c.args.from c.args.text.now c.loop-ends.rest.now c.next_line.result.0.now split.0 c.loop-ends.ends.items c.step.new.ends.items
    c.loop-ends.number c.in_err-step.field-0.0 c.loop-ends.invariant.size c.loop-ends.invariant.read split.1 c.in_err-step.ensures)

pub returns-in_default : goal.returns-in_default
returns-in_default c =
    let only : lines_of c.loop-ends.rest.now ≡ c.next_line.result.0.now ∷ [] = rw c.in_default.is at c.next_line.ensures in
    log-read c.args.from c.args.text.now c.step.new.ends.items c.loop-ends.invariant.size
    (last-read c.args.from c.args.text.now c.loop-ends.rest.now c.next_line.result.0.now c.loop-ends.ends.items c.step.new.ends.items c.loop-ends.number
    c.loop-ends.invariant.read only c.in_ok-step.ensures)

pub overflow_add-number : goal.overflow_add-number
overflow_add-number c =
    let most = length-lines c.args.text.now in
    let count : c.loop-ends.number + length (lines_of c.loop-ends.rest.now) ≡ suc (length (lines_of c.args.text.now)) = c.loop-ends.invariant.count in
    let size : length c.args.text.now ≤ 67108864 = c.loop-ends.invariant.size in
    omega (arith, most, count, size)
