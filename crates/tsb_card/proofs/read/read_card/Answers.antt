use Rattle.std.proofs.Common.{◌≡◌, ◌+◌, ◌≤◌, ◌∷◌, [], length, suc, arith}
use Rattle.tsb_lines.specs.Lines.{lines_of}
use Rattle.tsb_lines.proofs.LineLemmas.{length-lines}
use Rattle.tsb_card.proofs.ReadLemmas.{last-line}
use Rattle.tsb_card.proofs.read.read_card.Goals as goal

pub returns-in_default : goal.returns-in_default
returns-in_default c =
    let only : lines_of c.loop-card.rest.now ≡ c.next_line.result.0.now ∷ [] = rw c.in_default.is at c.next_line.ensures in
    last-line c.loop-card.card c.in_ok-card.card c.loop-card.count c.args.text.now c.loop-card.rest.now c.next_line.result.0.now c.loop-card.invariant.size only c.loop-card.invariant.read c.in_ok-card.ensures

pub overflow_add-count : goal.overflow_add-count
overflow_add-count c =
    let most = length-lines c.args.text.now in
    let count : c.loop-card.count + length (lines_of c.loop-card.rest.now) ≡ suc (length (lines_of c.args.text.now)) = c.loop-card.invariant.count in
    let size : length c.args.text.now ≤ 65536 = c.loop-card.invariant.size in
    omega (arith, most, count, size)
