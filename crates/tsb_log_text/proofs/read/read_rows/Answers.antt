use Rattle.std.proofs.Common.{◌≡◌, ◌+◌, ◌≤◌, ◌∷◌, [], ap, arith, length, suc}
use Rattle.std.proofs.lemmas.Result.{err_from_is_err_and}
use Rattle.tsb_lines.specs.Lines.{lines_of}
use Rattle.tsb_lines.proofs.LineLemmas.{first-line, length-lines}
use Rattle.tsb_log_text.proofs.ReadLemmas.{after-line, after-none, faulty, last-read}
use Rattle.tsb_log_text.proofs.read.read_rows.Goals as goal

pub loop-last-init : goal.loop-last-init
loop-last-init c = record { after = after-none c.form_of-form.result c.args.text.now c.args.rows.now.items c.form_of-form.ensures c.requires.none; count = omega arith }

pub loop-last-preserved : goal.loop-last-preserved
loop-last-preserved c =
    let next : lines_of c.loop-last.rest.now ≡ c.next_line.result.0.now ∷ lines_of c.in-Some.more.now = rw c.in-Some.is at c.next_line.ensures in
    let one : length (lines_of c.loop-last.rest.now) ≡ suc (length (lines_of c.in-Some.more.now)) = ap length next in
    let count : c.loop-last.number + length (lines_of c.loop-last.rest.now) ≡ suc (length (lines_of c.args.text.now)) = c.loop-last.invariant.count in
    record {
      after = after-line c.form_of-form.result c.args.text.now c.next_line.result.0.now (lines_of c.loop-last.rest.now) (lines_of c.in-Some.more.now) c.loop-last.rows.items c.step.new.rows.items c.loop-last.number c.loop-last.last c.in_ok-last.last
          c.loop-last.invariant.after next c.in_ok-last.ensures.reads;
      count = omega (arith, one, count);
    }

pub returns-in_err-last-clause-reads : goal.returns-in_err-last-clause-reads
returns-in_err-last-clause-reads c =
    let first = first-line c.next_line.result.1 (λ more. lines_of more.now) (lines_of c.loop-last.rest.now) c.next_line.result.0.now c.next_line.ensures in
    let p = err_from_is_err_and c.from_residual.result c.from_residual.ensures.1 in
    rw (p.1, p.2) (faulty c.form_of-form.result c.args.text.now c.next_line.result.0.now (lines_of c.loop-last.rest.now) first.0 c.loop-last.rows.items c.step.new.rows.items c.loop-last.number
    c.loop-last.last c.in_err-last.field-0.0 c.requires.size c.loop-last.invariant.after first.1 c.in_err-last.ensures.reads)

pub returns-in_err-last-clause-wanting : goal.returns-in_err-last-clause-wanting
returns-in_err-last-clause-wanting c memory =
    let p = err_from_is_err_and c.from_residual.result c.from_residual.ensures.1 in
    c.in_err-last.ensures.wanting (grind (arith, memory, p.1, p.2))

pub returns-in_default-clause-reads : goal.returns-in_default-clause-reads
returns-in_default-clause-reads c =
    let only : lines_of c.loop-last.rest.now ≡ c.next_line.result.0.now ∷ [] = rw c.in_default.is at c.next_line.ensures in
    last-read c.form_of-form.result c.args.text.now c.next_line.result.0.now (lines_of c.loop-last.rest.now) c.loop-last.rows.items c.step.new.rows.items c.loop-last.number c.loop-last.last
    c.in_ok-last.last c.requires.size c.loop-last.invariant.after only c.in_ok-last.ensures.reads

pub overflow_add-number : goal.overflow_add-number
overflow_add-number c =
    let most = length-lines c.args.text.now in
    let count : c.loop-last.number + length (lines_of c.loop-last.rest.now) ≡ suc (length (lines_of c.args.text.now)) = c.loop-last.invariant.count in
    let size : length c.args.text.now ≤ 67108864 = c.requires.size in
    omega (arith, most, count, size)
