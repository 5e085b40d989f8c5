use Rattle.std.proofs.Common.{◌≡◌, ◌+◌, ◌-◌, ◌∙◌, sym, arith}
use Rattle.tsb_history.specs.Bytes.{changes_at}
use Rattle.tsb_history.specs.History.{quiet_ticks}
use Rattle.tsb_history.proofs.QuietLemmas.{quiet-none, quiet-one}
use Rattle.tsb_history.proofs.bytes.quiet_before.Goals as goal

pub loop-quiet-preserved : goal.loop-quiet-preserved
loop-quiet-preserved c =
    let was = c.loop-quiet.invariant in
    let one = quiet-one (c.args.count - c.loop-quiet.quiet) (c.args.count - (c.loop-quiet.quiet + 1)) c.args.bytes.now c.loop-quiet.at (omega (arith, c.loop-quiet-test.true, c.min-most.ensures)) was.laid (sym c.is_quiet-in-loop-quiet.ensures ∙ c.if-is_quiet.true) in
    let place = was.place in
    let near = one.within in
    let sum = was.sum in
    let more = one.more in
    record {
      few = omega (arith, c.loop-quiet-test.true);
      place = omega (arith, place, near);
      laid = one.laid;
      sum = omega (arith, sum, more);
    }

pub returns-else-is_quiet : goal.returns-else-is_quiet
returns-else-is_quiet c =
    let sum = c.loop-quiet.invariant.sum in
    let none : quiet_ticks (changes_at (c.args.count - c.loop-quiet.quiet) c.args.bytes.now c.loop-quiet.at) ≡ 0 =
    quiet-none (c.args.count - c.loop-quiet.quiet) c.args.bytes.now c.loop-quiet.at (λ e. omega (arith, e, c.loop-quiet-test.true, c.min-most.ensures)) (sym c.is_quiet-in-loop-quiet.ensures ∙ c.if-is_quiet.false) in
    omega (arith, sum, none, c.loop-quiet-test.true, c.min-most.ensures)
