use Rattle.std.proofs.Common.{◌∙◌, ◌≡◌, ◌<◌, sym, arith, get_or, length}
use Rattle.tsb_lines.proofs.WordLemmas.{word-split, begun}
use Rattle.tsb_lines.proofs.words.next_word.Goals as goal
use Rattle.tsb_lines.proofs.words.next_word.Goals.{then-loop-start-test+else-line-start-eq32, else-loop-start-test, then-loop-end-test+else-line-end-ne32, else-loop-end-test}

pub returns : goal.returns
returns c =
    let inside : c.loop-start.start < length c.args.line.now = omega (arith, c.loop-start.invariant.0, c.if-start-line.false) in
    let ends : c.loop-end.end < length c.args.line.now → get_or c.args.line.now c.loop-end.end 0 ≡ 32 =
    elim c.loop-end-test.branch [ then-loop-end-test+else-line-end-ne32 w ↦ λ lt. w.if-line-end-ne32.false | else-loop-end-test w ↦ λ lt. absurd (omega arith) ] in
    let begins : get_or c.args.line.now c.loop-start.start 0 ≡ 32 → ⊥ =
    elim c.loop-start-test.branch [ then-loop-start-test+else-line-start-eq32 w ↦ w.if-line-start-eq32.false | else-loop-start-test w ↦ absurd (omega (arith, inside)) ] in
    sym c.loop-start.invariant.1 ∙ word-split c.args.line.now c.loop-start.start c.loop-end.end
    (begun c.args.line.now c.loop-start.start c.loop-end.end c.loop-end.invariant.0 begins inside ends) c.loop-end.invariant.1 c.loop-end.invariant.2 ends
