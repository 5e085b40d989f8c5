use Rattle.std.proofs.Common.{ℕ, List, arith, refl, subst}
use Rattle.tsb_lines.specs.ShortLines.{AddsShort}
use Rattle.tsb_words.specs.Shown.{shown}
use Rattle.tsb_words.specs.declared.wrong.line.TheConstants.{LONGEST_WRONG}
use Rattle.tsb_lines.proofs.RoomLemmas.{at-most, then}
use Rattle.tsb_words.proofs.RoomLemmas.{part}
use Rattle.tsb_words.proofs.wrong.line.push_slip.Goals as goal

pub returns : goal.returns
returns c =
    let right : AddsShort LONGEST_WRONG 40 c.push.new.self (shown c.args.right.now) c.push_word-2.new.line =
    subst (λ (t : List ℕ). AddsShort LONGEST_WRONG 40 c.push.new.self (shown t) c.push_word-2.new.line) c.as_bytes.ensures.value c.push_word-2.ensures in
    at-most (omega arith) (then c.push_word.ensures (then c.push_quoted.ensures (then (part {most = 13} refl (omega arith) c.push.ensures.line) (then right (part {most = 1} refl (omega arith) c.push-2.ensures.line)))))
