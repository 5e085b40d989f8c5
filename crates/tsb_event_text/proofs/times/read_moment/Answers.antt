use Rattle.std.proofs.Common.{◌≡◌, ◌∙◌, Some, None, arith, rules, ap, sym, drop}
use Rattle.tsb_event_text.specs.Times.{part, day_of, second_of, nano_of}
use Rattle.tsb_lines.specs.Words.{number_of}
use Rattle.tsb_event_text.proofs.TimeLemmas.{parts, rest}
use Rattle.tsb_event_text.proofs.times.read_moment.Goals as goal

pub returns-in_err-nano : goal.returns-in_err-nano
returns-in_err-nano c =
    let whole = parts c.args.text.now (omega arith) (search (rules, c.has_marks.ensures)) in
    let d : day_of (number_of (part 0 4 c.args.text.now)) (number_of (part 5 2 c.args.text.now)) (number_of (part 8 2 c.args.text.now)) ≡ Some c.in_ok-day.day = sym c.day.ensures ∙ c.in_ok-day.was in
    let s : second_of (number_of (part 11 2 c.args.text.now)) (number_of (part 14 2 c.args.text.now)) (number_of (part 17 2 c.args.text.now)) ≡ Some c.in_ok-second.second = sym c.second.ensures ∙ c.in_ok-second.was in
    let n : nano_of (drop 19 c.args.text.now) ≡ None = ap nano_of (sym (rest c.args.text.now)) ∙ sym c.nano.ensures ∙ c.in_err-nano.was in
    rw c.from_residual-in_err-nano.ensures (sym (rw (d, s, n) at whole))

pub returns : goal.returns
returns c =
    let whole = parts c.args.text.now (omega arith) (search (rules, c.has_marks.ensures)) in
    let d : day_of (number_of (part 0 4 c.args.text.now)) (number_of (part 5 2 c.args.text.now)) (number_of (part 8 2 c.args.text.now)) ≡ Some c.in_ok-day.day = sym c.day.ensures ∙ c.in_ok-day.was in
    let s : second_of (number_of (part 11 2 c.args.text.now)) (number_of (part 14 2 c.args.text.now)) (number_of (part 17 2 c.args.text.now)) ≡ Some c.in_ok-second.second = sym c.second.ensures ∙ c.in_ok-second.was in
    let n : nano_of (drop 19 c.args.text.now) ≡ Some c.in_ok-nano.nano = ap nano_of (sym (rest c.args.text.now)) ∙ sym c.nano.ensures ∙ c.in_ok-nano.was in
    sym (rw (d, s, n) at whole)
