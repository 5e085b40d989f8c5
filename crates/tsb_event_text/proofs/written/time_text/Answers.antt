use Rattle.std.proofs.Common.{◌/◌, ◌%◌, arith, subst, sym, take}
use Rattle.tsb_event_text.specs.Events.{IsPlain}
use Rattle.tsb_event_text.proofs.EventLemmas.{nine-plain, plain-join, plain-take}
use Rattle.tsb_event_text.proofs.WrittenLemmas.{told}
use Rattle.tsb_event_text.proofs.written.time_text.Goals as goal

pub returns-clause-told : goal.returns-clause-told
returns-clause-told c =
    let n = c.args.moment.nanos in
    let e = c.count_of-count.ensures in
    told c.head_of-head.result c.nine_digits-digits.result (n / 86400000000000) (n % 86400000000000 / 1000000000) (n % 86400000000000 % 1000000000) c.count_of-count.result n
    c.head_of-head.ensures.read c.nine_digits-digits.ensures (omega arith) e.some e.most e.zeros (omega arith)

pub returns-clause-plain : goal.returns-clause-plain
returns-clause-plain c =
    plain-join c.head_of-head.result (take c.count_of-count.result c.nine_digits-digits.result) c.head_of-head.ensures.plain
    (plain-take c.count_of-count.result c.nine_digits-digits.result (subst IsPlain (sym c.nine_digits-digits.ensures) (nine-plain (c.args.moment.nanos % 86400000000000 % 1000000000))))
