use Rattle.std.proofs.Common.{◌≡◌, ◌≤◌, ◌∙◌, refl, sym, arith, rules}
use Rattle.tsb_field_streams.specs.Filtering.{with_count}
use Rattle.tsb_field_streams.proofs.FilterLemmas.{row-passes, row-takes}
use Rattle.tsb_field_streams.proofs.filter.Filter.take_in_order.Goals as goal

pub returns-in-Some-clause-takes : goal.returns-in-Some-clause-takes
returns-in-Some-clause-takes c =
    λ g s at.
    let last : c.args.self.now.last ≡ s.last = at.last in
    let in_order : c.args.self.now.last ≤ c.args.row.moment.nanos = search (rules, c.if-row-self.false) in
    let later : s.last ≤ c.args.row.moment.nanos = omega (arith, last, in_order) in
    row-takes g c.args.number s c.args.row c.in-Some.signal c.take_signal.result c.take_signal.new.self later (sym c.of_code.ensures ∙ c.in-Some.is)
    (c.take_signal.ensures.takes g (with_count s c.args.row.moment.nanos) (c.count.ensures.stands g s at later) refl)

pub returns-in-None-clause-takes : goal.returns-in-None-clause-takes
returns-in-None-clause-takes c =
    λ g s at.
    let last : c.args.self.now.last ≡ s.last = at.last in
    let in_order : c.args.self.now.last ≤ c.args.row.moment.nanos = search (rules, c.if-row-self.false) in
    let later : s.last ≤ c.args.row.moment.nanos = omega (arith, last, in_order) in
    row-passes g c.args.number s c.args.row _ _ later (sym c.of_code.ensures ∙ c.in-None.is) refl (c.count.ensures.stands g s at later)
