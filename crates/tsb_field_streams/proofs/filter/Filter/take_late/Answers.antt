use Rattle.std.proofs.Common.{◌≡◌, ◌∙◌, List, ℕ, length, nat_le, false, sym, ap}
use Rattle.tsb_event_text.specs.declared.rows.EventRow.{EventRow}
use Rattle.tsb_field_streams.specs.Holding.{most_rows}
use Rattle.tsb_field_streams.specs.Filtering.{bound_of, most_held, with_held}
use Rattle.tsb_field_streams.proofs.FilterLemmas.{late-takes}
use Rattle.tsb_field_streams.proofs.filter.Filter.take_late.Goals as goal

pub returns-clause-takes : goal.returns-clause-takes
returns-clause-takes c =
    λ g s at.
    let held = c.args.self.now.held in
    let bound : c.bound_of.result ≡ bound_of s.latest c.args.seconds = c.bound_of.ensures ∙ ap (λ (l : ℕ). bound_of l c.args.seconds) at.latest in
    let room : nat_le (most_held g.window) (length s.held) ≡ false =
    ap (λ (n : ℕ). nat_le n (length s.held)) (sym at.most) ∙ ap (λ (rows : List EventRow). nat_le (most_rows held) (length rows)) (sym at.held) ∙ sym c.is_full.ensures
    ∙ c.if-is_full.false in
    late-takes g c.args.number s c.args.row c.args.seconds c.bound_of.result c.take_due.result c.take_due.new.self bound c.if-row-bound_of.false room
    (c.take_due.ensures.takes g (with_held s c.args.row) (c.hold.ensures.stands g s at))
