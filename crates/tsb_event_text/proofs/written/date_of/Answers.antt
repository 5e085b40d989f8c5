use Rattle.std.proofs.Common.{◌≡◌, ◌∙◌, ℤ, pos, ◌+ℤ◌, ◌≤ℤ◌, ap, arith, unsigned_abs, to_z, of_z, w16}
use Rattle.jiff_core.specs.Calendar.{days_from_civil}
use Rattle.jiff_core.proofs.SignedLemmas.{back_small, signed_arith}
use Rattle.tsb_event_text.proofs.WrittenLemmas.{as-pos, year-is, year-small}
use Rattle.tsb_event_text.proofs.written.date_of.Goals as goal

pub overflow_cast-result : goal.overflow_cast-result
overflow_cast-result c =
    let d = c.from_days_since_min-date.result in
    let from_zero : pos 0 ≤ℤ d.year = year-is d c.args.days c.requires.first c.from_days_since_min-date.ensures in
    let same : to_z w16 (of_z w16 d.year) ≡ d.year = back_small w16 d.year (omega (arith, year-small d.year d.year_in)) in
    rw same (omega (arith, signed_arith, from_zero), omega (arith, year-small d.year d.year_in))

pub returns-clause-number : goal.returns-clause-number
returns-clause-number c =
    let d = c.from_days_since_min-date.result in
    let from_zero : pos 0 ≤ℤ d.year = year-is d c.args.days c.requires.first c.from_days_since_min-date.ensures in
    let same : to_z w16 (of_z w16 d.year) ≡ d.year = back_small w16 d.year (omega (arith, year-small d.year d.year_in)) in
    let plain : pos (unsigned_abs d.year) ≡ d.year = as-pos d.year from_zero in
    rw same
    (ap (λ (y : ℤ). unsigned_abs (days_from_civil y d.month d.day +ℤ pos 4371587)) plain ∙ ap unsigned_abs c.from_days_since_min-date.ensures)
