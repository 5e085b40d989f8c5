use Rattle.std.proofs.Common.{◌≡◌, ◌∙◌, ℕ, ◌-◌, ◌++◌, List, ap, refl, arith}
use Rattle.tsb_field_display.specs.declared.shown.Shown.{Shown}
use Rattle.tsb_log_text.specs.declared.log.LogRow.{LogRow}
use Rattle.tsb_field_diagram.specs.Bands.{tick_of_change, tick_of_row}
use Rattle.tsb_field_diagram.specs.Bars.{from_tick}
use Rattle.tsb_field_diagram.specs.Lines.{first_tick, line_text, lines_text}
use Rattle.tsb_field_diagram.proofs.CountLemmas.{count-more, count-end}
use Rattle.tsb_field_diagram.proofs.LineLemmas.{lines-more, lines-none, from-from, next-first}
use Rattle.tsb_field_diagram.proofs.line.append_lines.Goals as goal

pub loop-line-init : goal.loop-line-init
loop-line-init c =
    let whole : c.line_count-count.result - 0 ≡ c.line_count-count.result = omega arith in
    record {
      changes = λ t le. refl;
      rows = λ t le. refl;
      text =
          ap (λ (n : ℕ). c.args.text.now.items ++ lines_text c.args.bands.now c.args.scale c.args.changes.now c.args.rows.now 0 n) whole;
    }

pub loop-line-preserved : goal.loop-line-preserved
loop-line-preserved c =
    let bands = c.args.bands.now in let scale = c.args.scale in
    let cs = c.args.changes.now in let rs = c.args.rows.now in let k = c.loop-line.line in
    let held = c.loop-line.invariant in
    let next = next-first c.args.scale.seconds c.loop-line.line in
    let changes : c.from_tick-changes.result.now ≡ from_tick tick_of_change (first_tick c.args.scale.seconds c.loop-line.line) c.loop-line.changes.now =
    c.from_tick-changes.ensures ∙ ap (λ (n : ℕ). from_tick tick_of_change n c.loop-line.changes.now) c.first_tick-first.ensures.same in
    let rows : c.from_tick-rows.result.now ≡ from_tick tick_of_row (first_tick c.args.scale.seconds c.loop-line.line) c.loop-line.rows.now =
    c.from_tick-rows.ensures ∙ ap (λ (n : ℕ). from_tick tick_of_row n c.loop-line.rows.now) c.first_tick-first.ensures.same in
    record {
      changes =
          λ t le. ap (λ (xs : List Shown). from_tick tick_of_change t xs) changes
          ∙ from-from tick_of_change (first_tick scale.seconds k) t c.loop-line.changes.now (omega (arith, le, next)) ∙ held.changes t (omega (arith, le, next));
      rows =
          λ t le. ap (λ (xs : List LogRow). from_tick tick_of_row t xs) rows
          ∙ from-from tick_of_row (first_tick scale.seconds k) t c.loop-line.rows.now (omega (arith, le, next)) ∙ held.rows t (omega (arith, le, next));
      text =
          count-more
          (λ (n : ℕ). line_text bands scale n (from_tick tick_of_change (first_tick scale.seconds n) cs) (from_tick tick_of_row (first_tick scale.seconds n) rs))
          (lines_text bands scale cs rs) (lines-more bands scale cs rs) k c.line_count-count.result c.loop-line-test.true
          c.loop-line.text.items _ _
          (c.in_ok-append_line.ensures
          ∙ ap (λ (xs : List Shown). c.loop-line.text.items ++ line_text bands scale k xs c.from_tick-rows.result.now) (changes ∙ held.changes (first_tick scale.seconds k) (omega arith))
          ∙ ap (λ (xs : List LogRow). c.loop-line.text.items ++ line_text bands scale k (from_tick tick_of_change (first_tick scale.seconds k) cs) xs) (rows ∙ held.rows (first_tick scale.seconds k) (omega arith)))
          held.text;
    }

pub returns : goal.returns
returns c =
    let bands = c.args.bands.now in let scale = c.args.scale in
    let cs = c.args.changes.now in let rs = c.args.rows.now in
    count-end (lines_text bands scale cs rs) (lines-none bands scale cs rs)
    c.loop-line.line c.line_count-count.result c.loop-line-test.false c.loop-line.text.items _ c.loop-line.invariant.text
    ∙ ap (λ (n : ℕ). c.args.text.now.items ++ lines_text bands scale cs rs 0 n) c.line_count-count.ensures
