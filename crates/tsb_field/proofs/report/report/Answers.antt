use Rattle.std.proofs.Common.{◌∙◌, ◌++◌, List, ℕ, ap}
use Rattle.tsb_field_streams.specs.Devices.{devices_text}
use Rattle.tsb_field.specs.LogLines.{form_line, left_out_text, verdict_line, zones_line}
use Rattle.tsb_field.proofs.ReportLemmas.{seven-pieces}
use Rattle.tsb_field.proofs.report.report.Goals as goal

pub returns : goal.returns
returns c = (
  c.in_ok-counted.counted.items,
  c.in_ok-gaps.gaps.items,
  c.in_ok-counted.ensures,
  c.in_ok-gaps.ensures,
  seven-pieces c.new-text.result.items c.append_form.new.text.items c.extend_from_slice.new.self.items c.append_left_out.new.text.items c.extend_from_slice-2.new.self.items
      c.extend_from_slice-3.new.self.items c.append_devices.new.text.items c.extend_from_slice-4.new.self.items
      (form_line c.args.manner.times c.args.summary.times) (zones_line c.args.summary.zoned) (left_out_text c.args.summary.left_out c.args.summary.unwired) c.in_ok-counted.counted.items
      c.in_ok-gaps.gaps.items (devices_text c.args.summary.devices) (verdict_line c.args.manner c.args.summary)
      c.new-text.ensures.items c.in_ok-append_form.ensures
      (c.in_ok-extend_from_slice.ensures.items ∙ ap (λ (v : List ℕ). c.append_form.new.text.items ++ v) c.zones_line.ensures)
      c.in_ok-append_left_out.ensures
      (c.in_ok-extend_from_slice-2.ensures.items ∙ ap (λ (v : List ℕ). c.append_left_out.new.text.items ++ v) c.deref.ensures.value)
      (c.in_ok-extend_from_slice-3.ensures.items ∙ ap (λ (v : List ℕ). c.extend_from_slice-2.new.self.items ++ v) c.deref-2.ensures.value)
      c.in_ok-append_devices.ensures
      (c.in_ok-extend_from_slice-4.ensures.items ∙ ap (λ (v : List ℕ). c.append_devices.new.text.items ++ v) c.verdict_line.ensures),
)
