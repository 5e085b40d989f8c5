use Rattle.std.proofs.Common.{◌++◌, ◌∙◌, ap, sym, subst, OnOk}
use Rattle.tsb_lines.specs.Lines.{kept}
use Rattle.tsb_field_display.specs.declared.stream.TheConstants.{KEPT}
use Rattle.tsb_field_display.specs.Stream.{Stand, StandsAt}
use Rattle.tsb_field_display.proofs.StreamLemmas.{rest-ended}
use Rattle.tsb_field_display.proofs.stream.DisplayStream.feed_line.Goals as goal

pub returns : goal.returns
returns c s stands =
    subst (λ (t : Stand). OnOk c.end_line.result (StandsAt t c.end_line.new.self)) (sym (rest-ended s c.args.rest.now c.requires))
    (c.end_line.ensures (record { is_wide = s.is_wide; shown = s.shown; held = kept KEPT (s.held ++ c.args.rest.now) })
    (record { shown = stands.shown; held = c.extend.ensures.kept ∙ ap (λ held. kept KEPT (held ++ c.args.rest.now)) stands.held; wide = stands.wide }))
