use Rattle.std.proofs.Common.{◌≡◌, ◌∙◌, ◌+◌, ◌-◌, List, ℕ, ap, arith, flat_map, subst, sym}
use Rattle.std.specs.Io.KnownBytes.{Appends}
use Rattle.tsb_types.specs.Lists.{run_from}
use Rattle.tsb_lines.specs.Seen.{seen}
use Rattle.tsb_lines.specs.Writes.{AppendsFront}
use Rattle.tsb_card.specs.Card.{permits}
use Rattle.tsb_card.specs.Lines.{card_line, row_text}
use Rattle.tsb_card.proofs.WriteLemmas.{cut, done, next, start}
use Rattle.tsb_card.proofs.lines.write_row.Goals as goal

pub loop-higher-init : goal.loop-higher-init
unfolding row_text
loop-higher-init g c =
    let left : 17 - (c.args.lower + 1) ≡ 16 - c.args.lower = omega arith in
    start (seen g.W.Write.contents c.args.output.now) _ _ (ap (λ (n : ℕ). flat_map (card_line (permits c.args.card.now) c.args.lower) (run_from (c.args.lower + 1) n)) (sym left))

pub loop-higher-preserved : goal.loop-higher-preserved
loop-higher-preserved g c =
    next (card_line (permits c.args.card.now) c.args.lower) (seen g.W.Write.contents c.args.output.now) (seen g.W.Write.contents c.loop-higher.output) (seen g.W.Write.contents c.write_text.new.self) _
    c.loop-higher.higher (omega arith) c.loop-higher.invariant
    (subst (λ (ts : List ℕ). Appends (seen g.W.Write.contents c.loop-higher.output).bytes (seen g.W.Write.contents c.write_text.new.self).bytes ts) (c.as_bytes.ensures.bytes ∙ c.card_line.ensures) c.in-Ok.ensures.whole)
    c.in-Ok.ensures.well

pub returns-in-Err : goal.returns-in-Err
returns-in-Err g c =
    cut (card_line (permits c.args.card.now) c.args.lower) (seen g.W.Write.contents c.args.output.now) (seen g.W.Write.contents c.loop-higher.output) (seen g.W.Write.contents c.write_text.new.self) _
    c.loop-higher.higher 17 c.in-Err.fault (omega arith) c.loop-higher.invariant
    (subst (λ (ts : List ℕ). AppendsFront (seen g.W.Write.contents c.loop-higher.output).bytes (seen g.W.Write.contents c.write_text.new.self).bytes ts) (c.as_bytes.ensures.bytes ∙ c.card_line.ensures) c.in-Err.ensures.front)
    c.in-Err.ensures.blame

pub returns : goal.returns
returns g c = done (card_line (permits c.args.card.now) c.args.lower) (seen g.W.Write.contents c.args.output.now) (seen g.W.Write.contents c.loop-higher.output) _ c.loop-higher.higher 17 (omega arith) c.loop-higher.invariant
