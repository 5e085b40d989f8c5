use Rattle.std.proofs.Common.{rules}
use Rattle.tsb_lines.proofs.StreamLemmas.{gone-more}
use Rattle.tsb_lines.proofs.writes.write_text.Goals as goal

pub loop-gone-preserved : goal.loop-gone-preserved
loop-gone-preserved g c = record {
  going = gone-more (g.W.Write.contents c.args.writer.now) (g.W.Write.contents c.loop-gone.writer) (g.W.Write.contents c.write.new.self) c.args.text.now c.loop-gone.gone c.in-Ok.count
      c.loop-gone.invariant.going c.in-Ok.ensures.bytes;
  within = search rules;
}

pub returns-in-Ok-eq0-clause-whole : goal.returns-in-Ok-eq0-clause-whole
returns-in-Ok-eq0-clause-whole g c = search rules fits 100
