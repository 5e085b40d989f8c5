use Rattle.std.proofs.Common.{◌∙◌, rules, arith}
use Rattle.std.proofs.lemmas.Grind.{common_steps}
use Rattle.tsb_lines.proofs.StreamLemmas.{gone-more}
use Rattle.tsb_lines.proofs.watched.Watched.write_text.Goals as goal

pub loop-gone-preserved : goal.loop-gone-preserved
loop-gone-preserved g c = record {
  going = gone-more (g.W.Write.contents c.args.self.now.device) (g.W.Write.contents c.loop-gone.self.device) (g.W.Write.contents c.write_once.new.self.device) c.args.text.now c.loop-gone.gone c.in-Ok.count
      c.loop-gone.invariant.going c.in-Ok.ensures.bytes;
  within = search rules;
  well = c.in-Ok.ensures.well ∙ c.loop-gone.invariant.well;
}

pub returns-clause-whole : goal.returns-clause-whole
returns-clause-whole g c = grind (arith, common_steps)
