use Rattle.std.proofs.Common.{◌∙◌, [], List, ℕ, rules, drop, subst}
use Rattle.tsb_dialog.specs.Said.{Said}
use Rattle.tsb_dialog.proofs.SaidLemmas.{said-nothing, said-gone, said-kept}
use Rattle.tsb_dialog.proofs.pending.Pending.write_out.Goals as goal

pub loop-self-init : goal.loop-self-init
loop-self-init g c = record {
  said = subst (λ (w : List ℕ). Said (g.W.Write.contents c.args.writer.now.device) (g.W.Write.contents c.args.writer.now.device) w (drop c.self.inside.gone c.self.inside.bytes.items) []) c.self.view_is
      (said-nothing (g.W.Write.contents c.args.writer.now.device) (drop c.self.inside.gone c.self.inside.bytes.items));
  within = c.self.invariant;
  well = λ w. w;
}

pub loop-self-preserved : goal.loop-self-preserved
loop-self-preserved g c = record {
  said = said-gone _ _ _ c.args.self.now c.loop-self.self-inside.bytes.items c.as_slice.result.now c.loop-self.self-inside.gone c.in-Ok.count c.as_slice.ensures.value c.loop-self.invariant.said c.in-Ok.ensures.bytes;
  within = search rules;
  well = λ w. c.in-Ok.ensures.well ∙ c.loop-self.invariant.well w;
}

pub returns-in-Err-clause-said : goal.returns-in-Err-clause-said
returns-in-Err-clause-said g c = said-kept _ _ _ _ _ _ c.loop-self.invariant.said c.in-Err.ensures.bytes
