use Rattle.std.proofs.Common.{◌≡◌, ◌∙◌, ◌+◌, ◌-◌, ℕ, ap, arith, rules, suc}
use Rattle.tsb_types.specs.Sets.{names}
use Rattle.tsb_log_text.specs.ListText.{run_end}
use Rattle.tsb_log_text.proofs.ListLemmas.{run-more}
use Rattle.tsb_log_text.proofs.list_line.end_of_run.Goals as goal

pub loop-end-preserved : goal.loop-end-preserved
loop-end-preserved c =
    let left : c.args.most - c.loop-end.end ≡ suc (c.args.most - (c.loop-end.end + 1)) = omega arith in
    record {
      from = omega arith;
      within = omega arith;
      same = c.loop-end.invariant.same ∙ ap (λ (k : ℕ). run_end c.loop-end.end k (names c.args.on)) left
          ∙ run-more c.loop-end.end (c.args.most - (c.loop-end.end + 1)) (names c.args.on) (search rules);
    }
