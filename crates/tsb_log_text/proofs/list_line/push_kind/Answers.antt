use Rattle.std.proofs.Common.{◌≡◌, ◌∙◌, ◌+◌, ◌-◌, ◌++◌, ◌∷◌, ℕ, Bool, List, ap, arith, rules, sym}
use Rattle.tsb_lines.specs.ShortLines.{fitting}
use Rattle.tsb_types.specs.Sets.{names}
use Rattle.tsb_log_text.specs.ListText.{runs_from}
use Rattle.tsb_log_text.specs.declared.list_line.TheConstants.{LISTS_LINE}
use Rattle.tsb_log_text.proofs.RunsLemmas.{item-step, left_text, runs-step, skip-step}
use Rattle.tsb_log_text.proofs.list_line.push_kind.Goals.{then-is_on, else-is_on}
use Rattle.tsb_log_text.proofs.list_line.push_kind.Goals as goal

pub loop-number-preserved : goal.loop-number-preserved
loop-number-preserved c =
    let n : ℕ = c.loop-number.number in
    let most : ℕ = c.args.most in
    let on : ℕ → Bool = names c.args.on in
    elim c.if-is_on.branch [
      | then-is_on w ↦
          let end : ℕ = w.end_of_run-end.result in
          let runs : runs_from n (most + 1 - n) on ≡ (n, end) ∷ runs_from (end + 1) (most + 1 - (end + 1)) on =
          runs-step most n end on (omega arith) (search rules) w.end_of_run-end.ensures.end in
          rw (w.line-is, w.is_first-is, w.number-is) (record {
            from = omega arith;
            within = omega arith;
            left =
                item-step c.loop-number.is_first c.args.letter.now (n, end) (runs_from (end + 1) (most + 1 - (end + 1)) on) c.loop-number.line _ _ w.push_before.ensures w.push_item.ensures
                ∙ ap (λ (rs : List (ℕ × ℕ)). fitting LISTS_LINE (c.loop-number.line ++ left_text c.loop-number.is_first c.args.letter.now rs)) (sym runs)
                ∙ c.loop-number.invariant.left;
          })
      | else-is_on w ↦
          let runs : runs_from n (most + 1 - n) on ≡ runs_from (n + 1) (most + 1 - (n + 1)) on = skip-step most n on (omega arith) (search rules) in
          rw (w.line-is, w.is_first-is, w.number-is) (record {
            from = omega arith;
            within = omega arith;
            left =
                ap (λ (rs : List (ℕ × ℕ)). fitting LISTS_LINE (c.loop-number.line ++ left_text c.loop-number.is_first c.args.letter.now rs)) (sym runs)
                ∙ c.loop-number.invariant.left;
          })
    ]
