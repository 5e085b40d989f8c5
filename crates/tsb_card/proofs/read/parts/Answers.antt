use Rattle.std.proofs.Common.{◌∙◌, List, ℕ, arith, ap, sym, eq-eqb, get_or, take, Some}
use Rattle.std.proofs.lemmas.Bool.{eqb-true}
use Rattle.tsb_lines.proofs.LineLemmas.{behind}
use Rattle.tsb_card.proofs.ReadLemmas.{parts-none, parts-some}
use Rattle.tsb_card.proofs.read.parts.Goals as goal

pub returns-in_err-end : goal.returns-in_err-end
returns-in_err-end c =
    rw c.from_residual.ensures (sym (parts-none c.args.line.now (λ k lt e. c.in_err-end.ensures k (omega arith) lt (eq-eqb (get_or c.args.line.now k 0) 45 e))))

pub returns : goal.returns
returns c =
    ap (λ (v : List ℕ). Some (take c.in_ok-end.end c.args.line.now, v)) (behind c.args.line.now c.in_ok-end.end c.in_ok-end.ensures.0.high)
    ∙ sym (parts-some c.args.line.now c.in_ok-end.end c.in_ok-end.ensures.0.high
    (λ k lt e. c.in_ok-end.ensures.0.before k (omega arith) lt (eq-eqb (get_or c.args.line.now k 0) 45 e))
    (eqb-true (get_or c.args.line.now c.in_ok-end.end 0) 45 c.in_ok-end.ensures.1))
