use Rattle.std.proofs.Common.{◌∙◌, List, ℕ, arith, ap, sym, eq-eqb, get_or, take, Some}
use Rattle.std.proofs.lemmas.Bool.{eqb-true}
use Rattle.tsb_lines.proofs.LineLemmas.{behind}
use Rattle.tsb_words.proofs.WireLemmas.{parts-none, parts-some}
use Rattle.tsb_words.proofs.field_files.wires.parts.Goals as goal

pub returns-in_err-end : goal.returns-in_err-end
returns-in_err-end c =
    rw c.from_residual.ensures (sym (parts-none c.args.word.now (λ k lt e. c.in_err-end.ensures k (omega arith) lt (eq-eqb (get_or c.args.word.now k 0) 61 e))))

pub returns : goal.returns
returns c =
    ap (λ (v : List ℕ). Some (take c.in_ok-end.end c.args.word.now, v)) (behind c.args.word.now c.in_ok-end.end c.in_ok-end.ensures.0.high)
    ∙ sym (parts-some c.args.word.now c.in_ok-end.end c.in_ok-end.ensures.0.high
    (λ k lt e. c.in_ok-end.ensures.0.before k (omega arith) lt (eq-eqb (get_or c.args.word.now k 0) 61 e))
    (eqb-true (get_or c.args.word.now c.in_ok-end.end 0) 61 c.in_ok-end.ensures.1))
