use Rattle.std.proofs.Common.{◌≡◌, ◌∙◌, ◌∷◌, List, ℕ, ap, sym, arith, eq-eqb, take, drop, get_or, suc}
use Rattle.std.proofs.lemmas.Bool.{eqb-true}
use Rattle.tsb_lines.specs.Lines.{lines_of, without_return}
use Rattle.tsb_lines.proofs.LineLemmas.{lines-last, lines-first, behind}
use Rattle.tsb_lines.proofs.lines.next_line.Goals as goal

pub returns-in-None : goal.returns-in-None
returns-in-None c = lines-last c.args.text.now (λ k lt e. c.in-None.ensures k (omega arith) lt (eq-eqb (get_or c.args.text.now k 0) 10 e))

pub returns-in-Some : goal.returns-in-Some
returns-in-Some c =
    let first : lines_of c.args.text.now ≡ without_return (take c.in-Some.end c.args.text.now) ∷ lines_of (drop (suc c.in-Some.end) c.args.text.now) =
    lines-first c.args.text.now c.in-Some.end c.in-Some.ensures.0.high
    (λ k lt e. c.in-Some.ensures.0.before k (omega arith) lt (eq-eqb (get_or c.args.text.now k 0) 10 e))
    (eqb-true (get_or c.args.text.now c.in-Some.end 0) 10 c.in-Some.ensures.1) in
    first ∙ rw (sym c.without_return.ensures) (ap (λ (v : List ℕ). c.without_return.result.now ∷ lines_of v) (sym (behind c.args.text.now c.in-Some.end c.in-Some.ensures.0.high)))
