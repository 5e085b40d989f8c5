use Rattle.std.proofs.Common.{◌∙◌, ◌∷◌, ◌++◌, List, ℕ, ap, sym, arith, eq-eqb, take, get_or}
use Rattle.std.proofs.lemmas.Bool.{eqb-true}
use Rattle.tsb_lines.proofs.LineLemmas.{behind, cut-joined, feedless-all, feedless-front}
use Rattle.tsb_lines.proofs.lines.cut_at_feed.Goals as goal

pub returns-in-None : goal.returns-in-None
returns-in-None c = feedless-all c.args.bytes.now (λ k lt e. c.in-None.ensures k (omega arith) lt (eq-eqb (get_or c.args.bytes.now k 0) 10 e))

pub returns-in-Some : goal.returns-in-Some
returns-in-Some c = (
  feedless-front c.args.bytes.now c.in-Some.end (λ k lt e. c.in-Some.ensures.0.before k (omega arith) lt (eq-eqb (get_or c.args.bytes.now k 0) 10 e)),
  cut-joined c.args.bytes.now c.in-Some.end c.in-Some.ensures.0.high (eqb-true (get_or c.args.bytes.now c.in-Some.end 0) 10 c.in-Some.ensures.1)
      ∙ ap (λ (v : List ℕ). take c.in-Some.end c.args.bytes.now ++ 10 ∷ v) (sym (behind c.args.bytes.now c.in-Some.end c.in-Some.ensures.0.high)),
)
