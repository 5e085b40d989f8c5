use Rattle.std.proofs.Common.{◌∙◌, arith, sym, eq-eqb, get_or}
use Rattle.std.proofs.lemmas.Bool.{eqb-true}
use Rattle.tsb_lines.proofs.LineLemmas.{behind as tail_behind}
use Rattle.tsb_event_text.proofs.SplitLemmas.{before-all, behind-none, before-first, behind-first}
use Rattle.tsb_event_text.proofs.time_forms.split.Goals as goal

pub returns-in-None-clause-front : goal.returns-in-None-clause-front
returns-in-None-clause-front c =
    sym (before-all c.args.mark c.args.text.now (λ k lt e. c.in-None.ensures k (omega arith) lt (eq-eqb (get_or c.args.text.now k 0) c.args.mark e)))

pub returns-in-None-clause-rest : goal.returns-in-None-clause-rest
returns-in-None-clause-rest c =
    sym (behind-none c.args.mark c.args.text.now (λ k lt e. c.in-None.ensures k (omega arith) lt (eq-eqb (get_or c.args.text.now k 0) c.args.mark e)))

pub returns-in-Some-clause-front : goal.returns-in-Some-clause-front
returns-in-Some-clause-front c =
    sym (before-first c.args.mark c.args.text.now c.in-Some.end c.in-Some.ensures.0.high
    (λ k lt e. c.in-Some.ensures.0.before k (omega arith) lt (eq-eqb (get_or c.args.text.now k 0) c.args.mark e))
    (eqb-true (get_or c.args.text.now c.in-Some.end 0) c.args.mark c.in-Some.ensures.1))

pub returns-in-Some-clause-rest : goal.returns-in-Some-clause-rest
returns-in-Some-clause-rest c =
    tail_behind c.args.text.now c.in-Some.end c.in-Some.ensures.0.high
    ∙ sym (behind-first c.args.mark c.args.text.now c.in-Some.end c.in-Some.ensures.0.high
    (λ k lt e. c.in-Some.ensures.0.before k (omega arith) lt (eq-eqb (get_or c.args.text.now k 0) c.args.mark e))
    (eqb-true (get_or c.args.text.now c.in-Some.end 0) c.args.mark c.in-Some.ensures.1))
