use Rattle.std.proofs.Common.{◌∙◌, List, ℕ, arith, ap, sym, eq-eqb, get_or, take}
use Rattle.std.proofs.lemmas.Bool.{eqb-true}
use Rattle.tsb_lines.proofs.LineLemmas.{behind}
use Rattle.tsb_event_text.specs.Fields.{with_field, fields_of}
use Rattle.tsb_event_text.proofs.FieldLemmas.{plain-last, plain-first}
use Rattle.tsb_event_text.proofs.fields.plain_field.Goals as goal

pub returns-in-None-clause-first : goal.returns-in-None-clause-first
returns-in-None-clause-first c = plain-last c.args.mark c.args.line.now (λ k lt e. c.in-None.ensures k (omega arith) lt (eq-eqb (get_or c.args.line.now k 0) c.args.mark e))

pub returns-in-Some-clause-first : goal.returns-in-Some-clause-first
returns-in-Some-clause-first c =
    plain-first c.args.mark c.args.line.now c.in-Some.end c.in-Some.ensures.0.high
    (λ k lt e. c.in-Some.ensures.0.before k (omega arith) lt (eq-eqb (get_or c.args.line.now k 0) c.args.mark e))
    (eqb-true (get_or c.args.line.now c.in-Some.end 0) c.args.mark c.in-Some.ensures.1)
    ∙ ap (λ (v : List ℕ). with_field (take c.in-Some.end c.args.line.now) (fields_of c.args.mark v)) (sym (behind c.args.line.now c.in-Some.end c.in-Some.ensures.0.high))
