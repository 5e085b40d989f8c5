use Rattle.std.proofs.Common.{◌≡◌, ◌<◌, ◌∙◌, ◌-◌, ◌+◌, List, ℕ, arith, rules, ap, sym, subst, eq-eqb, get_or, take, drop, length}
use Rattle.std.proofs.lemmas.Bool.{eqb-true}
use Rattle.tsb_lines.proofs.LineLemmas.{behind}
use Rattle.tsb_event_text.specs.Fields.{with_field, fields_of}
use Rattle.tsb_event_text.proofs.FieldLemmas.{quoted-open, quoted-end, quoted-mark, quoted-other, tail}
use Rattle.tsb_event_text.proofs.fields.quoted_field.Goals as goal

pub returns-in_err-end-clause-first : goal.returns-in_err-end-clause-first
returns-in_err-end-clause-first c =
    rw c.from_residual.ensures (quoted-open c.args.mark c.args.line.now (λ k lt e. c.in_err-end.ensures k (omega arith) lt (eq-eqb (get_or c.args.line.now k 0) 34 e)))

pub returns-then-is_empty-clause-first : goal.returns-then-is_empty-clause-first
returns-then-is_empty-clause-first c =
    let b = behind c.args.line.now c.in_ok-end.end c.in_ok-end.ensures.0.high in
    let none : length (take (length c.args.line.now - (c.in_ok-end.end + 1)) (drop (c.in_ok-end.end + 1) c.args.line.now)) ≡ 0 = search (rules, c.is_empty.ensures, c.if-is_empty.true) in
    quoted-end c.args.mark c.args.line.now c.in_ok-end.end c.in_ok-end.ensures.0.high
    (λ k lt e. c.in_ok-end.ensures.0.before k (omega arith) lt (eq-eqb (get_or c.args.line.now k 0) 34 e))
    (eqb-true (get_or c.args.line.now c.in_ok-end.end 0) 34 c.in_ok-end.ensures.1) (ap length (sym b) ∙ none)

pub returns-then-behind-mark-clause-first : goal.returns-then-behind-mark-clause-first
returns-then-behind-mark-clause-first c =
    let b = behind c.args.line.now c.in_ok-end.end c.in_ok-end.ensures.0.high in
    let some : 0 < length (take (length c.args.line.now - (c.in_ok-end.end + 1)) (drop (c.in_ok-end.end + 1) c.args.line.now)) = search (rules, c.is_empty.ensures, c.if-is_empty.false) in
    quoted-other c.args.mark c.args.line.now c.in_ok-end.end c.in_ok-end.ensures.0.high
    (λ k lt e. c.in_ok-end.ensures.0.before k (omega arith) lt (eq-eqb (get_or c.args.line.now k 0) 34 e))
    (eqb-true (get_or c.args.line.now c.in_ok-end.end 0) 34 c.in_ok-end.ensures.1) (subst (λ (v : List ℕ). 0 < length v) b some)
    (λ e. c.if-behind-mark.true (ap (λ (v : List ℕ). get_or v 0 0) b ∙ e))

pub returns-clause-first : goal.returns-clause-first
returns-clause-first c =
    let b = behind c.args.line.now c.in_ok-end.end c.in_ok-end.ensures.0.high in
    let some : 0 < length (take (length c.args.line.now - (c.in_ok-end.end + 1)) (drop (c.in_ok-end.end + 1) c.args.line.now)) = search (rules, c.is_empty.ensures, c.if-is_empty.false) in
    quoted-mark c.args.mark c.args.line.now c.in_ok-end.end c.in_ok-end.ensures.0.high
    (λ k lt e. c.in_ok-end.ensures.0.before k (omega arith) lt (eq-eqb (get_or c.args.line.now k 0) 34 e))
    (eqb-true (get_or c.args.line.now c.in_ok-end.end 0) 34 c.in_ok-end.ensures.1) (subst (λ (v : List ℕ). 0 < length v) b some)
    (ap (λ (v : List ℕ). get_or v 0 0) (sym b) ∙ c.if-behind-mark.false)
    ∙ ap (λ (v : List ℕ). with_field (take c.in_ok-end.end c.args.line.now) (fields_of c.args.mark v))
    (ap (drop 1) (sym b) ∙ sym (tail (take (length c.args.line.now - (c.in_ok-end.end + 1)) (drop (c.in_ok-end.end + 1) c.args.line.now))))
