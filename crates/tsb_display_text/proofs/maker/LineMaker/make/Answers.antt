use Rattle.std.proofs.Common.{◌≡◌, ◌∙◌, ℕ, ◌-◌, ◌%◌, true, List, None, ap, arith, set, subst, sym}
use Rattle.tsb_lines.specs.Digits.{seven_digits}
use Rattle.tsb_heads.specs.Heads.{Heads}
use Rattle.tsb_heads.specs.Reading.{heads_of}
use Rattle.tsb_heads.specs.declared.display.Display.{Display}
use Rattle.tsb_display_text.specs.Line.{wide_line_of}
use Rattle.tsb_display_text.specs.Rounds.{IsOfRound}
use Rattle.tsb_display_text.proofs.LineLemmas.{placed, line-filled, of-own-round, of-round, round-renumbered, shown-line}
use Rattle.tsb_display_text.proofs.maker.LineMaker.make.Goals as goal
use Rattle.tsb_display_text.proofs.maker.LineMaker.make.Goals.{else-eq, then-eq+then-self-round, then-eq+else-self-round}

-- heads that compare as equal are the same
same_heads : (c : goal.After-self-2-1) → c.eq.result ≡ true → c.self.inside.heads ≡ c.args.heads.now
same_heads c is = grind (arith, c.eq.ensures, is)

-- what is kept before the digits are filled in
abbrev IsTurned : goal.After-self-2-1 → Type 0
IsTurned c = (IsOfRound c.if-eq.self-inside.line (c.args.now - c.args.now % 10) (heads_of c.args.heads.now))
    × (c.if-eq.self-inside.round ≡ c.args.now - c.args.now % 10) × (c.if-eq.self-inside.heads ≡ c.args.heads.now)

turned : (c : goal.After-self-2-1) → IsTurned c
turned c =
    let round : ℕ = c.args.now - c.args.now % 10 in
    let heads : Heads = heads_of c.args.heads.now in
    elim c.if-eq.branch [
      | else-eq w ↦ (
        subst (λ (line : List ℕ). IsOfRound line round heads) (sym (λ i. (w.self-inside-is i).line))
            (of-own-round w.bytes_of-self-inside.result c.args.now heads None None (w.bytes_of-self-inside.ensures.line heads w.of.ensures)),
        (λ i. (w.self-inside-is i).round),
        (λ i. (w.self-inside-is i).heads),
      )
      | then-eq+then-self-round w ↦
          let same : c.self.inside.heads ≡ c.args.heads.now = same_heads c w.if-eq.true in (
            subst (λ (line : List ℕ). IsOfRound line round heads) (sym ((λ i. (w.self-inside-is i).line) ∙ w.put.ensures ∙ ap (λ (digits : List ℕ). placed 0 7 digits c.self.inside.line) w.seven_digits.ensures))
                (subst (λ (display : Display). IsOfRound (placed 0 7 (seven_digits round) c.self.inside.line) round (heads_of display)) same
                (round-renumbered c.self.inside.line c.self.inside.round c.args.now (heads_of c.self.inside.heads) c.self.invariant)),
            (λ i. (w.self-inside-is i).round),
            (λ i. (w.self-inside-is i).heads) ∙ same,
          )
      | then-eq+else-self-round w ↦
          let same : c.self.inside.heads ≡ c.args.heads.now = same_heads c w.if-eq.true in (
            subst (λ (line : List ℕ). IsOfRound line round heads) (sym (λ i. (w.self-inside-is i).line))
                (subst (λ (begin : ℕ). IsOfRound c.self.inside.line begin heads) w.if-self-round.false
                (subst (λ (display : Display). IsOfRound c.self.inside.line c.self.inside.round (heads_of display)) same c.self.invariant)),
            (λ i. (w.self-inside-is i).round) ∙ w.if-self-round.false,
            (λ i. (w.self-inside-is i).heads) ∙ same,
          )
    ]

filled : (c : goal.After-self-2-1) → c.put-2.new.bytes ≡ wide_line_of c.args.now (heads_of c.args.heads.now) c.args.preempt c.args.local
filled c =
    c.put-2.ensures
    ∙ (λ i. placed 49 4 (c.local_digits.ensures i) (set (set c.if-eq.self-inside.line 6 (c.digit.ensures i)) 47 (c.preempt_digit.ensures.digit i)))
    ∙ line-filled c.if-eq.self-inside.line c.args.now (heads_of c.args.heads.now) c.args.preempt c.args.local (turned c).0

pub invariant_of-self : goal.invariant_of-self
invariant_of-self c =
    rw ((turned c).1, (turned c).2) (of-round c.put-2.new.bytes c.args.now (heads_of c.args.heads.now) c.args.preempt c.args.local (filled c))

pub returns : goal.returns
returns c = shown-line c.args.is_wide c.args.now (heads_of c.args.heads.now) c.args.preempt c.args.local c.put-2.new.bytes (filled c)
