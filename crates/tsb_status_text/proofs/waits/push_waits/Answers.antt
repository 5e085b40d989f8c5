use Rattle.std.proofs.Common.{◌≡◌, ◌∙◌, ℕ, ◌+◌, ◌-◌, ◌≤◌, List, Option, Some, None, ap, arith, decimal, get_or, length, refl, subst, sym}
use Rattle.std.proofs.lemmas.List.{get_or_default}
use Rattle.std.proofs.lemmas.Option.{none-some, same_Some}
use Rattle.tsb_step.specs.declared.waits.Wait.{Wait}
use Rattle.tsb_status_text.specs.StatusText.{wait_in, wait_text, waits_text}
use Rattle.tsb_status_text.proofs.ListLemmas.{room-for-one, step-begin, step-over, step-on, step-end, waits-short}
use Rattle.tsb_status_text.proofs.waits.push_waits.Goals.{in-None, in-Some}
use Rattle.tsb_status_text.proofs.waits.push_waits.Goals as goal

-- what a phase waits for, in a list that begins with phase 1
abbrev wait_at : List (Option Wait) → ℕ → Option Wait
wait_at waits p = get_or waits (p - 1) None

-- the room of a wait
abbrev room : ℕ → ℕ
room p = 69 + length (decimal p)

pub loop-k-init : goal.loop-k-init
unfolding waits_text
loop-k-init c = record {
  told = step-begin (wait_in (wait_at c.args.waits.now)) 1 1 16 (16 - 0) 91 93 c.args.line.now c.push.new.self (omega arith) (omega arith) c.push.ensures.line.line;
  short = λ p v from below is. absurd (omega (arith, from, below));
}

pub loop-k-preserved : goal.loop-k-preserved
loop-k-preserved c =
    let waits = c.args.waits.now in
    let k = c.loop-k.k in
    let value = wait_in (wait_at waits) in
    let place : k + 1 - 1 ≡ k = omega arith in
    let found : wait_at waits (k + 1) ≡ get_or waits k c.index-waits-k.result =
    ap (λ (j : ℕ). get_or waits j None) place
    ∙ get_or_default waits k None c.index-waits-k.result (omega (arith, c.type_inv.waits, c.loop-k-test.true))
    in
    elim c.match-waits-k.branch [
      | in-None w ↦
          let none : value (k + 1) ≡ None = rw (found ∙ w.in-None.is) refl in
          rw (w.line-is, w.first-is) (record {
            told =
                step-over value c.loop-k.first (k + 1) (k + 1 + 1) (16 - k) (16 - (k + 1)) 93 c.loop-k.line _ (omega arith) (omega (arith, c.loop-k-test.true)) none
                c.loop-k.invariant.told;
            short = room-for-one value room k c.loop-k.invariant.short (λ v is. absurd (none-some v (sym none ∙ is)));
          })
      | in-Some w ↦
          let some : value (k + 1) ≡ Some (wait_text (k + 1) w.in-Some.wait) = rw (found ∙ w.in-Some.is) refl in
          rw (w.line-is, w.first-is) (record {
            told =
                step-on value c.loop-k.first (k + 1) (k + 1 + 1) (16 - k) (16 - (k + 1)) 93 (wait_text (k + 1) w.in-Some.wait) c.loop-k.line _ _ _
                (omega arith) (omega (arith, c.loop-k-test.true)) some w.separate.ensures w.push_wait.ensures c.loop-k.invariant.told;
            short = room-for-one value room k c.loop-k.invariant.short
                (λ v is. subst (λ (ts : List ℕ). length ts ≤ room (k + 1)) (same_Some (wait_text (k + 1) w.in-Some.wait) v (sym some ∙ is)) w.push_wait.ensures.short);
          })
    ]

pub returns : goal.returns
unfolding waits_text
returns c =
    let value = wait_in (wait_at c.args.waits.now) in
    record {
      line = record {
        line =
            step-end value c.loop-k.first (c.loop-k.k + 1) (16 - c.loop-k.k) 93 c.loop-k.line c.push-2.new.self _
            (omega (arith, c.loop-k-test.false)) c.push-2.ensures.line.line c.loop-k.invariant.told;
      };
      short = waits-short value (λ p v from below is. c.loop-k.invariant.short p v from (omega (arith, below, c.loop-k-test.false)) is);
    }
