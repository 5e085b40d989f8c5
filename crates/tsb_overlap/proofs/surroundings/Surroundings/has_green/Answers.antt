use Rattle.std.proofs.Common.{◌≡◌, ◌∙◌, ◌&&◌, ℕ, Bool, true, false, ap, sym, refl, arith, inl, inr}
use Rattle.std.proofs.lemmas.Bool.{and_parts}
use Rattle.std.proofs.lemmas.Bool.Decides.{eqb_tells}
use Rattle.tsb_cells.specs.Timer.{timer_at, has_reached}
use Rattle.tsb_objects.specs.tsb_types.Flow.{interval_of}
use Rattle.tsb_objects.specs.tsb_types.Intervals.{is_green}
use Rattle.tsb_objects.specs.tsb_types.Sets.{has}
use Rattle.tsb_objects.proofs.tsb_types.RunLemmas.{any-at, any-never}
use Rattle.tsb_overlap.specs.Reading.{since_in}
use Rattle.tsb_overlap.proofs.SeenLemmas.{greens}
use Rattle.tsb_overlap.proofs.surroundings.Surroundings.has_green.Goals as goal

-- a phase that is not Green, or not of the set, has not been so for so long
none-of : (a g t : Bool) → (a && g) ≡ false → (a && (g && t)) ≡ false
none-of true true t h = absurd cc
none-of true false t h = refl
none-of false g t h = refl

not-reached : (a g t : Bool) → t ≡ false → (a && (g && t)) ≡ false
not-reached true true t h = h
not-reached true false t h = refl
not-reached false g t h = refl

pub loop-phase-init : goal.loop-phase-init
loop-phase-init c =
    let is : (p : ℕ) → has c.intersection-rest.result p ≡ (has c.args.phases p && is_green (interval_of c.args.self.now.intervals p)) = λ p.
    c.intersection-rest.ensures p ∙ ap (λ (b : Bool). has c.args.phases p && b) (sym (greens _ _ _)) in
    record {
      some = λ p on. sym (is p) ∙ on;
      none = λ p out.
          none-of (has c.args.phases p) (is_green (interval_of c.args.self.now.intervals p)) (has_reached (timer_at c.args.now (since_in c.args.self.now p)) c.args.time)
          (sym (is p) ∙ out);
    }

pub returns-then-has_reached : goal.returns-then-has_reached
returns-then-has_reached c =
    let p : ℕ = c.in-Some.phase in
    let parts = and_parts (has c.args.phases p) _ (c.loop-phase.invariant.some p c.in-Some.ensures.had) in
    let over : has_reached (timer_at c.args.now (since_in c.args.self.now p)) c.args.time ≡ true =
    sym (c.has_reached.ensures ∙ ap (λ timer. has_reached timer c.args.time) (c.at.ensures ∙ ap (timer_at c.args.now) c.since_of.ensures)) ∙ c.if-has_reached.true in
    sym (any-at (λ q. has c.args.phases q && (is_green (interval_of c.args.self.now.intervals q) && has_reached (timer_at c.args.now (since_in c.args.self.now q)) c.args.time))
    1 16 p c.in-Some.ensures.from (omega (arith, c.in-Some.ensures.within)) (rw (parts.0, parts.1) over))

pub loop-phase-preserved : goal.loop-phase-preserved
loop-phase-preserved c =
    let n : ℕ = c.in-Some.phase in
    let over : has_reached (timer_at c.args.now (since_in c.args.self.now n)) c.args.time ≡ false =
    sym (c.has_reached.ensures ∙ ap (λ timer. has_reached timer c.args.time) (c.at.ensures ∙ ap (timer_at c.args.now) c.since_of.ensures)) ∙ c.if-has_reached.false in
    record {
      some = λ p on.
          elim (eqb_tells p n) [
            | inl same ↦ rw same.1 (c.loop-phase.invariant.some n c.in-Some.ensures.had)
            | inr other ↦ c.loop-phase.invariant.some p (sym (c.in-Some.ensures.others p other.1) ∙ on)
          ];
      none = λ p out.
          elim (eqb_tells p n) [
            | inl same ↦ rw same.1 (not-reached (has c.args.phases n) (is_green (interval_of c.args.self.now.intervals n)) (has_reached (timer_at c.args.now (since_in c.args.self.now n)) c.args.time) over)
            | inr other ↦ c.loop-phase.invariant.none p (sym (c.in-Some.ensures.others p other.1) ∙ out)
          ];
    }

pub returns : goal.returns
returns c =
    sym (any-never (λ q. has c.args.phases q && (is_green (interval_of c.args.self.now.intervals q) && has_reached (timer_at c.args.now (since_in c.args.self.now q)) c.args.time))
    1 16 (λ p from below. c.loop-phase.invariant.none p (c.in_default.ensures.none refl p)))
