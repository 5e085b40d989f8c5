use Rattle.std.proofs.Common.{◌≡◌, ◌≢◌, ℕ, ◌+◌, ◌-◌, ◌*◌, ◌≤◌, Bool, true, false, refl, sym, ap, ◌∙◌, subst, arith, inl, inr}
use Rattle.std.proofs.lemmas.Bool.Decides.{eqb_tells, leb_tells}
use Rattle.tsb_objects.specs.tsb_types.Sets.{has}
use Rattle.tsb_phase.specs.Rows.{counted, cars_in}
use Rattle.tsb_phase.proofs.CarLemmas.{cars-none, cars-taken}
use Rattle.tsb_phase.proofs.green.cars_in.Goals as goal

not_both : (b : Bool) → b ≡ false → b ≡ true → ⊥
not_both b p q = grind arith

pub loop-q-init : goal.loop-q-init
loop-q-init c = record { small = λ q had. omega arith; told = omega arith }

pub loop-q-preserved : goal.loop-q-preserved
loop-q-preserved c =
    let q : ℕ = c.in-Some.q in
    let cars : ℕ = counted c.args.counts.now q in
    let here : counted c.args.counts.now c.from.result ≡ cars = ap (counted c.args.counts.now) (c.from.ensures ∙ c.number.ensures.same) in
    let seen = c.in-Some.ensures in
    let told = c.loop-q.invariant.told in
    let range : cars ≤ 255 = c.requires.small q seen.from seen.within in
    let first : c.loop-q.cars ≤ 255 * (q - 1) = c.loop-q.invariant.small q seen.had in
    let from : 1 ≤ q = seen.from in
    let taken : cars_in (counted c.args.counts.now) (has c.loop-q.rest) ≡ cars + cars_in (counted c.args.counts.now) (has c.pop.new.self) =
    cars-taken (counted c.args.counts.now) (has c.loop-q.rest) (has c.pop.new.self) q from seen.within seen.had seen.taken seen.others in
    record {
      small = λ r in_rest.
          elim (eqb_tells r q) [
            | inl same ↦ absurd (not_both (has c.pop.new.self q) seen.taken (subst (λ (n : ℕ). has c.pop.new.self n ≡ true) same.1 in_rest))
            | inr other ↦
                (let apart : r ≢ q = other.1 in
                elim (leb_tells q r) [
                  | inl after ↦ (let least : q ≤ r = after.1 in omega (arith, first, range, from, here, least, apart))
                  | inr before ↦ (let below = before.1 in
                      absurd (not_both (has c.loop-q.rest r) (seen.least r (omega (arith, below))) (sym (seen.others r apart) ∙ in_rest)))
                ])
          ];
      told = omega (arith, told, taken, here);
    }

pub returns : goal.returns
returns c =
    let told = c.loop-q.invariant.told in
    let none = cars-none (counted c.args.counts.now) (has c.loop-q.rest) (c.in_default.ensures.none refl) in
    omega (arith, told, none)
