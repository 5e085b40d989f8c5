-- Events of splits, one after the other.
use Rattle.std.proofs.Common.{◌≡◌, ◌∙◌, ℕ, ◌+◌, ◌-◌, ◌<◌, ◌≤◌, zero, suc, List, ◌++◌, flat_map, sym, ap, arith, append_assoc}
use Rattle.std.proofs.lemmas.List.{append-nil}
use Rattle.tsb_types.specs.Lists.{run_from}
use Rattle.tsb_types.specs.declared.event.Event.{Event}

-- those of the next phase, and then those of the phases that follow
pub next-told : (f : ℕ → List Event) (k n : ℕ) (e new : List Event) → n ≡ 16 - (k + 1) → k < 16 → new ≡ e ++ f (k + 1) →
    new ++ flat_map f (run_from (k + 1 + 1) n) ≡ e ++ flat_map f (run_from (k + 1) (16 - k))
unfolding run_from
next-told f k n e new rest below added =
    let one_more : 16 - k ≡ suc n = omega (arith, rest, below) in
    ap (λ (es : List Event). es ++ flat_map f (run_from (k + 1 + 1) n)) added
    ∙ append_assoc e (f (k + 1)) (flat_map f (run_from (k + 1 + 1) n))
    ∙ ap (λ (m : ℕ). e ++ flat_map f (run_from (k + 1) m)) (sym one_more)

-- after the last phase no event is left
pub all-told : (f : ℕ → List Event) (k : ℕ) (e all : List Event) → 16 ≤ k → e ++ flat_map f (run_from (k + 1) (16 - k)) ≡ all → e ≡ all
unfolding run_from
all-told f k e all over is_told =
    let none : 16 - k ≡ zero = omega (arith, over) in
    sym (append-nil e) ∙ ap (λ (m : ℕ). e ++ flat_map f (run_from (k + 1) m)) (sym none) ∙ is_told
