-- Rules K6 and K7 are met exactly where none of the ways to break them is anywhere.
use Rattle.std.proofs.Common.{◌≡◌, ◌∙◌, ℕ, zero, suc, ◌+◌, ◌-◌, ◌<◌, ◌≤◌, ◌==◌, nat_le, nat_lt, Bool, true, false, not, ◌&&◌, ◌||◌, if◌then◌else◌, List, [], ◌∷◌, length, drop, slice_index, is_some, Some, refl, sym, ap, arith}
use Rattle.std.specs.List.{list_all}
use Rattle.std.proofs.Math.Bool.{and-true, not-not}
use Rattle.std.proofs.lemmas.Bool.Decides.{nat_tests}
use Rattle.tsb_plan.specs.declared.object.Object.{Object}
use Rattle.tsb_plan.specs.Plan.{Plan, is_enabled, ring_of, side_of, sequence}
use Rattle.tsb_rules.specs.SequenceRules.{first_sequence_is_ordered, is_blank, is_ordered, is_zeros, lists_once, other_sequences_are_ordered, rises, zeros_last}
use Rattle.tsb_types.specs.Lists.{among, first, run_from}
use Rattle.tsb_breaches.specs.declared.fault.RuleFault.TheVariants.{K6Unused, K6Ring, K6Missing, K6Again, K6Side, K6Gap, K7Unused, K7Ring, K7Missing, K7Again, K7Side, K7Gap}
use Rattle.tsb_breaches.specs.Laws.{of_values}
use Rattle.tsb_breaches.specs.Sequences.{falls, is_first, is_lower, is_missing, is_other, leaves_gap, lists_again, lists_other_ring, lists_unused}
use Rattle.tsb_breaches.proofs.AllLemmas.{all-same, all-under, and-both, both-are, not-below}
use Rattle.tsb_breaches.proofs.NoneLemmas.{none_at, none_up_to, none-listing, none-sequence_phase}
use Rattle.tsb_breaches.proofs.PhaseLaws.{implied, one-under, unless-zero}

-- ## A list, place by place

-- a test of each of a list with what is behind it
sweep : (ℕ → List ℕ → Bool) → List ℕ → Bool
sweep t [] = true
sweep t (p ∷ ps) = t p ps && sweep t ps

shift : (f : ℕ → Bool) (a n : ℕ) → list_all f (run_from (a + 1) n) ≡ list_all (λ k. f (k + 1)) (run_from a n)
unfolding run_from
shift f a zero = refl
shift f a (suc n) = ap (λ b. f (a + 1) && b) (shift f (a + 1) n)

pub same-run : (f g : ℕ → Bool) (a n : ℕ) → ((k : ℕ) → a ≤ k → k < a + n → f k ≡ g k) → list_all f (run_from a n) ≡ list_all g (run_from a n)
unfolding run_from
same-run f g a zero same = refl
same-run f g a (suc n) same = and-both (same a (omega arith) (omega arith)) (same-run f g (a + 1) n (λ k from below. same k (omega arith) (omega arith)))

-- the test at a place of a list
abbrev at_place : (ℕ → List ℕ → Bool) → List ℕ → ℕ → Bool
at_place t ps k = t (slice_index ps (k - 1)) (drop k ps)

sweep-at : (t : ℕ → List ℕ → Bool) (ps : List ℕ) → list_all (at_place t ps) (run_from 1 (length ps)) ≡ sweep t ps
unfolding run_from sweep
sweep-at t [] = refl
sweep-at t (p ∷ ps) =
    ap (λ b. t p ps && b)
    (shift (at_place t (p ∷ ps)) 1 (length ps)
    ∙ same-run (λ k. at_place t (p ∷ ps) (k + 1)) (at_place t ps) 1 (length ps)
    (λ k from below.
    let e : k + 1 - 1 ≡ suc (k - 1) = omega (arith, from) in
    let s : k + 1 ≡ suc k = omega arith in
    ap (λ i. t (slice_index (p ∷ ps) i) (drop (k + 1) (p ∷ ps))) e ∙ ap (λ i. t (slice_index (p ∷ ps) (suc (k - 1))) (drop i (p ∷ ps))) s)
    ∙ sweep-at t ps)

sweep-same : (t u : ℕ → List ℕ → Bool) → ((p : ℕ) (ps : List ℕ) → t p ps ≡ u p ps) → (ps : List ℕ) → sweep t ps ≡ sweep u ps
unfolding sweep
sweep-same t u same [] = refl
sweep-same t u same (p ∷ ps) = and-both (same p ps) (sweep-same t u same ps)

-- at the 16 places of a sequence
all-at : (t u : ℕ → List ℕ → Bool) (ps : List ℕ) → length ps ≡ 16 → ((p : ℕ) (qs : List ℕ) → t p qs ≡ u p qs) → list_all (at_place t ps) (run_from 1 16) ≡ sweep u ps
all-at t u ps full same = ap (λ n. list_all (at_place t ps) (run_from 1 n)) (sym full) ∙ sweep-at t ps ∙ sweep-same t u same ps

-- ## What a sequence has for a ring

only-swept : (f : ℕ → Bool) (ps : List ℕ) → sweep (λ p qs. f p) ps ≡ list_all f ps
unfolding sweep
only-swept f [] = refl
only-swept f (p ∷ ps) = ap (λ b. f p && b) (only-swept f ps)

once-swept : (ps : List ℕ) → sweep (λ p qs. p == 0 || not (among p qs)) ps ≡ lists_once ps
unfolding sweep
once-swept [] = refl
once-swept (p ∷ ps) = ap (λ b. (p == 0 || not (among p ps)) && b) (once-swept ps)

rises-swept : (plan : Plan) (ps : List ℕ) → sweep (λ p qs. list_all (λ q. q == 0 || nat_le (side_of plan p) (side_of plan q)) qs) ps ≡ rises plan ps
unfolding sweep
rises-swept plan [] = refl
rises-swept plan (p ∷ ps) = ap (λ b. list_all (λ q. q == 0 || nat_le (side_of plan p) (side_of plan q)) ps && b) (rises-swept plan ps)

none-first : (f : ℕ → Bool) (qs : List ℕ) → not (is_some (first f qs)) ≡ list_all (λ q. not (f q)) qs
none-first f [] = refl
none-first f (q ∷ qs) = go (f q) (none-first f qs)
  where
    go : (b : Bool) → not (is_some (first f qs)) ≡ list_all (λ x. not (f x)) qs → not (is_some (if b then Some q else first f qs)) ≡ (not b && list_all (λ x. not (f x)) qs)
    go true rest = refl
    go false rest = rest

spread : (a b c : Bool) → (a && ((not a || b) && c)) ≡ ((a && b) && ((not a || b) && c))
spread true true c = refl
spread true false c = refl
spread false b c = refl

-- zeros before zeros alone
head-zeros : (ps : List ℕ) → (slice_index ps 0 == 0 && zeros_last ps) ≡ (is_zeros ps && zeros_last ps)
head-zeros [] = refl
head-zeros (q ∷ qs) = spread (q == 0) (is_zeros qs) (zeros_last qs)

tight : (z h i l : Bool) → (h && l) ≡ (i && l) → (not (z && not h) && l) ≡ ((not z || i) && l)
tight true h i l same = ap (λ b. b && l) (not-not h) ∙ same
tight false h i l same = refl

zeros-swept : (ps : List ℕ) → sweep (λ p qs. not (p == 0 && not (slice_index qs 0 == 0))) ps ≡ zeros_last ps
unfolding sweep
zeros-swept [] = refl
zeros-swept (p ∷ ps) =
    ap (λ b. not (p == 0 && not (slice_index ps 0 == 0)) && b) (zeros-swept ps)
    ∙ tight (p == 0) (slice_index ps 0 == 0) (is_zeros ps) (zeros_last ps) (head-zeros ps)

head-drop : (ps : List ℕ) (k : ℕ) → slice_index (drop k ps) 0 ≡ slice_index ps k
head-drop [] zero = refl
head-drop [] (suc k) = refl
head-drop (p ∷ ps) zero = refl
head-drop (p ∷ ps) (suc k) = head-drop ps k

beyond : (ps : List ℕ) (k : ℕ) → length ps ≤ k → slice_index ps k ≡ 0
beyond [] zero over = refl
beyond [] (suc k) over = refl
beyond (p ∷ ps) zero over = absurd (omega (arith, over))
beyond (p ∷ ps) (suc k) over = beyond ps k (omega (arith, over))

next-is : (ps : List ℕ) (k : ℕ) → length ps ≡ 16 → (if nat_lt k 16 then slice_index ps (k + 1 - 1) else 0) ≡ slice_index (drop k ps) 0
next-is ps k full = go (nat_lt k 16) refl ∙ sym (head-drop ps k)
  where
    go : (b : Bool) → nat_lt k 16 ≡ b → (if b then slice_index ps (k + 1 - 1) else 0) ≡ slice_index ps k
    go true below = let e : k + 1 - 1 ≡ k = omega arith in ap (slice_index ps) e
    go false over = let past : length ps ≤ k = grind (arith, nat_tests, over, full) in sym (beyond ps k past)

full-sequence : (v : Object → ℕ → ℕ) (s r : ℕ) → length (sequence (of_values v) s r) ≡ 16
unfolding run_from
full-sequence v s r = refl

listed-only : (z e r : Bool) → (not (not z && not e) && not (not z && (e && not r))) ≡ (z || (e && r))
listed-only true e r = refl
listed-only false true r = not-not r
listed-only false false r = refl

-- what is wrong with what sequence s has for ring r, in order
abbrev as_asked : Plan → ℕ → ℕ → Bool
as_asked plan s r =
    none_up_to 16 (lists_unused plan s r) && (none_up_to 16 (lists_other_ring plan s r) && (none_up_to 16 (is_missing plan s r)
    && (none_up_to 16 (lists_again plan s r) && (none_up_to 16 (falls plan s r) && none_up_to 16 (leaves_gap plan s r)))))

regroup : (a b c o e : Bool) → (a && b) ≡ o → c ≡ e → (a && (b && c)) ≡ (o && e)
regroup true b c o e first second = and-both first second
regroup false b c o e first second = ap (λ x. x && e) first

ring-met : (v : Object → ℕ → ℕ) (s r : ℕ) → as_asked (of_values v) s r ≡ is_ordered (of_values v) r (sequence (of_values v) s r)
ring-met v s r =
    let plan : Plan = of_values v in
    let ps : List ℕ = sequence plan s r in
    let full : length ps ≡ 16 = full-sequence v s r in
    regroup _ _ _ _ _
    (both-are (λ k. not (lists_unused plan s r k)) (λ k. not (lists_other_ring plan s r k)) (at_place (λ p qs. p == 0 || (is_enabled plan p && ring_of plan p == r)) ps)
    (λ k. listed-only (slice_index ps (k - 1) == 0) (is_enabled plan (slice_index ps (k - 1))) (ring_of plan (slice_index ps (k - 1)) == r)) (run_from 1 16)
    ∙ all-at (λ p qs. p == 0 || (is_enabled plan p && ring_of plan p == r)) (λ p qs. p == 0 || (is_enabled plan p && ring_of plan p == r)) ps full (λ p qs. refl)
    ∙ only-swept (λ p. p == 0 || (is_enabled plan p && ring_of plan p == r)) ps)
    (and-both
    (all-same (λ p. not (is_missing plan s r p)) (λ p. not (is_enabled plan p) || (not (ring_of plan p == r) || among p ps))
    (λ p. one-under (is_enabled plan p) _ _ (implied (ring_of plan p == r) (among p ps))) (run_from 1 16))
    (and-both
    (all-at (λ p qs. not (not (p == 0) && among p qs)) (λ p qs. p == 0 || not (among p qs)) ps full (λ p qs. unless-zero (p == 0) (among p qs) (not (among p qs)) refl) ∙ once-swept ps)
    (and-both
    (all-at (λ p qs. not (is_some (first (is_lower plan (side_of plan p)) qs))) (λ p qs. list_all (λ q. q == 0 || nat_le (side_of plan p) (side_of plan q)) qs) ps full
    (λ p qs. none-first (is_lower plan (side_of plan p)) qs
    ∙ all-same (λ q. not (is_lower plan (side_of plan p) q)) (λ q. q == 0 || nat_le (side_of plan p) (side_of plan q)) (λ q. unless-zero (q == 0) _ _ (not-below (side_of plan q) (side_of plan p))) qs)
    ∙ rises-swept plan ps)
    (all-same (λ k. not (leaves_gap plan s r k)) (at_place (λ p qs. not (p == 0 && not (slice_index qs 0 == 0))) ps)
    (λ k. ap (λ n. not (slice_index ps (k - 1) == 0 && not (n == 0))) (next-is ps k full)) (run_from 1 16)
    ∙ all-at (λ p qs. not (p == 0 && not (slice_index qs 0 == 0))) (λ p qs. not (p == 0 && not (slice_index qs 0 == 0))) ps full (λ p qs. refl)
    ∙ zeros-swept ps))))

-- ## Of all sequences

-- a test of what each sequence of which it is asked has for each ring
abbrev grid : (ℕ → Bool) → (ℕ → ℕ → Bool) → Bool
grid asked f = list_all (λ s. list_all (λ r. not (asked s) || f s r) (run_from 1 2)) (run_from 1 4)

under-and : (o a b : Bool) → ((not o || a) && (not o || b)) ≡ (not o || (a && b))
under-and true a b = refl
under-and false a b = refl

combine : (asked : ℕ → Bool) (f g : ℕ → ℕ → Bool) → (grid asked f && grid asked g) ≡ grid asked (λ s r. f s r && g s r)
combine asked f g =
    both-are (λ s. list_all (λ r. not (asked s) || f s r) (run_from 1 2)) (λ s. list_all (λ r. not (asked s) || g s r) (run_from 1 2))
    (λ s. list_all (λ r. not (asked s) || (f s r && g s r)) (run_from 1 2))
    (λ s. both-are (λ r. not (asked s) || f s r) (λ r. not (asked s) || g s r) (λ r. not (asked s) || (f s r && g s r)) (λ r. under-and (asked s) (f s r) (g s r)) (run_from 1 2))
    (run_from 1 4)

not-asked : (a w : Bool) → not (a && w) ≡ (not a || not w)
not-asked true w = refl
not-asked false w = refl

-- one way to break the rule, at the places of each sequence of which it is asked
asked-none : (asked : ℕ → Bool) (w : ℕ → ℕ → ℕ → Bool) →
    list_all (λ s. list_all (λ r. none_up_to 16 (λ k. asked s && w s r k)) (run_from 1 2)) (run_from 1 4) ≡ grid asked (λ s r. none_up_to 16 (w s r))
asked-none asked w =
    all-same (λ s. list_all (λ r. none_up_to 16 (λ k. asked s && w s r k)) (run_from 1 2)) (λ s. list_all (λ r. not (asked s) || none_up_to 16 (w s r)) (run_from 1 2))
    (λ s. all-same (λ r. none_up_to 16 (λ k. asked s && w s r k)) (λ r. not (asked s) || none_up_to 16 (w s r))
    (λ r. all-same (λ k. not (asked s && w s r k)) (λ k. not (asked s) || not (w s r k)) (λ k. not-asked (asked s) (w s r k)) (run_from 1 16)
    ∙ all-under (asked s) (λ k. not (w s r k)) (run_from 1 16)) (run_from 1 2)) (run_from 1 4)

-- all six
six : (v : Object → ℕ → ℕ) (asked : ℕ → Bool) →
    (grid asked (λ s r. none_up_to 16 (lists_unused (of_values v) s r)) && (grid asked (λ s r. none_up_to 16 (lists_other_ring (of_values v) s r))
    && (grid asked (λ s r. none_up_to 16 (is_missing (of_values v) s r)) && (grid asked (λ s r. none_up_to 16 (lists_again (of_values v) s r))
    && (grid asked (λ s r. none_up_to 16 (falls (of_values v) s r)) && grid asked (λ s r. none_up_to 16 (leaves_gap (of_values v) s r)))))))
    ≡ grid asked (λ s r. is_ordered (of_values v) r (sequence (of_values v) s r))
six v asked =
    let plan : Plan = of_values v in
    let u : ℕ → ℕ → Bool = λ s r. none_up_to 16 (lists_unused plan s r) in
    let o : ℕ → ℕ → Bool = λ s r. none_up_to 16 (lists_other_ring plan s r) in
    let m : ℕ → ℕ → Bool = λ s r. none_up_to 16 (is_missing plan s r) in
    let a : ℕ → ℕ → Bool = λ s r. none_up_to 16 (lists_again plan s r) in
    let f : ℕ → ℕ → Bool = λ s r. none_up_to 16 (falls plan s r) in
    let g : ℕ → ℕ → Bool = λ s r. none_up_to 16 (leaves_gap plan s r) in
    ap (λ x. grid asked u && (grid asked o && (grid asked m && (grid asked a && x)))) (combine asked f g)
    ∙ ap (λ x. grid asked u && (grid asked o && (grid asked m && x))) (combine asked a (λ s r. f s r && g s r))
    ∙ ap (λ x. grid asked u && (grid asked o && x)) (combine asked m (λ s r. a s r && (f s r && g s r)))
    ∙ ap (λ x. grid asked u && x) (combine asked o (λ s r. m s r && (a s r && (f s r && g s r))))
    ∙ combine asked u (λ s r. o s r && (m s r && (a s r && (f s r && g s r))))
    ∙ all-same (λ s. list_all (λ r. not (asked s) || as_asked plan s r) (run_from 1 2)) (λ s. list_all (λ r. not (asked s) || is_ordered plan r (sequence plan s r)) (run_from 1 2))
    (λ s. all-same (λ r. not (asked s) || as_asked plan s r) (λ r. not (asked s) || is_ordered plan r (sequence plan s r)) (λ r. ap (λ b. not (asked s) || b) (ring-met v s r)) (run_from 1 2))
    (run_from 1 4)

first-only : (g : ℕ → ℕ → Bool) → grid is_first g ≡ (g 1 1 && g 1 2)
unfolding run_from
first-only g = and-true (g 1 1 && (g 1 2 && true)) ∙ ap (λ b. g 1 1 && b) (and-true (g 1 2))

two-rings : (b a c : Bool) → ((not (not b) || a) && ((not (not b) || c) && true)) ≡ (b || (a && c))
two-rings true a c = refl
two-rings false a c = ap (λ x. a && x) (and-true c)

others-only : (plan : Plan) (g : ℕ → ℕ → Bool) → grid (is_other plan) g ≡ list_all (λ s. is_blank plan s || (g s 1 && g s 2)) (2 ∷ 3 ∷ 4 ∷ [])
unfolding run_from
others-only plan g =
    and-both (two-rings (is_blank plan 2) (g 2 1) (g 2 2))
    (and-both (two-rings (is_blank plan 3) (g 3 1) (g 3 2)) (and-both (two-rings (is_blank plan 4) (g 4 1) (g 4 2)) refl))

pub met-6 : (v : Object → ℕ → ℕ) →
    (none_at (of_values v) K6Unused && (none_at (of_values v) K6Ring && (none_at (of_values v) K6Missing && (none_at (of_values v) K6Again && (none_at (of_values v) K6Side && none_at (of_values v) K6Gap)))))
    ≡ first_sequence_is_ordered (of_values v)
met-6 v =
    let plan : Plan = of_values v in
    and-both (none-listing plan K6Unused ∙ asked-none is_first (lists_unused plan))
    (and-both (none-listing plan K6Ring ∙ asked-none is_first (lists_other_ring plan))
    (and-both (none-sequence_phase plan K6Missing ∙ asked-none is_first (is_missing plan))
    (and-both (none-listing plan K6Again ∙ asked-none is_first (lists_again plan))
    (and-both (none-listing plan K6Side ∙ asked-none is_first (falls plan)) (none-listing plan K6Gap ∙ asked-none is_first (leaves_gap plan))))))
    ∙ six v is_first ∙ first-only (λ s r. is_ordered plan r (sequence plan s r))

pub met-7 : (v : Object → ℕ → ℕ) →
    (none_at (of_values v) K7Unused && (none_at (of_values v) K7Ring && (none_at (of_values v) K7Missing && (none_at (of_values v) K7Again && (none_at (of_values v) K7Side && none_at (of_values v) K7Gap)))))
    ≡ other_sequences_are_ordered (of_values v)
met-7 v =
    let plan : Plan = of_values v in
    and-both (none-listing plan K7Unused ∙ asked-none (is_other plan) (lists_unused plan))
    (and-both (none-listing plan K7Ring ∙ asked-none (is_other plan) (lists_other_ring plan))
    (and-both (none-sequence_phase plan K7Missing ∙ asked-none (is_other plan) (is_missing plan))
    (and-both (none-listing plan K7Again ∙ asked-none (is_other plan) (lists_again plan))
    (and-both (none-listing plan K7Side ∙ asked-none (is_other plan) (falls plan)) (none-listing plan K7Gap ∙ asked-none (is_other plan) (leaves_gap plan))))))
    ∙ six v (is_other plan) ∙ others-only plan (λ s r. is_ordered plan r (sequence plan s r))
