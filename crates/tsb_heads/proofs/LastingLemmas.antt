-- Where overlap o lasts through no clearance, it shows the same with fewer commitments.
use Rattle.std.proofs.Common.{◌≡◌, ℕ, zero, suc, ◌+◌, ◌<◌, ◌≤◌, Bool, true, false, not, ◌&&◌, ◌||◌, List, [], ◌∷◌, Option, Some, None, is_some, refl, sym, ap, ◌∙◌, inl, inr, arith}
use Rattle.std.specs.List.{list_any}
use Rattle.std.proofs.lemmas.Bool.{and_from, and_parts, cases_eq, or_cases, or_left, or_parts, or_right, true≢false, false≢true}
use Rattle.tsb_objects.specs.tsb_types.Intervals.{is_green, is_yellow, is_red_clear}
use Rattle.tsb_objects.specs.tsb_types.Lists.{run_from}
use Rattle.tsb_objects.specs.tsb_plan.Plan.{Plan, phases, ring_of}
use Rattle.tsb_objects.specs.tsb_plan.Parts.{is_included, overlaps_across_rings}
use Rattle.tsb_objects.specs.tsb_rules.PatternRules.{some_and}
use Rattle.tsb_heads.specs.Heads.{Shown}
use Rattle.tsb_heads.specs.Overlaps.{other_ring, comes_across, is_followed_in_ring, is_followed_across, is_followed, keeps_green, is_kept_green, is_lasted_through, lasts, IsOverlap, some_lasts, is_on_yellow, is_on_last_yellow, has_green_modifier, has_yellow_modifier, overlap_head}
use Rattle.tsb_heads.proofs.OverlapLemmas.{or-same}

-- where one test is passed by none, two that differ only there find the same
any-none : (test f g : ℕ → Bool) (ps : List ℕ) → list_any test ps ≡ false → ((p : ℕ) → test p ≡ false → f p ≡ g p) → list_any f ps ≡ list_any g ps
any-none test f g [] none same = refl
any-none test f g (p ∷ ps) none same =
    let parts = or_parts (test p) (list_any test ps) none in
    or-same _ _ _ _ (same p parts.0) (any-none test f g ps parts.1 same)

-- where none of a run passes, each does not
none-of : (a n : ℕ) (test : ℕ → Bool) → list_any test (run_from a n) ≡ false → (k : ℕ) → a ≤ k → k < a + n → test k ≡ false
unfolding run_from
none-of a zero test none k from below = absurd (omega (arith, from, below))
none-of a (suc n) test none k from below =
    let parts = or_parts (test a) (list_any test (run_from (a + 1) n)) none in
    elim (cases_eq a k) [
      | inl same ↦ ap test (sym same) ∙ parts.0
      | inr other ↦ none-of (a + 1) n test parts.1 k (omega (arith, from, other)) (omega (arith, below))
    ]

-- what is kept green, and what is on its last yellow
kept-by : (included clearing green now was : Bool) → (now ≡ true → was ≡ true) → (included && (clearing && was)) ≡ false →
    (included && (green || (clearing && now))) ≡ (included && (green || (clearing && was)))
kept-by false clearing green now was less none = refl
kept-by true false green now was less none = refl
kept-by true true green false false less none = refl
kept-by true true green true false less none = absurd (false≢true (less refl))
kept-by true true green now true less none = absurd (true≢false none)

last-by : (included yellow clear now was : Bool) → (now ≡ true → was ≡ true) → (included && ((yellow || clear) && was)) ≡ false →
    (included && (yellow && not now)) ≡ (included && (yellow && not was))
last-by false yellow clear now was less none = refl
last-by true false clear now was less none = refl
last-by true true clear false false less none = refl
last-by true true clear true false less none = absurd (false≢true (less refl))
last-by true true clear now true less none = absurd (true≢false none)

-- each commitment that there is was there before
module _ (plan : Plan) (s : Shown) (commitment : ℕ → Option ℕ) (left : (n c : ℕ) → commitment n ≡ Some c → s.commitment n ≡ Some c) where
  abbrev pub fewer : Shown
  fewer = record s { commitment = commitment }

  some-left : (test : ℕ → Bool) (n : ℕ) → some_and test (commitment n) ≡ true → some_and test (s.commitment n) ≡ true
  some-left test n h = go (commitment n) refl h
    where
      go : (o : Option ℕ) → commitment n ≡ o → some_and test o ≡ true → some_and test (s.commitment n) ≡ true
      go None e k = absurd (false≢true k)
      go (Some c) e k = rw (left n c e) k

  is-left : (n : ℕ) → is_some (commitment n) ≡ true → is_some (s.commitment n) ≡ true
  is-left n h = go (commitment n) refl h
    where
      go : (o : Option ℕ) → commitment n ≡ o → is_some o ≡ true → is_some (s.commitment n) ≡ true
      go None e k = absurd (false≢true k)
      go (Some c) e k = rw (left n c e) refl

  across-left : (o p : ℕ) → is_followed_across plan fewer o p ≡ true → is_followed_across plan s o p ≡ true
  across-left o p h =
      let both = and_parts (is_some (commitment (ring_of plan p))) (some_and (comes_across plan o p) (commitment (other_ring (ring_of plan p)))) h in
      and_from (is_some (s.commitment (ring_of plan p))) (some_and (comes_across plan o p) (s.commitment (other_ring (ring_of plan p))))
      (is-left (ring_of plan p) both.0) (some-left (comes_across plan o p) (other_ring (ring_of plan p)) both.1)

  followed-left : (o p : ℕ) → is_followed plan fewer o p ≡ true → is_followed plan s o p ≡ true
  followed-left o p h =
      elim (or_cases (is_followed_in_ring plan fewer o p) (overlaps_across_rings plan o && is_followed_across plan fewer o p) h) [
        | inl k ↦ or_left (is_followed_in_ring plan s o p) (overlaps_across_rings plan o && is_followed_across plan s o p)
            (some-left (is_included plan o) (ring_of plan p) k)
        | inr k ↦ (let both = and_parts (overlaps_across_rings plan o) (is_followed_across plan fewer o p) k in
            or_right (is_followed_in_ring plan s o p) (overlaps_across_rings plan o && is_followed_across plan s o p)
            (and_from (overlaps_across_rings plan o) (is_followed_across plan s o p) both.0 (across-left o p both.1)))
      ]

  module _ (o : ℕ) (none : lasts plan s o ≡ false) where
    none-lasted : list_any (λ p. is_included plan o p && is_lasted_through plan s o p) (phases plan) ≡ false
    unfolding lasts
    none-lasted = none

    pub kept-left : is_kept_green plan fewer o ≡ is_kept_green plan s o
    unfolding is_kept_green
    kept-left =
        any-none (λ p. is_included plan o p && is_lasted_through plan s o p) (λ p. is_included plan o p && keeps_green plan fewer o p)
        (λ p. is_included plan o p && keeps_green plan s o p) (phases plan) none-lasted (λ p h.
        kept-by (is_included plan o p) (is_yellow (s.interval p) || is_red_clear (s.interval p)) (is_green (s.interval p))
        (is_followed plan fewer o p) (is_followed plan s o p) (followed-left o p) h)

    last-left : is_on_last_yellow plan fewer o ≡ is_on_last_yellow plan s o
    unfolding is_on_last_yellow
    last-left =
        any-none (λ p. is_included plan o p && is_lasted_through plan s o p) (λ p. is_included plan o p && (is_yellow (s.interval p) && not (is_followed plan fewer o p)))
        (λ p. is_included plan o p && (is_yellow (s.interval p) && not (is_followed plan s o p))) (phases plan) none-lasted (λ p h.
        last-by (is_included plan o p) (is_yellow (s.interval p)) (is_red_clear (s.interval p))
        (is_followed plan fewer o p) (is_followed plan s o p) (followed-left o p) h)

    yellow-left : is_on_yellow plan fewer o ≡ is_on_yellow plan s o
    unfolding is_on_yellow
    yellow-left = refl

    green_modifier-left : has_green_modifier plan fewer o ≡ has_green_modifier plan s o
    unfolding has_green_modifier
    green_modifier-left = refl

    yellow_modifier-left : has_yellow_modifier plan fewer o ≡ has_yellow_modifier plan s o
    unfolding has_yellow_modifier
    yellow_modifier-left = refl

    pub head-left : overlap_head plan fewer o ≡ overlap_head plan s o
    head-left = rw (kept-left, yellow-left, green_modifier-left, yellow_modifier-left, last-left) refl

-- where none lasts, no overlap of the plan does
pub none-lasts : (plan : Plan) (s : Shown) (o : ℕ) → some_lasts plan s ≡ false → IsOverlap plan o → lasts plan s o ≡ false
unfolding some_lasts
none-lasts plan s o none at = none-of 1 plan.counts.overlaps (lasts plan s) none o at.0 (omega (arith, at.1))
