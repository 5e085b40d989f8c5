-- Rings that give up what strays from a target: what is left was there before, and is of the target; and the rings are as
-- sound as they were.
use Rattle.std.proofs.Common.{◌≡◌, ℕ, Bool, true, false, not, ◌||◌, if◌then◌else◌, Option, Some, None, is_some, refl, sym, ap, ◌∙◌}
use Rattle.std.proofs.lemmas.Bool.{true≢false}
use Rattle.tsb_types.specs.declared.interval.Interval.{Interval}
use Rattle.tsb_types.proofs.OptionLemmas.{is-none}
use Rattle.tsb_objects.specs.tsb_plan.Plan.{Plan}
use Rattle.tsb_ring.specs.Rings.{Ring, Ring1, Ring2, State}
use Rattle.tsb_ring.specs.Wants.{is_targeted}
use Rattle.tsb_ring.specs.GivenUp.{strays, some_strays, kept_commitment, without_strays, given_up_in, given_up}
use Rattle.tsb_ring.specs.Laws.{IsSound}

-- ## What is left of a commitment

-- it was there before, passes the test, and no crossing is under way
record Left (test : ℕ → Bool) (crosses : Bool) (o : Option ℕ) (c : ℕ) : Type 0 where
  pub was : o ≡ Some c
  pub passes : test c ≡ true
  pub outside : crosses ≡ false

left : (test : ℕ → Bool) (crosses : Bool) (o : Option ℕ) (c : ℕ) → kept_commitment test crosses o ≡ Some c → Left test crosses o c
left test true o c h = absurd cc
left test false None c h = absurd cc
left test false (Some d) c h = go (test d) refl h
  where
    go : (b : Bool) → test d ≡ b → (if not b then None else Some d) ≡ Some c → Left test false (Some d) c
    go true e k = (let same : d ≡ c = cc in record { was = k; passes = sym (ap test same) ∙ e; outside = refl })
    go false e k = absurd cc

-- a commitment that passes strays not
strays_not : (test : ℕ → Bool) (o : Option ℕ) → ((c : ℕ) → o ≡ Some c → test c ≡ true) → strays test o ≡ false
strays_not test None h = refl
strays_not test (Some c) h = rw (h c refl) refl

none_strays : (test : ℕ → Bool) (s : State) → ((r : Ring) (c : ℕ) → s.commitment r ≡ Some c → test c ≡ true) → some_strays test s ≡ false
none_strays test s h = rw (strays_not test (s.commitment Ring1) (h Ring1), strays_not test (s.commitment Ring2) (h Ring2)) refl

-- and the other way about: where none strays, each commitment passes
passes_unless_strays : (test : ℕ → Bool) (o : Option ℕ) (c : ℕ) → strays test o ≡ false → o ≡ Some c → test c ≡ true
passes_unless_strays test None c h e = absurd cc
passes_unless_strays test (Some d) c h e = (let same : d ≡ c = cc in sym (ap test same) ∙ not-false (test d) h)
  where
    not-false : (b : Bool) → not b ≡ false → b ≡ true
    not-false true k = refl
    not-false false k = absurd (true≢false k)

all_pass : (test : ℕ → Bool) (s : State) (r : Ring) (c : ℕ) → some_strays test s ≡ false → s.commitment r ≡ Some c → test c ≡ true
all_pass test s r c h e = go r e
  where
    first : (a b : Bool) → (a || b) ≡ false → a ≡ false
    first true b k = absurd (true≢false k)
    first false b k = refl

    second : (a b : Bool) → (a || b) ≡ false → b ≡ false
    second true b k = absurd (true≢false k)
    second false b k = k

    go : (x : Ring) → s.commitment x ≡ Some c → test c ≡ true
    go Ring1 k = passes_unless_strays test (s.commitment Ring1) c (first (strays test (s.commitment Ring1)) (strays test (s.commitment Ring2)) h) k
    go Ring2 k = passes_unless_strays test (s.commitment Ring2) c (second (strays test (s.commitment Ring1)) (strays test (s.commitment Ring2)) h) k

-- ## Soundness

without_sound : (plan : Plan) (interval : ℕ → Interval) (test : ℕ → Bool) (s : State) → IsSound plan interval s → IsSound plan interval (without_strays test s)
without_sound plan interval test s sound = record {
  listed = sound.listed;
  ringed = sound.ringed;
  alone = sound.alone;
  owned = λ r p h. sound.owned r p (was r p h);
  served = sound.served;
  promised = λ p q h k. sound.promised p q (was Ring1 p h) (was Ring2 q k);
  outside = λ e r p q h. sound.outside (is-none s.crossing (left test (is_some s.crossing) (s.commitment r) p h).outside) r p q (was r p h);
}
  where
    was : (r : Ring) (p : ℕ) → kept_commitment test (is_some s.crossing) (s.commitment r) ≡ Some p → s.commitment r ≡ Some p
    was r p h = (left test (is_some s.crossing) (s.commitment r) p h).was

in_sound : (plan : Plan) (interval : ℕ → Interval) (test : ℕ → Bool) (s : State) → IsSound plan interval s → IsSound plan interval (given_up_in test s)
in_sound plan interval test s sound = go (some_strays test s)
  where
    go : (b : Bool) → IsSound plan interval (if b then without_strays test s else s)
    go true = without_sound plan interval test s sound
    go false = sound

pub given_up_is_sound : (plan : Plan) (interval : ℕ → Interval) (target : Option (ℕ → Bool)) (s : State) →
    IsSound plan interval s → IsSound plan interval (given_up plan target s)
unfolding given_up
given_up_is_sound plan interval None s sound = sound
given_up_is_sound plan interval (Some target) s sound = in_sound plan interval (is_targeted plan target) s sound

-- ## What is left

left_in : (test : ℕ → Bool) (s : State) (r : Ring) (c : ℕ) → (given_up_in test s).commitment r ≡ Some c → (test c ≡ true) × (s.commitment r ≡ Some c)
left_in test s r c h = go (some_strays test s) refl h
  where
    go : (b : Bool) → some_strays test s ≡ b → (if b then without_strays test s else s).commitment r ≡ Some c →
        (test c ≡ true) × (s.commitment r ≡ Some c)
    go true e k = (let x = left test (is_some s.crossing) (s.commitment r) c k in (x.passes, x.was))
    go false e k = (all_pass test s r c e k, k)

pub left_of_target : (plan : Plan) (target : ℕ → Bool) (s : State) (r : Ring) (c : ℕ) →
    (given_up plan (Some target) s).commitment r ≡ Some c → (is_targeted plan target c ≡ true) × (s.commitment r ≡ Some c)
unfolding given_up
left_of_target plan target s r c h = left_in (is_targeted plan target) s r c h

-- ## What stays

pub all_stays : (plan : Plan) (target : ℕ → Bool) (s : State) →
    ((r : Ring) (c : ℕ) → s.commitment r ≡ Some c → is_targeted plan target c ≡ true) → given_up plan (Some target) s ≡ s
unfolding given_up
all_stays plan target s h = rw (none_strays (is_targeted plan target) s h) refl

-- last phases and the side stay in any case
pub side_stays : (plan : Plan) (target : Option (ℕ → Bool)) (s : State) → (given_up plan target s).side ≡ s.side
unfolding given_up
side_stays plan None s = refl
side_stays plan (Some target) s = go (some_strays (is_targeted plan target) s)
  where
    go : (b : Bool) → (if b then without_strays (is_targeted plan target) s else s).side ≡ s.side
    go true = refl
    go false = refl

pub last_stays : (plan : Plan) (target : Option (ℕ → Bool)) (s : State) (r : Ring) → (given_up plan target s).last r ≡ s.last r
unfolding given_up
last_stays plan None s r = refl
last_stays plan (Some target) s r = go (some_strays (is_targeted plan target) s)
  where
    go : (b : Bool) → (if b then without_strays (is_targeted plan target) s else s).last r ≡ s.last r
    go true = refl
    go false = refl

-- a crossing that is under way then was so before, and with all that it committed the rings to
pub crossing_left : (plan : Plan) (target : Option (ℕ → Bool)) (s : State) (d : ℕ) → (given_up plan target s).crossing ≡ Some d → given_up plan target s ≡ s
unfolding given_up
crossing_left plan None s d h = refl
crossing_left plan (Some target) s d h = go (some_strays (is_targeted plan target) s) h
  where
    go : (b : Bool) → (if b then without_strays (is_targeted plan target) s else s).crossing ≡ Some d →
        (if b then without_strays (is_targeted plan target) s else s) ≡ s
    go true k = absurd cc
    go false k = refl

-- a commitment that is left was there before
pub was_before : (plan : Plan) (target : Option (ℕ → Bool)) (s : State) (r : Ring) (c : ℕ) →
    (given_up plan target s).commitment r ≡ Some c → s.commitment r ≡ Some c
unfolding given_up
was_before plan None s r c h = h
was_before plan (Some target) s r c h = (left_in (is_targeted plan target) s r c h).1

-- outside a crossing: where a commitment is left and no crossing is under way then, none was before either, or all stays
pub outside_left : (plan : Plan) (target : Option (ℕ → Bool)) (s : State) (r : Ring) (c : ℕ) →
    (given_up plan target s).crossing ≡ None → (given_up plan target s).commitment r ≡ Some c → s.crossing ≡ None
unfolding given_up
outside_left plan None s r c e h = e
outside_left plan (Some target) s r c e h = go (some_strays (is_targeted plan target) s) e h
  where
    go : (b : Bool) → (if b then without_strays (is_targeted plan target) s else s).crossing ≡ None →
        (if b then without_strays (is_targeted plan target) s else s).commitment r ≡ Some c → s.crossing ≡ None
    go true k x = is-none s.crossing (left (is_targeted plan target) (is_some s.crossing) (s.commitment r) c x).outside
    go false k x = k

-- and where there was none there is none
pub none_given : (plan : Plan) (target : Option (ℕ → Bool)) (s : State) (r : Ring) → s.commitment r ≡ None → (given_up plan target s).commitment r ≡ None
none_given plan target s r none = go ((given_up plan target s).commitment r) refl
  where
    go : (o : Option ℕ) → (given_up plan target s).commitment r ≡ o → (given_up plan target s).commitment r ≡ None
    go None e = e
    go (Some c) e = (let bad : None ≡ Some c = sym none ∙ was_before plan target s r c e in absurd cc)

-- nor does a crossing come of it
pub no_crossing_given : (plan : Plan) (target : Option (ℕ → Bool)) (s : State) → s.crossing ≡ None → (given_up plan target s).crossing ≡ None
unfolding given_up
no_crossing_given plan None s none = none
no_crossing_given plan (Some target) s none = go (some_strays (is_targeted plan target) s)
  where
    go : (b : Bool) → (if b then without_strays (is_targeted plan target) s else s).crossing ≡ None
    go true = refl
    go false = none
