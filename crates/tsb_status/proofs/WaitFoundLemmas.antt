-- A wait that is found of what a state has is the wait of that state: step by step of the list.
use Rattle.std.proofs.Common.{◌≡◌, ℕ, ◌==◌, Bool, true, false, not, ◌&&◌, if◌then◌else◌, Option, Some, None, is_some, is_none, option_map, refl, ap}
use Rattle.tsb_step.specs.tsb_types.Intervals.{is_green}
use Rattle.tsb_step.specs.tsb_types.Lists.{is, or_else}
use Rattle.tsb_step.specs.tsb_plan.Plan.{Plan, is_concurrent, side_of}
use Rattle.tsb_step.specs.tsb_preempt.Service as preempts
use Rattle.tsb_step.specs.tsb_preempt.Service.{stage_phases}
use Rattle.tsb_step.specs.tsb_ring.Rings.{Ring, other, own_ring}
use Rattle.tsb_step.specs.declared.waits.Wait.{Wait}
use Rattle.tsb_step.specs.declared.waits.Wait.TheVariants as waits
use Rattle.tsb_step.specs.State.{State, interval}
use Rattle.tsb_step.specs.Tick.{omitted}
use Rattle.tsb_step.specs.Waits.{first_wait, until_over, red_revert_left, served, holder, held_left, held_wait, clearing_wait, is_cleared_next, is_over_next, is_reverted_next, not_over, not_reverted, not_concurrent, lacking, in_the_way, starts_beside, revert_wait, committed_wait, omit_wait, preempt_wait, crossing_wait, not_green, keeper, barrier_wait, green_wait, conflicting, free_wait, is_committed, wait}
use Rattle.tsb_status.specs.declared.found.Circumstances.{Circumstances}
use Rattle.tsb_status.specs.declared.found.Next.{Next}
use Rattle.tsb_status.specs.declared.found.RingFound.{RingFound}
use Rattle.tsb_status.specs.declared.found.Served.{Served}
use Rattle.tsb_status.specs.declared.found.Service.{Service}
use Rattle.tsb_status.specs.declared.found.Waiting.{Waiting}
use Rattle.tsb_status.specs.WaitBy.{number_by, next_by, not_over_by, not_green_by, lacking_by, in_the_way_of, in_the_way_by, beside_by, trailing_or, clears_or, reverts_or, across_or, beside_or, committed_by, unwanted_of, preempted_or, next_or, keeper_by, green_by, conflict_by, wait_or, conflict_or, side_by, free_by, wait_by}
use Rattle.tsb_status.specs.WaitFound.{IsWaiting, IsNext, IsServed, IsServedPhase, IsRing, IsInService, IsAround}

-- ## What is found of phases

number-same : (s : State) (o : Option ℕ) (x : Option Served) → IsServed s o x → number_by x ≡ o
number-same s None None h = refl
number-same s None (Some x) h = absurd h
number-same s (Some q) None h = absurd h
number-same s (Some q) (Some x) h = ap Some h.phase

next-same : (s : State) (o : Option ℕ) (x : Option Next) → IsNext s o x → next_by x ≡ o
next-same s None None h = refl
next-same s None (Some x) h = absurd h
next-same s (Some q) None h = absurd h
next-same s (Some q) (Some x) h = ap Some h.phase

-- one that a test leaves out
left-out : (s : State) (q : ℕ) (x : Served) (b c : Bool) → b ≡ c → IsServedPhase s q x → IsServed s (if c then None else Some q) (if b then None else Some x)
left-out s q x true true e h = tt
left-out s q x false false e h = h
left-out s q x true false e h = absurd cc
left-out s q x false true e h = absurd cc

not-over-found : (s : State) (o : Option ℕ) (x : Option Served) → IsServed s o x → IsServed s (not_over s o) (not_over_by x)
not-over-found s None None h = tt
not-over-found s None (Some x) h = absurd h
not-over-found s (Some q) None h = absurd h
not-over-found s (Some q) (Some x) h = left-out s q x x.is_over (is_over_next s q) h.over h

not-green-found : (s : State) (o : Option ℕ) (x : Option Served) → IsServed s o x → IsServed s (not_green s o) (not_green_by x)
not-green-found s None None h = tt
not-green-found s None (Some x) h = absurd h
not-green-found s (Some q) None h = absurd h
not-green-found s (Some q) (Some x) h = left-out s q x x.is_green (is_green (interval s q)) h.green h

apart-found : (s : State) (p : ℕ) (o : Option ℕ) (x : Option Served) → IsServed s o x → IsServed s (not_concurrent s.plan p o) (in_the_way_of s.plan p false x)
apart-found s p None None h = tt
apart-found s p None (Some x) h = absurd h
apart-found s p (Some q) None h = absurd h
apart-found s p (Some q) (Some x) h =
    left-out s q x (is_concurrent s.plan p x.phase) (is_concurrent s.plan p q) (ap (is_concurrent s.plan p) h.phase) h

in-crossing : (plan : Plan) (p : ℕ) (x : Option Served) → in_the_way_of plan p true x ≡ x
in-crossing plan p None = refl
in-crossing plan p (Some x) = refl

way-found : (s : State) (p : ℕ) (crosses : Bool) (o : Option ℕ) (x : Option Served) → crosses ≡ is_some s.rings.crossing → IsServed s o x →
    IsServed s (in_the_way s p o) (in_the_way_by s.plan p crosses x)
way-found s p crosses o x e h = rw e (go (is_some s.rings.crossing))
  where
    go : (b : Bool) → IsServed s (if b then not_over s o else not_concurrent s.plan p (not_over s o)) (in_the_way_of s.plan p b (not_over_by x))
    go true = rw (in-crossing s.plan p (not_over_by x)) (not-over-found s o x h)
    go false = apart-found s p (not_over s o) (not_over_by x) (not-over-found s o x h)

beside-found : (s : State) (crosses : Bool) (o : Option ℕ) (x : Option Next) → crosses ≡ is_some s.rings.crossing → IsNext s o x →
    IsNext s (starts_beside s o) (beside_by crosses x)
beside-found s crosses o x e h = rw e (go (is_some s.rings.crossing) o x h)
  where
    go : (b : Bool) (o : Option ℕ) (x : Option Next) → IsNext s o x → IsNext s (if b then not_reverted s o else None) (beside_by b x)
    go false None None k = tt
    go false (Some c) (Some y) k = tt
    go b None (Some y) k = absurd k
    go b (Some c) None k = absurd k
    go true None None k = tt
    go true (Some c) (Some y) k = in_case y.is_reverted (is_reverted_next s c) k.reverted
      where
        in_case : (d f : Bool) → d ≡ f → IsNext s (if f then None else Some c) (if not d then Some y else None)
        in_case true true e = tt
        in_case false false e = k
        in_case true false e = absurd cc
        in_case false true e = absurd cc

lacking-same : (s : State) (o : Option ℕ) (x : Option Served) → IsServed s o x → lacking_by x ≡ lacking s o
lacking-same s None None h = refl
lacking-same s None (Some x) h = absurd h
lacking-same s (Some q) None h = absurd h
lacking-same s (Some q) (Some x) h = rw (h.green, h.lack, h.phase) refl

green-same : (s : State) (o : Option ℕ) (x : Option Served) → IsServed s o x → green_by x ≡ green_wait s o
green-same s None None h = refl
green-same s None (Some x) h = absurd h
green-same s (Some q) None h = absurd h
green-same s (Some q) (Some x) h = rw (h.green, h.lack, h.phase) refl

-- the wait for a phase that clears, or for the overlap that holds it
clearing-same : (s : State) (wait : ℕ → ℕ → Wait) (q : ℕ) (x : Served) → IsServedPhase s q x →
    clearing_wait s wait q ≡ trailing_or x.phase x.trail (wait x.phase x.left)
clearing-same s wait q x h = rw (h.phase, h.left, h.trail) (go (is_cleared_next s q) (holder s q))
  where
    go : (b : Bool) (o : Option ℕ) →
        (if b then held_wait s wait q o else wait q (until_over s q))
        ≡ trailing_or q (if b then option_map (λ n. (n, held_left s n)) o else None) (wait q (until_over s q))
    go false o = refl
    go true None = refl
    go true (Some n) = refl

-- ## The steps of the list: each, or else what follows

module _ (s : State) (rest : Option Wait) (later : Wait) (same : rest ≡ Some later) where
  clears-found : (o : Option ℕ) (x : Option Served) → IsServed s o x →
      first_wait (option_map (clearing_wait s waits.Clears) o) rest ≡ Some (clears_or x later)
  clears-found None None h = same
  clears-found None (Some x) h = absurd h
  clears-found (Some q) None h = absurd h
  clears-found (Some q) (Some x) h = ap Some (clearing-same s waits.Clears q x h)

  across-found : (o : Option ℕ) (x : Option Served) → IsServed s o x →
      first_wait (option_map (clearing_wait s waits.Across) o) rest ≡ Some (across_or x later)
  across-found None None h = same
  across-found None (Some x) h = absurd h
  across-found (Some q) None h = absurd h
  across-found (Some q) (Some x) h = ap Some (clearing-same s waits.Across q x h)

  with-found : (o : Option ℕ) (x : Option Next) → IsNext s o x →
      first_wait (option_map (λ c. waits.Beside c (red_revert_left s c)) o) rest ≡ Some (beside_or x later)
  with-found None None h = same
  with-found None (Some x) h = absurd h
  with-found (Some q) None h = absurd h
  with-found (Some q) (Some x) h = rw (h.red_revert, h.phase) refl

  next-found : (o : Option ℕ) (x : Option Next) → IsNext s o x → first_wait (option_map waits.Next o) rest ≡ Some (next_or (next_by x) later)
  next-found None None h = same
  next-found None (Some x) h = absurd h
  next-found (Some q) None h = absurd h
  next-found (Some q) (Some x) h = rw h.phase refl

  reverts-found : (p : Waiting) → IsWaiting s p → first_wait (revert_wait s p.phase) rest ≡ Some (reverts_or p later)
  reverts-found p h = rw (h.reverted, h.red_revert) (go (is_reverted_next s p.phase))
    where
      go : (b : Bool) → first_wait (if b then None else Some (waits.RedRevert (red_revert_left s p.phase))) rest ≡
          Some (if b then later else waits.RedRevert (red_revert_left s p.phase))
      go true = same
      go false = refl

  preempt-found : (p : ℕ) (o : Option preempts.Service) (x : Option Service) → IsInService s p o x →
      first_wait (preempt_wait s.plan p o) rest ≡ Some (preempted_or (unwanted_of p x) later)
  preempt-found p None None h = same
  preempt-found p None (Some x) h = absurd h
  preempt-found p (Some y) None h = absurd h
  preempt-found p (Some y) (Some x) h = rw (h.phases, h.preempt) (go (stage_phases s.plan y.preempt y.stage p))
    where
      go : (b : Bool) → first_wait (if b then None else Some (waits.Preempted y.preempt)) rest ≡ Some (preempted_or (if b then None else Some y.preempt) later)
      go true = same
      go false = refl

  omit-found : (p : Waiting) (around : Circumstances) → IsWaiting s p → is_none around.service ≡ is_none s.preempts.service →
      first_wait (omit_wait s p.phase) rest ≡ Some (if p.is_omitted && is_none around.service then waits.Omitted else later)
  omit-found p around h e = rw (h.omitted, e) (go (omitted s p.phase && is_none s.preempts.service))
    where
      go : (b : Bool) → first_wait (if b then Some waits.Omitted else None) rest ≡ Some (if b then waits.Omitted else later)
      go true = refl
      go false = same

  crossing-found : (r : Ring) (crosses : Bool) (own across : RingFound) → crosses ≡ is_some s.rings.crossing → IsServed s (served s r) own.served →
      IsServed s (served s (other r)) across.served → first_wait (crossing_wait s r) rest ≡
      Some (if crosses then waits.Crossing (or_else (number_by (not_over_by own.served)) (number_by (not_over_by across.served))) else later)
  crossing-found r crosses own across e h k =
      rw (
        e,
        number-same s (not_over s (served s r)) (not_over_by own.served) (not-over-found s (served s r) own.served h),
        number-same s (not_over s (served s (other r))) (not_over_by across.served) (not-over-found s (served s (other r)) across.served k),
      )
      (go (is_some s.rings.crossing))
    where
      kept : Wait
      kept = waits.Crossing (or_else (not_over s (served s r)) (not_over s (served s (other r))))

      go : (b : Bool) → first_wait (if b then Some kept else None) rest ≡ Some (if b then kept else later)
      go true = refl
      go false = same

-- ## The whole list

none-same : (s : State) (p : ℕ) (o : Option preempts.Service) (x : Option Service) → IsInService s p o x → is_none x ≡ is_none o
none-same s p None None h = refl
none-same s p None (Some x) h = absurd h
none-same s p (Some y) None h = absurd h
none-same s p (Some y) (Some x) h = refl

conflict-same : (s : State) (p : ℕ) (r : Ring) (across : RingFound) → IsRing s (other r) across → conflict_by s.plan p across ≡ conflicting s p r
conflict-same s p r across h =
    rw (number-same s (served s (other r)) across.served h.served, next-same s (s.rings.commitment (other r)) across.next h.next) refl

keeper-same : (s : State) (r : Ring) (own across : RingFound) → IsRing s r own → IsRing s (other r) across → keeper_by own across ≡ keeper s r
keeper-same s r own across h k =
    rw (
      next-same s (s.rings.commitment (other r)) across.next k.next,
      lacking-same s (served s r) own.served h.served,
      lacking-same s (served s (other r)) across.served k.served,
    ) refl

side-found : (s : State) (p : ℕ) (r : Ring) (own across : RingFound) (around : Circumstances) → IsRing s r own → IsRing s (other r) across → IsAround s p around →
    first_wait (barrier_wait s p r) (first_wait (green_wait s (served s r)) (first_wait (option_map waits.Conflict (conflicting s p r)) (Some waits.Turn)))
    ≡ Some (side_by s.plan p own across around)
side-found s p r own across around h k a =
    rw (a.side, keeper-same s r own across h k, green-same s (served s r) own.served h.served, conflict-same s p r across k)
    (go (side_of s.plan p == s.rings.side) (green_wait s (served s r)) (conflicting s p r))
  where
    go : (b : Bool) (g : Option Wait) (c : Option ℕ) →
        first_wait (if b then None else Some (waits.Barrier (keeper s r))) (first_wait g (first_wait (option_map waits.Conflict c) (Some waits.Turn)))
        ≡ Some (if b then wait_or g (conflict_or c) else waits.Barrier (keeper s r))
    go false g c = refl
    go true (Some g) c = refl
    go true None None = refl
    go true None (Some c) = refl

committed-found : (s : State) (p : Waiting) (r : Ring) (own across : RingFound) (crosses : Bool) → IsWaiting s p → IsRing s r own → IsRing s (other r) across →
    crosses ≡ is_some s.rings.crossing → committed_wait s p.phase r ≡ Some (committed_by s.plan p own across crosses)
unfolding committed_wait
committed-found s p r own across crosses w h k e =
    clears-found s _ _
    (reverts-found s _ _
    (across-found s _ _
    (with-found s _ _ refl (starts_beside s (s.rings.commitment (other r))) (beside_by crosses across.next)
    (beside-found s crosses (s.rings.commitment (other r)) across.next e k.next))
    (in_the_way s p.phase (served s (other r))) (in_the_way_by s.plan p.phase crosses across.served)
    (way-found s p.phase crosses (served s (other r)) across.served e k.served))
    p w)
    (not_over s (served s r)) (not_over_by own.served) (not-over-found s (served s r) own.served h.served)

free-found : (s : State) (p : Waiting) (r : Ring) (own across : RingFound) (around : Circumstances) → IsWaiting s p → IsRing s r own → IsRing s (other r) across →
    IsAround s p.phase around → free_wait s p.phase r ≡ Some (free_by s.plan p own across around)
unfolding free_wait
free-found s p r own across around w h k a =
    omit-found s _ _
    (preempt-found s _ _
    (next-found s _ _
    (crossing-found s _ _
    (clears-found s _ _
    (reverts-found s _ _ (side-found s p.phase r own across around h k a) p w)
    (not_green s (served s r)) (not_green_by own.served) (not-green-found s (served s r) own.served h.served))
    r around.crosses own across a.crosses h.served k.served)
    (s.rings.commitment r) own.next h.next)
    p.phase s.preempts.service around.service a.service)
    p around w (none-same s p.phase s.preempts.service around.service a.service)

pub waits-are-found : (s : State) (p : Waiting) (own across : RingFound) (around : Circumstances) → IsWaiting s p → IsRing s (own_ring s.plan p.phase) own →
    IsRing s (other (own_ring s.plan p.phase)) across → IsAround s p.phase around → wait s p.phase ≡ Some (wait_by s.plan p own across around)
unfolding wait
waits-are-found s p own across around w h k a =
    rw (committed-found s p r own across around.crosses w h k a.crosses, free-found s p r own across around w h k a)
    (go around.tripped (is_some s.trip) (is_committed s p.phase) (is p.phase (next_by own.next)) a.tripped
    (ap (is p.phase) (next-same s (s.rings.commitment r) own.next h.next)))
  where
    r : Ring
    r = own_ring s.plan p.phase

    one : Wait
    one = committed_by s.plan p own across around.crosses

    two : Wait
    two = free_by s.plan p own across around

    go : (a b c d : Bool) → a ≡ b → d ≡ c →
        (if b then Some waits.Flash else (if c then Some one else Some two)) ≡ Some (if a then waits.Flash else (if d then one else two))
    go true true c d e f = refl
    go false false true true e f = refl
    go false false false false e f = refl
    go true false c d e f = absurd cc
    go false true c d e f = absurd cc
    go false false true false e f = absurd cc
    go false false false true e f = absurd cc
