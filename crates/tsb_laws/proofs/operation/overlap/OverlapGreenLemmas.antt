-- A normal overlap leaves green only as the green of an included phase ends; so not between two phases that follow one
-- another over the barrier, as nothing is Green there. Proves `overlaps_last_across_rings`.
use Rattle.std.proofs.Common.{◌≡◌, ℕ, ◌==◌, Bool, true, false, ◌||◌, Some, None, refl, sym, ap, subst, ◌∙◌}
use Rattle.std.proofs.lemmas.Bool.{eqb-true, or_right, true≢false, false≢true}
use Rattle.tsb_step.specs.tsb_types.declared.interval.Interval.TheVariants.{Green}
use Rattle.tsb_step.specs.tsb_types.declared.lamp.Aspect.{Aspect}
use Rattle.tsb_step.specs.tsb_types.declared.lamp.Aspect.TheVariants as aspects
use Rattle.tsb_step.specs.tsb_types.declared.row.Row.{Row}
use Rattle.tsb_step.specs.tsb_types.Intervals.{is_green, is_yellow, is_red_clear, in_service}
use Rattle.tsb_step.specs.tsb_types.Sets.{names}
use Rattle.tsb_step.proofs.tsb_types.OptionLemmas.{is-none}
use Rattle.tsb_step.proofs.tsb_types.SetLemmas.{names-zero}
use Rattle.tsb_step.specs.tsb_plan.declared.object.Object.TheVariants.{OverlapIncludedPhases}
use Rattle.tsb_step.specs.tsb_plan.Parts.{is_minus_green_yellow, is_timed, trails}
use Rattle.tsb_step.specs.tsb_plan.Plan.{Plan}
use Rattle.tsb_step.specs.tsb_heads.Overlaps.{is_followed, is_kept_green, is_on_yellow, has_green_modifier, has_yellow_modifier, is_on_last_yellow}
use Rattle.tsb_step.specs.tsb_heads.Monitoring.{gives_way}
use Rattle.tsb_step.specs.tsb_ring.Rings.{Ring, Ring1, Ring2, other, in_ring}
use Rattle.tsb_step.specs.declared.inputs.Input.TheVariants.{Tick}
use Rattle.tsb_step.specs.State.{State, interval}
use Rattle.tsb_step.specs.Signs.{shown, display}
use Rattle.tsb_step.specs.Step.{step}
use Rattle.tsb_step.specs.Good.{IsGood}
use Rattle.tsb_step.specs.Backed.{IsGoodInAll, TrailsBy}
use Rattle.tsb_step.specs.tsb_overlap.declared.parts.OverlapInterval.{OverlapInterval}
use Rattle.tsb_step.specs.tsb_overlap.declared.parts.OverlapInterval.TheVariants as overlaps
use Rattle.tsb_step.proofs.TurnLemmas.{trails_no_arrow}
use Rattle.tsb_step.proofs.ClearLemmas.{plan_stays}
use Rattle.tsb_step.proofs.OverlapLemmas.{kept_in, on_in, IsOf, keeps, crossed, Turned, turned, and_both}
use Rattle.tsb_laws.specs.CrossingGreens.{IsCalm}
use Rattle.tsb_laws.specs.OverlapPhases.{EndsAGreen, GoesOver, StaysGreen}
use Rattle.tsb_laws.proofs.heads.LitLemmas.{dark_by_overlap}
use Rattle.tsb_laws.proofs.heads.TimedLemmas.{clears_serves}

-- ## What the head of a normal overlap shows

shows_green : (s : State) (o : ℕ) → s.trip ≡ None → is_timed s.plan o ≡ false → is_minus_green_yellow s.plan o ≡ false → (s.plan.value OverlapIncludedPhases o == 0) ≡ false →
    kept_in s o ≡ true → (display s).overlap o ≡ aspects.Green
unfolding display is_kept_green
shows_green s o dark untimed normal filled kept = rw (dark, untimed, filled, normal, kept) refl

green_is_kept : (s : State) (o : ℕ) → s.trip ≡ None → is_timed s.plan o ≡ false → is_minus_green_yellow s.plan o ≡ false → (display s).overlap o ≡ aspects.Green → kept_in s o ≡ true
unfolding display is_kept_green is_on_yellow has_green_modifier is_on_last_yellow has_yellow_modifier
green_is_kept s o dark untimed normal h = go (s.plan.value OverlapIncludedPhases o == 0) (kept_in s o) (on_in s o) refl refl refl
  where
    go : (empty k y : Bool) → (s.plan.value OverlapIncludedPhases o == 0) ≡ empty → kept_in s o ≡ k → on_in s o ≡ y → kept_in s o ≡ true
    go true k y b c d = let bad : aspects.Dark ≡ aspects.Green = rw (dark, untimed, b) at h in absurd cc
    go false true y b c d = c
    go false false true b c d = let bad : aspects.Yellow ≡ aspects.Green = rw (dark, untimed, b, normal, c, d) at h in absurd cc
    go false false false b c d = let bad : aspects.Red ≡ aspects.Green = rw (dark, untimed, b, normal, c, d) at h in absurd cc

yellow_is_not_kept : (s : State) (o : ℕ) → s.trip ≡ None → is_timed s.plan o ≡ false → is_minus_green_yellow s.plan o ≡ false → (display s).overlap o ≡ aspects.Yellow → kept_in s o ≡ false
unfolding display is_kept_green is_on_yellow has_green_modifier is_on_last_yellow has_yellow_modifier
yellow_is_not_kept s o dark untimed normal h = go (s.plan.value OverlapIncludedPhases o == 0) (kept_in s o) refl refl
  where
    go : (empty k : Bool) → (s.plan.value OverlapIncludedPhases o == 0) ≡ empty → kept_in s o ≡ k → kept_in s o ≡ false
    go true k b c = let bad : aspects.Dark ≡ aspects.Yellow = rw (dark, untimed, b) at h in absurd cc
    go false true b c = let bad : aspects.Green ≡ aspects.Yellow = rw (dark, untimed, b, normal, c) at h in absurd cc
    go false false b c = c

-- a head that gives way is of a controller that has not tripped
untripped : (s : State) (o : ℕ) (a : Aspect) → gives_way a ≡ true → (display s).overlap o ≡ a → s.trip ≡ None
untripped s o a way h = is-none s.trip (dark_by_overlap s o (ap gives_way h ∙ way))

-- ## It leaves green as a phase does

untimed_then : (s : State) (row : Row) (o : ℕ) → is_timed s.plan o ≡ false → is_timed (step s (Tick row)).plan o ≡ false
untimed_then s row o untimed = ap (λ (x : Plan). is_timed x o) (plan_stays s row) ∙ untimed

normal_then : (s : State) (row : Row) (o : ℕ) → is_minus_green_yellow s.plan o ≡ false → is_minus_green_yellow (step s (Tick row)).plan o ≡ false
normal_then s row o normal = ap (λ (x : Plan). is_minus_green_yellow x o) (plan_stays s row) ∙ normal

pub ends_with_a_green : (s : State) → IsGood s → (row : Row) (o : ℕ) → is_timed s.plan o ≡ false → is_minus_green_yellow s.plan o ≡ false →
    (display s).overlap o ≡ aspects.Green → (display (step s (Tick row))).overlap o ≡ aspects.Yellow → EndsAGreen s row o
ends_with_a_green s good row o untimed normal green yellow =
    let dark : s.trip ≡ None = untripped s o aspects.Green refl green in
    let dark_then : (step s (Tick row)).trip ≡ None = untripped (step s (Tick row)) o aspects.Yellow refl yellow in
    let t : Turned s row o = turned s row o good dark (green_is_kept s o dark untimed normal green)
    (yellow_is_not_kept (step s (Tick row)) o dark_then (untimed_then s row o untimed) (normal_then s row o normal) yellow) in
    record { phase = t.phase; included = t.of.included; was = t.was; now = t.now }

pub trail_begins_with_a_green : (s : State) → IsGoodInAll s → (row : Row) (o : ℕ) → s.trip ≡ None → trails s.plan o ≡ true → (s.overlaps o).interval ≡ overlaps.Green →
    kept_in (step s (Tick row)) o ≡ false → EndsAGreen s row o
trail_begins_with_a_green s all row o dark trail green none =
    let t : Turned s row o = turned s row o all.good dark kept none in
    record { phase = t.phase; included = t.of.included; was = t.was; now = t.now }
  where
    kept : kept_in s o ≡ true
    kept = subst (λ (i : OverlapInterval). TrailsBy s o i) green ((all.backed o).trail (trails_no_arrow s.plan all.good.plan o trail) trail)

-- ## It lasts across rings

included_fills : (list p : ℕ) → names list p ≡ true → (list == 0) ≡ false
included_fills list p named = go (list == 0) refl
  where
    go : (b : Bool) → (list == 0) ≡ b → (list == 0) ≡ false
    go false e = e
    go true e =
        let none : list ≡ 0 = eqb-true list 0 e in
        absurd (false≢true (sym (ap (λ (w : ℕ). names w p) none ∙ names-zero p) ∙ named))

kept_over : (s : State) (o : ℕ) → IsGood s → GoesOver s o → kept_in s o ≡ true
kept_over s o good it =
    let of : IsOf s.plan o it.from = record { listed = good.rings.listed it.from (clears_serves (interval s it.from) it.clears); included = it.included } in
    let follows : is_followed s.plan (shown s) o it.from ≡ true =
    crossed s o it.from it.ring it.beside it.to it.own it.commits it.crosses it.comes it.apart it.option in
    keeps s o it.from of
    (or_right (is_green (interval s it.from)) _
    (and_both (is_yellow (interval s it.from) || is_red_clear (interval s it.from)) (is_followed s.plan (shown s) o it.from) it.clears follows))

-- both rings are committed, so no phase is Green
nothing_green : (s : State) (o : ℕ) → IsGood s → IsCalm s.plan (interval s) s.rings → GoesOver s o → (q : ℕ) → interval s q ≡ Green → ⊥
nothing_green s o good calm it q h =
    let own = good.rings.ringed q (ap in_service h) in
    either it.ring own.0 it.commits it.crosses own.1
  where
    bound : (r : Ring) (c : ℕ) → s.rings.commitment r ≡ Some c → in_ring s.plan r q ≡ true → ⊥
    bound r c e own = true≢false (sym (ap is_green h) ∙ calm.bound r c q e own)

    either : (x r : Ring) → s.rings.commitment x ≡ Some it.beside → s.rings.commitment (other x) ≡ Some it.to → in_ring s.plan r q ≡ true → ⊥
    either Ring1 Ring1 e f own = bound Ring1 it.beside e own
    either Ring1 Ring2 e f own = bound Ring2 it.to f own
    either Ring2 Ring1 e f own = bound Ring1 it.to f own
    either Ring2 Ring2 e f own = bound Ring2 it.beside e own

pub lasts_across : (s : State) (o : ℕ) → IsGood s → IsCalm s.plan (interval s) s.rings → s.trip ≡ None → is_timed s.plan o ≡ false →
    is_minus_green_yellow s.plan o ≡ false → GoesOver s o → StaysGreen s o
lasts_across s o good calm dark untimed normal it = record {
  green = shows_green s o dark untimed normal filled (kept_over s o good it);
  later = λ row dark_then. shows_green (step s (Tick row)) o dark_then (untimed_then s row o untimed) (normal_then s row o normal)
      (ap (λ (x : Plan). x.value OverlapIncludedPhases o == 0) (plan_stays s row) ∙ filled) (still row (kept_in (step s (Tick row)) o) refl);
}
  where
    filled : (s.plan.value OverlapIncludedPhases o == 0) ≡ false
    filled = included_fills (s.plan.value OverlapIncludedPhases o) it.from it.included

    still : (row : Row) (b : Bool) → kept_in (step s (Tick row)) o ≡ b → kept_in (step s (Tick row)) o ≡ true
    still row true e = e
    still row false e =
        let t : Turned s row o = turned s row o good dark (kept_over s o good it) e in
        absurd (nothing_green s o good calm it t.phase t.was)
