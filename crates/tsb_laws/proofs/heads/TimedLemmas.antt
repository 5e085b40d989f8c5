-- An arrow, or an overlap that trails, is lit by a phase in service.
use Rattle.std.proofs.Common.{◌≡◌, ◌∙◌, ℕ, Bool, true, false, ◌&&◌, ◌||◌, refl, sym, ap, inl, inr, ◌⊎◌}
use Rattle.std.proofs.lemmas.Bool.{and_parts, or_cases, false≢true}
use Rattle.tsb_step.specs.tsb_types.declared.interval.Interval.{Interval}
use Rattle.tsb_step.specs.tsb_types.declared.interval.Interval.TheVariants as intervals
use Rattle.tsb_step.specs.tsb_types.Intervals.{is_green, is_yellow, is_red_clear, in_service}
use Rattle.tsb_step.specs.tsb_plan.Parts.{is_arrow, is_included, is_modifier, is_timed, trails}
use Rattle.tsb_step.specs.tsb_plan.Plan.{phases}
use Rattle.tsb_step.specs.tsb_rules.Consistent.{IsArrowSound}
use Rattle.tsb_step.specs.tsb_overlap.declared.parts.OverlapInterval.{OverlapInterval}
use Rattle.tsb_step.specs.tsb_overlap.declared.parts.OverlapInterval.TheVariants as overlaps
use Rattle.tsb_step.specs.tsb_overlap.Overlap.{light}
use Rattle.tsb_step.specs.State.{State, interval}
use Rattle.tsb_step.specs.Good.{IsGood}
use Rattle.tsb_step.specs.Backed.{AreBacked, IsTrailed, PointsBy, TrailsBy}
use Rattle.tsb_step.proofs.OverlapLemmas.{Keeper, keeper}
use Rattle.tsb_step.proofs.TurnLemmas.{arrow_turn}
use Rattle.tsb_step.proofs.tsb_types.FirstLemmas.{first-passes}
use Rattle.tsb_laws.specs.LitHeads.{is_lit}

-- a phase by which it is lit is in service
pub record Source (s : State) (o : ℕ) : Type 0 where
  pub phase : ℕ
  pub by : (is_included s.plan o phase ≡ true) ⊎ (is_modifier s.plan o phase ≡ true)
  pub serves : in_service (interval s phase) ≡ true

lit_serves : (i : Interval) → (is_green i || is_yellow i) ≡ true → in_service i ≡ true
lit_serves intervals.Red h = absurd (false≢true h)
lit_serves intervals.Green h = refl
lit_serves intervals.Yellow h = refl
lit_serves intervals.RedClear h = refl

pub clears_serves : (i : Interval) → (is_yellow i || is_red_clear i) ≡ true → in_service i ≡ true
clears_serves intervals.Red h = absurd (false≢true h)
clears_serves intervals.Green h = refl
clears_serves intervals.Yellow h = refl
clears_serves intervals.RedClear h = refl

pub keeps_serves : (i : Interval) (b : Bool) → (is_green i || ((is_yellow i || is_red_clear i) && b)) ≡ true → in_service i ≡ true
keeps_serves intervals.Red b h = absurd (false≢true h)
keeps_serves intervals.Green b h = refl
keeps_serves intervals.Yellow b h = refl
keeps_serves intervals.RedClear b h = refl

-- ## An arrow

by_one : (s : State) (o p : ℕ) → (is_included s.plan o p || (is_arrow s.plan o && is_modifier s.plan o p)) ≡ true →
    (is_included s.plan o p ≡ true) ⊎ (is_modifier s.plan o p ≡ true)
by_one s o p h = elim (or_cases (is_included s.plan o p) (is_arrow s.plan o && is_modifier s.plan o p) h) [
  | inl k ↦ inl k
  | inr k ↦ inr (and_parts (is_arrow s.plan o) (is_modifier s.plan o p) k).1
]

points : (s : State) (o : ℕ) → IsArrowSound s.plan o → (i : OverlapInterval) → PointsBy s o i → is_lit (light i) ≡ true → Source s o
points s o sound overlaps.Red by h = absurd (false≢true h)
points s o sound overlaps.Green by h = record {
  phase = sound.turn;
  by = inr (first-passes (is_modifier s.plan o) (phases s.plan) sound.turn sound.is_first);
  serves = ap in_service (by sound.turn sound.is_first);
}
points s o sound overlaps.TrailGreen by h = absurd by
points s o sound overlaps.Flashing by h = record { phase = by.phase; by = inl by.included; serves = ap in_service by.green }
points s o sound overlaps.Yellow by h = record { phase = by.phase; by = by_one s o by.phase by.by; serves = lit_serves (interval s by.phase) by.lit }
points s o sound overlaps.RedClear by h = absurd by

pub arrow_source : (s : State) → IsGood s → AreBacked s → (o : ℕ) → is_arrow s.plan o ≡ true → is_lit (light (s.overlaps o).interval) ≡ true → Source s o
arrow_source s good backed o arrow lit = points s o (arrow_turn s.plan good.plan o arrow) (s.overlaps o).interval ((backed o).arrow arrow) lit

-- ## One that trails

trailed : (s : State) (o : ℕ) → IsTrailed s o → Source s o
trailed s o x = record { phase = x.phase; by = inl x.included; serves = clears_serves (interval s x.phase) x.clears }

trailing : (s : State) (o : ℕ) (i : OverlapInterval) → TrailsBy s o i → is_lit (light i) ≡ true → Source s o
trailing s o overlaps.Red by h = absurd (false≢true h)
trailing s o overlaps.Green by h =
    let k : Keeper s o = keeper s o by in record { phase = k.phase; by = inl k.of.included; serves = keeps_serves (interval s k.phase) _ k.keeps }
trailing s o overlaps.TrailGreen by h = trailed s o by
trailing s o overlaps.Flashing by h = absurd by
trailing s o overlaps.Yellow by h = trailed s o by
trailing s o overlaps.RedClear by h = trailed s o by

-- ## Either

pub timed_source : (s : State) → IsGood s → AreBacked s → (o : ℕ) → is_timed s.plan o ≡ true → is_lit (light (s.overlaps o).interval) ≡ true → Source s o
timed_source s good backed o timed lit = go (is_arrow s.plan o) refl
  where
    go : (b : Bool) → is_arrow s.plan o ≡ b → Source s o
    go true arrow = arrow_source s good backed o arrow lit
    go false none =
        let trail : trails s.plan o ≡ true = sym (ap (λ (a : Bool). a || trails s.plan o) none) ∙ timed in
        trailing s o (s.overlaps o).interval ((backed o).trail none trail) lit
