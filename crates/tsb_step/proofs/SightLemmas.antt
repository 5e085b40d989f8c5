-- States in which what keeps an overlap green, and whether an included phase is Yellow, is the same.
use Rattle.std.proofs.Common.{◌≡◌, ℕ, ◌==◌, Bool, true, false, not, ◌&&◌, ◌||◌, Option, is_some, refl, sym, ap, ◌∙◌}
use Rattle.std.proofs.Math.Path.{fun_ext}
use Rattle.tsb_types.specs.declared.interval.Interval.{Interval}
use Rattle.tsb_types.specs.Intervals.{is_green, is_yellow, is_red_clear}
use Rattle.tsb_types.specs.Sets.{names}
use Rattle.tsb_objects.specs.tsb_rules.PatternRules.{some_and}
use Rattle.tsb_objects.specs.tsb_plan.declared.object.Object.TheVariants.{PhaseRing, PhaseConcurrency, OverlapIncludedPhases, OverlapType, OverlapModifierPhases, OverlapAcrossRings, OverlapTrailGreen}
use Rattle.tsb_objects.specs.tsb_plan.Objects.{is_structural}
use Rattle.tsb_objects.specs.tsb_plan.Plan.{Plan, ring_of}
use Rattle.tsb_heads.specs.Overlaps.{other_ring}
use Rattle.tsb_heads.specs.Reading.{commitment_of}
use Rattle.tsb_ring.specs.Rings as rings
use Rattle.tsb_ring.specs.Rings.{Ring, Ring1, Ring2}
use Rattle.tsb_transact.specs.Commit.{changes_structure}
use Rattle.tsb_step.specs.State.{State, interval}
use Rattle.tsb_step.specs.Step.{committed}
use Rattle.tsb_step.proofs.EditLemmas.{kept, same_phase_count}
use Rattle.tsb_step.proofs.OverlapLemmas.{kept_in, on_in, IsOf, keeps, yellows, Keeper, keeper, Yellower, yellower}
use Rattle.tsb_step.proofs.StandLemmas.{keeps_committed}
use Rattle.tsb_step.proofs.TellLemmas.{is_in_yellow}

pub record SameSight (s t : State) (o : ℕ) : Type 0 where
  pub count : t.plan.phase_count ≡ s.plan.phase_count
  pub value : t.plan.value OverlapIncludedPhases o ≡ s.plan.value OverlapIncludedPhases o
  pub type : t.plan.value OverlapType o ≡ s.plan.value OverlapType o
  pub modifiers : t.plan.value OverlapModifierPhases o ≡ s.plan.value OverlapModifierPhases o
  pub trail : t.plan.value OverlapTrailGreen o ≡ s.plan.value OverlapTrailGreen o
  pub option : t.plan.value OverlapAcrossRings o ≡ s.plan.value OverlapAcrossRings o
  pub lists : t.plan.value PhaseConcurrency ≡ s.plan.value PhaseConcurrency
  pub ring : (p : ℕ) → ring_of t.plan p ≡ ring_of s.plan p
  pub interval : (p : ℕ) → (t.phases p).interval ≡ (s.phases p).interval
  pub commitment : (r : Ring) → t.rings.commitment r ≡ s.rings.commitment r

pub flip : (s t : State) (o : ℕ) → SameSight s t o → SameSight t s o
flip s t o same = record {
  count = sym same.count;
  value = sym same.value;
  type = sym same.type;
  modifiers = sym same.modifiers;
  trail = sym same.trail;
  option = sym same.option;
  lists = sym same.lists;
  ring = λ p. sym (same.ring p);
  interval = λ p. sym (same.interval p);
  commitment = λ r. sym (same.commitment r);
}

pub of_too : (s t : State) (o p : ℕ) → SameSight s t o → IsOf s.plan o p → IsOf t.plan o p
of_too s t o p same of = record { listed = rw same.count of.listed; included = rw same.value of.included }

-- whether a phase p in this interval, of this ring, keeps an overlap of this list green: with this value of
-- `overlapAcrossRings`, with these lists of concurrent phases and with the two commitments
keeps_by : Interval → ℕ → ℕ → (ℕ → ℕ) → ℕ → Option ℕ → Option ℕ → ℕ → Bool
keeps_by i list option lists ring one two p =
    is_green i || ((is_yellow i || is_red_clear i) && (some_and (λ q. names list q) (commitment_of one two ring)
    || (option == 1 && (is_some (commitment_of one two ring)
    && some_and (λ q. names list q && not (names (lists q) p)) (commitment_of one two (other_ring ring))))))

same_keeps : (i j : Interval) (l m u v : ℕ) (f g : ℕ → ℕ) (x y : ℕ) (a b c d : Option ℕ) (p : ℕ) → j ≡ i → m ≡ l → v ≡ u → g ≡ f → y ≡ x → c ≡ a → d ≡ b →
    keeps_by i l u f x a b p ≡ true → keeps_by j m v g y c d p ≡ true
same_keeps i j l m u v f g x y a b c d p e k n w z t r h = rw (e, k, n, w, z, t, r) h

pub kept_too : (s t : State) (o : ℕ) → SameSight s t o → kept_in s o ≡ true → kept_in t o ≡ true
unfolding keeps_by
kept_too s t o same h =
    let k : Keeper s o = keeper s o h in
    keeps t o k.phase (of_too s t o k.phase same k.of)
    (same_keeps (interval s k.phase) (interval t k.phase) (s.plan.value OverlapIncludedPhases o) (t.plan.value OverlapIncludedPhases o)
    (s.plan.value OverlapAcrossRings o) (t.plan.value OverlapAcrossRings o) (s.plan.value PhaseConcurrency) (t.plan.value PhaseConcurrency)
    (ring_of s.plan k.phase) (ring_of t.plan k.phase) (s.rings.commitment Ring1) (s.rings.commitment Ring2) (t.rings.commitment Ring1) (t.rings.commitment Ring2)
    k.phase (same.interval k.phase) same.value same.option same.lists (same.ring k.phase) (same.commitment Ring1) (same.commitment Ring2) k.keeps)

pub on_too : (s t : State) (o : ℕ) → SameSight s t o → on_in s o ≡ true → on_in t o ≡ true
on_too s t o same h =
    let y : Yellower s o = yellower s o h in
    yellows t o y.phase (of_too s t o y.phase same y.of) (same.interval y.phase ∙ is_in_yellow (interval s y.phase) y.yellow)

pub plain : (s t : State) (o : ℕ) → t.plan ≡ s.plan → ((p : ℕ) → (t.phases p).interval ≡ (s.phases p).interval) → t.rings ≡ s.rings → SameSight s t o
plain s t o plans intervals same = record {
  count = ap (λ (x : Plan). x.phase_count) plans;
  value = ap (λ (x : Plan). x.value OverlapIncludedPhases o) plans;
  type = ap (λ (x : Plan). x.value OverlapType o) plans;
  modifiers = ap (λ (x : Plan). x.value OverlapModifierPhases o) plans;
  trail = ap (λ (x : Plan). x.value OverlapTrailGreen o) plans;
  option = ap (λ (x : Plan). x.value OverlapAcrossRings o) plans;
  lists = ap (λ (x : Plan). x.value PhaseConcurrency) plans;
  ring = λ p. ap (λ (x : Plan). ring_of x p) plans;
  interval = intervals;
  commitment = λ r. ap (λ (x : rings.State). x.commitment r) same;
}

-- a commit that leaves the structure
pub same_committed : (s : State) (o : ℕ) → changes_structure s.plan s.desk.edits ≡ false → SameSight s (committed s) o
same_committed s o unchanged = record {
  count = same_phase_count s.plan s.desk.edits;
  value = kept is_structural s.plan s.desk.edits unchanged OverlapIncludedPhases o refl;
  type = kept is_structural s.plan s.desk.edits unchanged OverlapType o refl;
  modifiers = kept is_structural s.plan s.desk.edits unchanged OverlapModifierPhases o refl;
  trail = kept is_structural s.plan s.desk.edits unchanged OverlapTrailGreen o refl;
  option = kept is_structural s.plan s.desk.edits unchanged OverlapAcrossRings o refl;
  lists = fun_ext (λ q. kept is_structural s.plan s.desk.edits unchanged PhaseConcurrency q refl);
  ring = λ q. kept is_structural s.plan s.desk.edits unchanged PhaseRing q refl;
  interval = λ q. refl;
  commitment = λ r. keeps_committed s r;
}
