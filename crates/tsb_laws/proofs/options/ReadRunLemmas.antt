-- The controller without options reads none: two plans that differ in options alone give the same run of it.
use Rattle.std.proofs.Common.{◌≡◌, ℕ, ◌+◌, ◌==◌, Bool, true, false, not, ◌&&◌, ◌||◌, if◌then◌else◌, List, [], ◌∷◌, map, Option, is_some, refl, sym, ap, ap₂, subst, ◌∙◌}
use Rattle.tsb_step.specs.tsb_plan.declared.object.Object.{Object}
use Rattle.tsb_step.specs.tsb_plan.Objects.{is_structural}
use Rattle.tsb_step.specs.tsb_plan.Plan.{Plan}
use Rattle.tsb_step.specs.tsb_rules.declared.rules.Rule.{Rule}
use Rattle.tsb_step.specs.tsb_ring.Rings as rings
use Rattle.tsb_step.specs.tsb_transact.Calls as desk
use Rattle.tsb_step.specs.tsb_transact.Commit.{changes_some}
use Rattle.tsb_step.specs.tsb_transact.Desk.{value_put, with_edits}
use Rattle.tsb_step.specs.tsb_transact.declared.edit.Edit.{Edit}
use Rattle.tsb_step.specs.declared.inputs.Input.{Input}
use Rattle.tsb_step.specs.declared.inputs.Input.TheVariants as inputs
use Rattle.tsb_step.specs.State.{State, restarted}
use Rattle.tsb_step.specs.Step.{committed, reset, with_desk}
use Rattle.tsb_laws.specs.Differing.{DifferIn, IsSameBut}
use Rattle.tsb_laws.specs.PlainParts as parts
use Rattle.tsb_laws.specs.PlainStep as plain
use Rattle.tsb_laws.specs.WithoutOptions.{is_of_options, SetsNoOverlapOption, SetNoOverlapOption, ShowTheSameWithoutOptions}
use Rattle.tsb_laws.proofs.options.DifferLemmas.{with_options, as_others, from_others, values_differ}
use Rattle.tsb_laws.proofs.options.EachEditLemmas.{AreEach, each_with}
use Rattle.tsb_laws.proofs.options.FoundLemmas.{swapped}
use Rattle.tsb_laws.proofs.options.ReadLemmas.{first_broken-same, field-same, display-same, ticked-same, lamp-same}

-- ## As equations

of_swap : (s t : State) (v : Object → ℕ → ℕ) → t ≡ swapped s v → IsSameBut is_of_options s t
of_swap s t v e = record {
  plan = subst (λ (q : Plan). DifferIn is_of_options s.plan q) (sym (ap (λ (x : State). x.plan) e)) (from_others is_of_options s.plan v);
  rest = e ∙ ap (λ (q : Plan). record s { plan = q }) (sym (ap (λ (x : State). x.plan) e));
}

as_swap : (s t : State) → IsSameBut is_of_options s t → t ≡ swapped s t.plan.value
as_swap s t x = x.rest ∙ ap (λ (q : Plan). record s { plan = q }) (as_others is_of_options s.plan t.plan x.plan)

-- ## Edits

-- it is of no option of overlaps
abbrev IsOther : Edit → Type 0
IsOther e = (is_of_options e.id.object && is_structural e.id.object) ≡ false

-- one of an option that is not of the structure does not count, whatever it changes
counts-same : (option structural : Bool) (x y n : ℕ) → (option && structural) ≡ false →
    (structural && not ((if option then x else y) == n)) ≡ (structural && not (y == n))
counts-same true true x y n other = cc
counts-same true false x y n other = refl
counts-same false structural x y n other = refl

sees-same : (plan : Plan) (v : Object → ℕ → ℕ) (es : List Edit) → AreEach IsOther es →
    changes_some is_structural (with_options plan v) es ≡ changes_some is_structural plan es
sees-same plan v [] others = refl
sees-same plan v (e ∷ es) others =
    ap₂ (λ (b rest : Bool). b || rest)
    (counts-same (is_of_options e.id.object) (is_structural e.id.object) (v e.id.object e.id.index) (plan.value e.id.object e.id.index) e.value others.0)
    (sees-same plan v es others.1)

others_step : (s : State) (i : Input) → AreEach IsOther s.desk.edits → SetsNoOverlapOption i → AreEach IsOther (plain.step s i).desk.edits
unfolding plain.step plain.watched
others_step s (inputs.Tick row) others sets = go (is_some s.trip)
  where
    go : (b : Bool) → AreEach IsOther (if b then record s { now = s.now + 1 } else plain.watched s (plain.next s row)).desk.edits
    go true = others
    go false = others
others_step s (inputs.Fault lamp) others sets = go (is_some s.trip)
  where
    go : (b : Bool) → AreEach IsOther (if b then record s { lamp = lamp } else plain.watched s (record s { lamp = lamp })).desk.edits
    go true = others
    go false = others
others_step s inputs.Reset others sets = go (is_some s.trip)
  where
    go : (b : Bool) → AreEach IsOther (if b then restarted s else s).desk.edits
    go true = others
    go false = others
others_step s (inputs.Begin station) others sets = tt
others_step s (inputs.Set station id v) others sets = each_with IsOther (record { id = id; value = v }) s.desk.edits sets others
others_step s (inputs.Commit station) others sets = tt
others_step s (inputs.Abort station) others sets = tt
others_step s i others sets = others

others_run : (plan : Plan) (is : List Input) → SetNoOverlapOption is → AreEach IsOther (plain.replay plan is).desk.edits
others_run plan [] sets = tt
others_run plan (i ∷ is) sets = others_step (plain.replay plan is) i (others_run plan is sets.1) sets.0

-- ## One input

reset-same : (s : State) (v : Object → ℕ → ℕ) → reset (swapped s v) ≡ swapped (reset s) v
reset-same s v = go (is_some s.trip)
  where
    go : (b : Bool) → (if b then restarted (swapped s v) else swapped s v) ≡ swapped (if b then restarted s else s) v
    go true = refl
    go false = refl

edited : (s : State) (v : Object → ℕ → ℕ) → DifferIn is_of_options (with_edits s.plan s.desk.edits) (with_edits (with_options s.plan v) s.desk.edits)
edited s v = values_differ is_of_options (map value_put s.desk.edits) s.plan (with_options s.plan v) (from_others is_of_options s.plan v)

found-same : (s : State) (v : Object → ℕ → ℕ) → plain.found (with_options s.plan v) s.desk ≡ plain.found s.plan s.desk
found-same s v =
    ap parts.first_broken (as_others is_of_options (with_edits s.plan s.desk.edits) (with_edits (with_options s.plan v) s.desk.edits) (edited s v))
    ∙ first_broken-same (with_edits s.plan s.desk.edits) (with_edits (with_options s.plan v) s.desk.edits).value

commits-same : (s : State) (v : Object → ℕ → ℕ) → AreEach IsOther s.desk.edits → IsSameBut is_of_options (committed s) (committed (swapped s v))
commits-same s v others = record {
  plan = edited s v;
  rest = ap (λ (b : Bool). record (committed s) {
    plan = desk.committed_plan (with_options s.plan v) s.desk;
    rings = if b then rings.forgotten s.rings else s.rings;
  }) (sees-same s.plan v s.desk.edits others);
}

step-same : (s : State) (v : Object → ℕ → ℕ) (i : Input) → AreEach IsOther s.desk.edits →
    IsSameBut is_of_options (plain.step s i) (plain.step (swapped s v) i)
unfolding plain.step
step-same s v (inputs.Tick row) others = of_swap (plain.ticked row s) (plain.ticked row (swapped s v)) v (ticked-same s row v)
step-same s v (inputs.Fault lamp) others = of_swap (plain.with_lamp lamp s) (plain.with_lamp lamp (swapped s v)) v (lamp-same s v lamp)
step-same s v inputs.Reset others = of_swap (reset s) (reset (swapped s v)) v (reset-same s v)
step-same s v (inputs.Verify station) others =
    of_swap (plain.step s (inputs.Verify station)) (plain.step (swapped s v) (inputs.Verify station)) v
    (ap (λ (r : Option Rule). with_desk (desk.after_check r s.desk) (swapped s v)) (found-same s v))
step-same s v (inputs.Commit station) others = commits-same s v others
step-same s v i others = of_swap (plain.step s i) (plain.step (swapped s v) i) v refl

-- ## Runs

pub reads_none : (x y : Plan) (is : List Input) → DifferIn is_of_options x y → SetNoOverlapOption is →
    IsSameBut is_of_options (plain.replay x is) (plain.replay y is)
reads_none x y [] d sets = record { plan = d; rest = refl }
reads_none x y (i ∷ is) d sets =
    let before : IsSameBut is_of_options (plain.replay x is) (plain.replay y is) = reads_none x y is d sets.1 in
    subst (λ (t : State). IsSameBut is_of_options (plain.step (plain.replay x is) i) (plain.step t i))
    (sym (as_swap (plain.replay x is) (plain.replay y is) before))
    (step-same (plain.replay x is) (plain.replay y is).plan.value i (others_run x is sets.1))

pub shows_none : (x y : Plan) (is : List Input) → DifferIn is_of_options x y → SetNoOverlapOption is →
    ShowTheSameWithoutOptions (plain.replay x is) (plain.replay y is)
shows_none x y is d sets =
    let same : plain.replay y is ≡ swapped (plain.replay x is) (plain.replay y is).plan.value =
    as_swap (plain.replay x is) (plain.replay y is) (reads_none x y is d sets) in
    record {
      heads = ap plain.display same ∙ display-same (plain.replay x is) (plain.replay y is).plan.value;
      lamps = ap plain.field same ∙ field-same (plain.replay x is) (plain.replay y is).plan.value;
      counter = ap (λ (s : State). plain.local s) same;
    }
