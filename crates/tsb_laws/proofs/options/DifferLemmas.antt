-- Plans that differ in options alone, or in the correction limit alone: as equations, and with edits laid over them.
use Rattle.std.proofs.Common.{◌≡◌, ℕ, ◌==◌, Bool, true, false, not, ◌&&◌, if◌then◌else◌, List, [], ◌∷◌, refl, sym, ap, ap₂, ◌∙◌}
use Rattle.std.proofs.Math.Path.{fun_ext}
use Rattle.std.specs.List.{list_any}
use Rattle.tsb_step.specs.tsb_plan.declared.object.Object.{Object}
use Rattle.tsb_step.specs.tsb_plan.declared.object.Object.TheVariants.{CoordCorrectionLimit, CoordCorrectionMode}
use Rattle.tsb_step.specs.tsb_plan.declared.plan.patterns.CorrectionMode.TheVariants.{AtOnce}
use Rattle.tsb_step.specs.tsb_plan.Parts.{correction_mode, correction_limit}
use Rattle.tsb_step.specs.tsb_plan.Plan.{Plan, Counts, is_same, with_value, with_values}
use Rattle.tsb_step.specs.tsb_transact.declared.edit.Edit.{Edit}
use Rattle.tsb_step.specs.tsb_transact.Commit.{changes, changes_some}
use Rattle.tsb_laws.specs.Differing.{DifferIn, with_others}
use Rattle.tsb_laws.specs.WithoutOptions.{is_of_options}
use Rattle.tsb_laws.specs.CorrectionLimits.{is_limit}

-- with other values of the options and of the correction limit
abbrev pub with_options : Plan → (Object → ℕ → ℕ) → Plan
with_options plan v = with_others is_of_options plan v

-- such values: only that of the limit is another one
abbrev pub only_limit : Plan → (Object → ℕ → ℕ) → Object → ℕ → ℕ
only_limit plan v o i = if is_limit o then v o i else plan.value o i

-- with another limit
abbrev pub with_limit : Plan → (Object → ℕ → ℕ) → Plan
with_limit plan v = with_options plan (only_limit plan v)

-- ## As equations

pub as_others : (test : Object → Bool) (x y : Plan) → DifferIn test x y → y ≡ with_others test x y.value
as_others test x y d =
    ap₂ (λ (n m : ℕ). record y { phase_count = n; side_count = m }) d.phase_count d.side_count
    ∙ ap (λ (counts : Counts). record x { counts = counts; value = y.value }) d.counts
    ∙ ap (λ (f : Object → ℕ → ℕ). record x { value = f }) (fun_ext (λ o. fun_ext (λ i. at o i)))
  where
    at : (o : Object) (i : ℕ) → y.value o i ≡ (if test o then y.value o i else x.value o i)
    at o i = go (test o) refl
      where
        go : (b : Bool) → test o ≡ b → y.value o i ≡ (if b then y.value o i else x.value o i)
        go true k = refl
        go false k = d.value o i k

pub from_others : (test : Object → Bool) (x : Plan) (v : Object → ℕ → ℕ) → DifferIn test x (with_others test x v)
from_others test x v = record {
  phase_count = refl;
  side_count = refl;
  counts = refl;
  value = λ o i h. ap (λ (b : Bool). if b then v o i else x.value o i) h;
}

limit_at : (x : Plan) (v : Object → ℕ → ℕ) (o : Object) (i : ℕ) →
    (if is_limit o then v o i else x.value o i) ≡ (if is_of_options o then (if is_limit o then v o i else x.value o i) else x.value o i)
limit_at x v CoordCorrectionLimit i = refl
limit_at x v o i = refl

-- a limit is one of them
pub limit_alone : (x : Plan) (v : Object → ℕ → ℕ) → with_others is_limit x v ≡ with_limit x v
limit_alone x v = ap (λ (f : Object → ℕ → ℕ). record x { value = f }) (fun_ext (λ o. fun_ext (λ i. limit_at x v o i)))

-- with mode 0 it corrects at once, whatever the limit
pub corrects_at_once : (x : Plan) → x.value CoordCorrectionMode 1 ≡ 0 → correction_mode x ≡ AtOnce
corrects_at_once x h = rw h (go (correction_limit x == 0))
  where
    go : (b : Bool) → (if b then AtOnce else AtOnce) ≡ AtOnce
    go true = refl
    go false = refl

-- ## Edits

pub values_differ : (test : Object → Bool) (es : List (Object × ℕ × ℕ)) (x y : Plan) → DifferIn test x y →
    DifferIn test (with_values x es) (with_values y es)
values_differ test [] x y d = d
values_differ test (e ∷ es) x y d = values_differ test es (with_value x e.0 e.1 e.2) (with_value y e.0 e.1 e.2) (record {
  phase_count = d.phase_count;
  side_count = d.side_count;
  counts = d.counts;
  value = λ o i h. ap (λ (n : ℕ). if is_same e.0 e.1 o i then e.2 else n) (d.value o i h);
})

pub limit_is : (o : Object) → is_limit o ≡ true → o ≡ CoordCorrectionLimit
limit_is CoordCorrectionLimit h = refl
limit_is o h = cc

-- of objects among which is none that may differ, both see the same changes
pub changes_same : (may_differ : Object → Bool) (x : Plan) (v : Object → ℕ → ℕ) (test : Object → Bool) →
    ((o : Object) → may_differ o ≡ true → test o ≡ false) → (edits : List Edit) →
    changes_some test (with_others may_differ x v) edits ≡ changes_some test x edits
changes_same may_differ x v test out edits = ap (λ (f : Edit → Bool). list_any f edits) (fun_ext (λ e. at e))
  where
    none : (o : Object) (b : Bool) → may_differ o ≡ true → (test o && b) ≡ false
    none o b k = ap (λ (c : Bool). c && b) (out o k)

    at : (e : Edit) → (test e.id.object && changes (with_others may_differ x v) e) ≡ (test e.id.object && changes x e)
    at e = go (may_differ e.id.object) refl
      where
        go : (b : Bool) → may_differ e.id.object ≡ b → (test e.id.object && changes (with_others may_differ x v) e) ≡ (test e.id.object && changes x e)
        go true k = none e.id.object (changes (with_others may_differ x v) e) k ∙ sym (none e.id.object (changes x e) k)
        go false k = ap (λ (b : Bool). test e.id.object && not ((if b then v e.id.object e.id.index else x.value e.id.object e.id.index) == e.value)) k
