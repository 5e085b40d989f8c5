-- Statuses that are alike have one text.
use Rattle.std.proofs.Common.{◌≡◌, ◌∙◌, ℕ, zero, suc, ◌+◌, ◌-◌, ◌<◌, ◌≤◌, Bool, true, false, List, [], ◌∷◌, Option, Some, None, option_map, codes, decimal, if◌then◌else◌, refl, sym, ap, arith}
use Rattle.std.proofs.lemmas.Bool.Decides.{same_from_decides}
use Rattle.std.specs.List.{list_all}
use Rattle.tsb_types.specs.declared.limits.TheConstants.{OVERLAPS, PREEMPTS, VEHICLE_DETECTORS}
use Rattle.tsb_types.specs.Clip.{Agree}
use Rattle.tsb_types.specs.Lists.{run_from}
use Rattle.tsb_types.proofs.RunLemmas.{all-run_from}
use Rattle.tsb_objects.proofs.tsb_rules.RuleLemmas.{at-run_from}
use Rattle.tsb_step.specs.tsb_ring.Rings.{Ring1, Ring2}
use Rattle.tsb_step.specs.declared.status.PreemptState.{PreemptState}
use Rattle.tsb_step.specs.declared.waits.Wait.{Wait}
use Rattle.tsb_step.specs.Status.{Status}
use Rattle.tsb_status_text.specs.Json.{array, member, number_in, numbers, object, onto, optional, string, values_from}
use Rattle.tsb_status_text.specs.Names.{desk_name, flash_name, free_name, preempt_name}
use Rattle.tsb_status.specs.Alike.{AgreeIfAny, Alike}
use Rattle.tsb_status_text.specs.StatusText.{phases_text, arrows_member, overlaps_text, detectors_text, is_not_active, preempts_text, shown_preempts, state_text, desk_text, ring_text, rings_text, time_member, wait_in, wait_text, waits_text, status_text}

values-same : (f g : ℕ → Option (List ℕ)) (a n : ℕ) → ((p : ℕ) → a ≤ p → p < a + n → f p ≡ g p) → values_from f a n ≡ values_from g a n
unfolding values_from
values-same f g a zero same = refl
values-same f g a (suc n) same =
    let here : f a ≡ g a = same a (omega arith) (omega arith) in
    let rest : values_from f (a + 1) n ≡ values_from g (a + 1) n = values-same f g (a + 1) n (λ p from below. same p (omega (arith, from)) (omega (arith, below))) in
    λ i. onto (here i) (rest i)

numbers-same : (f g : ℕ → Bool) (n : ℕ) → ((p : ℕ) → 1 ≤ p → p ≤ n → f p ≡ g p) → numbers f n ≡ numbers g n
unfolding numbers
numbers-same f g n same =
    ap array (values-same (number_in f) (number_in g) 1 n (λ p from below. ap (λ (b : Bool). if b then Some (decimal p) else None) (same p from (omega (arith, below)))))

waits-same : (f g : ℕ → Option Wait) → Agree f g → waits_text f ≡ waits_text g
unfolding waits_text
waits-same f g same =
    ap array (values-same (wait_in f) (wait_in g) 1 16 (λ p from below. ap (λ (w : Option Wait). option_map (wait_text p) w) (same p from (omega (arith, below)))))

phases-same : (x y : Status) → Alike x y → phases_text x ≡ phases_text y
unfolding phases_text
phases-same x y a = λ i. object (
    member (codes "reds") (numbers-same x.reds y.reds 16 a.reds i)
    ∷ member (codes "yellows") (numbers-same x.yellows y.yellows 16 a.yellows i)
    ∷ member (codes "greens") (numbers-same x.greens y.greens 16 a.greens i)
    ∷ member (codes "dontWalks") (numbers-same x.dont_walks y.dont_walks 16 a.dont_walks i)
    ∷ member (codes "pedClears") (numbers-same x.pedestrian_clears y.pedestrian_clears 16 a.pedestrian_clears i)
    ∷ member (codes "walks") (numbers-same x.walks y.walks 16 a.walks i)
    ∷ member (codes "vehCalls") (numbers-same x.vehicle_calls y.vehicle_calls 16 a.vehicle_calls i)
    ∷ member (codes "pedCalls") (numbers-same x.pedestrian_calls y.pedestrian_calls 16 a.pedestrian_calls i)
    ∷ member (codes "phaseOns") (numbers-same x.phase_ons y.phase_ons 16 a.phase_ons i)
    ∷ member (codes "phaseNexts") (numbers-same x.phase_nexts y.phase_nexts 16 a.phase_nexts i)
    ∷ [])

arrows-same : (x y : Option (ℕ → Bool)) → AgreeIfAny x y → arrows_member x ≡ arrows_member y
arrows-same None None same = refl
arrows-same None (Some g) same = absurd same
arrows-same (Some f) None same = absurd same
arrows-same (Some f) (Some g) same = λ i. member (codes "flashingYellows") (numbers-same f g OVERLAPS same i) ∷ []

overlaps-same : (x y : Status) → Alike x y → overlaps_text x ≡ overlaps_text y
unfolding overlaps_text
overlaps-same x y a = λ i. object (
    member (codes "reds") (numbers-same x.overlap_reds y.overlap_reds OVERLAPS a.overlap_reds i)
    ∷ member (codes "yellows") (numbers-same x.overlap_yellows y.overlap_yellows OVERLAPS a.overlap_yellows i)
    ∷ member (codes "greens") (numbers-same x.overlap_greens y.overlap_greens OVERLAPS a.overlap_greens i)
    ∷ arrows-same x.overlap_arrows y.overlap_arrows a.overlap_arrows i)

detectors-same : (x y : Status) → Alike x y → detectors_text x ≡ detectors_text y
unfolding detectors_text
detectors-same x y a = λ i. object (
    member (codes "active") (numbers-same x.active y.active VEHICLE_DETECTORS a.active i)
    ∷ member (codes "alarms") (numbers-same x.alarms y.alarms VEHICLE_DETECTORS a.alarms i)
    ∷ [])

-- that each of the preempts after the fourth is not active
abbrev are_not_active : (ℕ → PreemptState) → Bool
are_not_active preempt = list_all (λ n. is_not_active (preempt n)) (run_from 5 (PREEMPTS - 4))

active-same : (x y : ℕ → PreemptState) → ((n : ℕ) → 1 ≤ n → n ≤ PREEMPTS → x n ≡ y n) → are_not_active x ≡ true → are_not_active y ≡ true
active-same x y same all =
    all-run_from (λ n. is_not_active (y n)) 5 (PREEMPTS - 4)
    (λ n from below. ap is_not_active (sym (same n (omega (arith, from)) (omega (arith, below)))) ∙ at-run_from (λ k. is_not_active (x k)) 5 (PREEMPTS - 4) n all from below)

-- no line has more preempts than there are
shown-few : (preempt : ℕ → PreemptState) → shown_preempts preempt ≤ PREEMPTS
shown-few preempt = go (are_not_active preempt)
  where
    go : (b : Bool) → (if b then 4 else PREEMPTS) ≤ PREEMPTS
    go true = omega arith
    go false = omega arith

preempts-same : (x y : Status) → Alike x y → preempts_text x.preempt ≡ preempts_text y.preempt
unfolding preempts_text
preempts-same x y a =
    let shown : shown_preempts x.preempt ≡ shown_preempts y.preempt =
    ap (λ (b : Bool). if b then 4 else PREEMPTS)
    (same_from_decides {P = are_not_active y.preempt ≡ true} (are_not_active x.preempt) (are_not_active y.preempt)
    (active-same x.preempt y.preempt a.preempt, active-same y.preempt x.preempt (λ n from to. sym (a.preempt n from to))) (λ e. e, λ e. e)) in
    ap array
    (ap (values_from (state_text x.preempt) 1) shown
    ∙ values-same (state_text x.preempt) (state_text y.preempt) 1 (shown_preempts y.preempt)
    (λ n from below. ap (λ (s : PreemptState). Some (string (preempt_name s))) (a.preempt n from (omega (arith, below, shown-few y.preempt)))))

desk-same : (x y : Status) → Alike x y → desk_text x ≡ desk_text y
unfolding desk_text
desk-same x y a = λ i. object (member (codes "owner") (optional (a.owner i)) ∷ member (codes "state") (string (desk_name (a.desk i))) ∷ [])

rings-same : (x y : Status) → Alike x y → rings_text x.ring ≡ rings_text y.ring
unfolding rings_text
rings-same x y a = λ i. array (ring_text (a.ring Ring1 i) ∷ ring_text (a.ring Ring2 i) ∷ [])

-- the whole line
pub text-same : (x y : Status) → Alike x y → status_text x ≡ status_text y
unfolding status_text
text-same x y a = λ i. object (
    member (codes "tick") (decimal (a.now i))
    ∷ member (codes "phaseStatusGroup") (phases-same x y a i)
    ∷ member (codes "overlapStatusGroup") (overlaps-same x y a i)
    ∷ member (codes "vehicleDetectorStatusGroup") (detectors-same x y a i)
    ∷ member (codes "preemptState") (preempts-same x y a i)
    ∷ member (codes "coordPatternStatus") (decimal (a.pattern i))
    ∷ member (codes "localFreeStatus") (string (free_name (a.free i)))
    ∷ member (codes "localCounter") (optional (a.local i))
    ∷ member (codes "coordSyncStatus") (optional (a.sync i))
    ∷ member (codes "unitFlashStatus") (string (flash_name (a.flash i)))
    ∷ member (codes "desk") (desk-same x y a i)
    ∷ member (codes "rings") (rings-same x y a i)
    ∷ member (codes "waits") (waits-same x.wait y.wait a.wait i)
    ∷ time_member (a.time i))
