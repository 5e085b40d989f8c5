-- Statuses that say the same of phases and overlaps 1 to 16, of all vehicle detectors and preempts, of both rings, and in
-- all else.
use Rattle.std.specs.Prelude.{◌≡◌, ℕ, ◌≤◌, Bool, Option, Some, None}
use Rattle.tsb_step.specs.tsb_types.declared.limits.TheConstants.{PREEMPTS}
use Rattle.tsb_step.specs.tsb_types.Clip.{Agree}
use Rattle.tsb_step.specs.tsb_detect.Laws.{AgreeOnDetectors}
use Rattle.tsb_step.specs.tsb_ring.Rings.{Ring}
use Rattle.tsb_step.specs.Status.{Status}

-- there are two sets that agree, or none
abbrev pub AgreeIfAny : Option (ℕ → Bool) → Option (ℕ → Bool) → Type 0
AgreeIfAny None None = Unit {0}
AgreeIfAny (Some f) (Some g) = Agree f g
AgreeIfAny None (Some g) = ⊥
AgreeIfAny (Some f) None = ⊥

-- field by field
pub record Alike (x y : Status) : Type 0 where
  pub now : x.now ≡ y.now
  pub reds : Agree x.reds y.reds
  pub yellows : Agree x.yellows y.yellows
  pub greens : Agree x.greens y.greens
  pub dont_walks : Agree x.dont_walks y.dont_walks
  pub pedestrian_clears : Agree x.pedestrian_clears y.pedestrian_clears
  pub walks : Agree x.walks y.walks
  pub vehicle_calls : Agree x.vehicle_calls y.vehicle_calls
  pub pedestrian_calls : Agree x.pedestrian_calls y.pedestrian_calls
  pub phase_ons : Agree x.phase_ons y.phase_ons
  pub phase_nexts : Agree x.phase_nexts y.phase_nexts
  pub overlap_reds : Agree x.overlap_reds y.overlap_reds
  pub overlap_yellows : Agree x.overlap_yellows y.overlap_yellows
  pub overlap_greens : Agree x.overlap_greens y.overlap_greens
  pub overlap_arrows : AgreeIfAny x.overlap_arrows y.overlap_arrows
  pub active : AgreeOnDetectors x.active y.active
  pub alarms : AgreeOnDetectors x.alarms y.alarms
  pub preempt : (n : ℕ) → 1 ≤ n → n ≤ PREEMPTS → x.preempt n ≡ y.preempt n
  pub pattern : x.pattern ≡ y.pattern
  pub free : x.free ≡ y.free
  pub local : x.local ≡ y.local
  pub sync : x.sync ≡ y.sync
  pub time : x.time ≡ y.time
  pub flash : x.flash ≡ y.flash
  pub owner : x.owner ≡ y.owner
  pub desk : x.desk ≡ y.desk
  pub ring : (r : Ring) → x.ring r ≡ y.ring r
  pub wait : Agree x.wait y.wait
