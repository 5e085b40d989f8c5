-- The tick number at which a watched value changed last. An input that is no tick counts at the tick number in force
-- (profile).
use Rattle.std.specs.Prelude.{◌≡◌, ◌≢◌, ℕ, suc, ◌<◌, ◌≤◌, List, [], ◌∷◌, length, Option, Some, None, ◌⊎◌}
use Rattle.tsb_machine.specs.Machine.{Machine}
use Rattle.tsb_machine.specs.Past.{Whole, earlier}

module _ {State Input Change Value : Type 0} (m : Machine State Input Change) (value : State → Value) where
  -- of the states of a run, the newest first, the tick number of the newest in which the value is another than in the
  -- one before; none, where it never changed
  abbrev pub TellsLastChange : List State → Option ℕ → Type 0
  TellsLastChange [] t = t ≡ None
  TellsLastChange (s ∷ []) t = t ≡ None
  TellsLastChange (s ∷ (before ∷ rest)) t =
      ((value s ≢ value before) × (t ≡ Some (m.now s))) ⊎ ((value s ≡ value before) × TellsLastChange (before ∷ rest) t)

  -- the value k records back differs from the one before it
  abbrev pub ChangesAt : Whole State Change → ℕ → Type 0
  ChangesAt w k = value (earlier m w k).state ≢ value (earlier m w (suc k)).state

  -- t is the tick number of a state, of those not taken back, in which the value changed, and the value changed in none
  -- of a greater tick number
  pub record IsLastChange (w : Whole State Change) (t : ℕ) : Type 0 where
    pub back : ℕ
    pub within : back < length w.records
    pub at : m.now (earlier m w back).state ≡ t
    pub changes : ChangesAt w back
    pub greatest : (k : ℕ) → k < length w.records → ChangesAt w k → m.now (earlier m w k).state ≤ t

  -- what the whole gives in the subject's words
  abbrev pub IsTold : Whole State Change → Option ℕ → Type 0
  IsTold w None = (k : ℕ) → k < length w.records → value (earlier m w k).state ≡ value (earlier m w (suc k)).state
  IsTold w (Some t) = IsLastChange w t
