-- The search for the last change of a watched value, record by record.
use Rattle.std.proofs.Common.{◌≡◌, ℕ, zero, suc, ◌-◌, ◌≤◌, List, [], ◌∷◌, drop, arith, Option, Some, None, sym, ap, subst, ◌∙◌, refl, inl, inr}
use Rattle.std.specs.Prelude.{option_map, ◌≢◌}
use Rattle.tsb_history.specs.declared.kinds.Kind.{Kind}
use Rattle.tsb_history.specs.History.{Change, quiet_ticks}
use Rattle.tsb_types.specs.declared.watch.Watch.{Watch}
use Rattle.tsb_step.specs.Past.{pasts, ticks_of, undone}
use Rattle.tsb_step.specs.State.{State}
use Rattle.tsb_step.specs.Watches as step
use Rattle.tsb_step.specs.Watches.{watched, TellsLastChange}
use Rattle.tsb_controller.specs.Whole.{All, AreAllBy, all_in, all_put_back}
use Rattle.tsb_bench.specs.declared.watched.WatchedLayer.{WatchedLayer}
use Rattle.tsb_bench.specs.declared.watched.Value.{Value}
use Rattle.tsb_bench.specs.declared.watched.Value.TheVariants as values
use Rattle.tsb_bench.specs.Held.{Held, state_of, IsHeld, HasSoundPast}
use Rattle.tsb_bench.specs.Watched.{Holds, told}
use Rattle.tsb_bench.proofs.HeldLemmas.{back-said, quiet-first}

-- ## Values differ

abbrev untold : step.Watched → Value
untold (step.OfInterval i) = values.Interval i
untold (step.OfPedestrian i) = values.Ped i
untold (step.OfCall on) = values.Call on
untold (step.OfOutput on) = values.Output on
untold (step.OfAlarm a) = values.Alarm a
untold (step.OfStage s) = values.Stage s
untold (step.OfTrip t) = values.Trip (option_map (λ x. (x.cause, x.tick)) t)

untold-told : (v : Value) → untold (told v) ≡ v
untold-told (values.Interval i) = refl
untold-told (values.Ped i) = refl
untold-told (values.Call on) = refl
untold-told (values.Output on) = refl
untold-told (values.Alarm a) = refl
untold-told (values.Stage s) = refl
untold-told (values.Trip None) = refl
untold-told (values.Trip (Some x)) = refl

pub told-apart : (v w : Value) → told v ≡ told w → v ≡ w
told-apart v w same = sym (untold-told v) ∙ ap untold same ∙ untold-told w

-- ## The search

-- the value is what is watched, wherever the layer is that of some rows
abbrev pub Tells : Watch → WatchedLayer → Value → Type 0
Tells w x value = (now : ℕ) (a : All) → Holds w a x → AreAllBy now a → told value ≡ watched w (all_in now a)

-- where it is: the layer, the tick number and the value are those of rows from which the records left lead back
pub record IsAt (h : Held) (w : Watch) (x : WatchedLayer) (tick : ℕ) (value : Value) (left : List Change) : Type 0 where
  pub rows : All
  pub sound : HasSoundPast tick rows left
  pub holds : Holds w rows x
  pub tells : Tells w x value
  pub goes : (t : Option ℕ) → TellsLastChange w (pasts (all_in tick rows) left) t → TellsLastChange w (pasts (state_of h) h.records) t

pub at-start : (h : Held) (w : Watch) (x : WatchedLayer) (value : Value) → HasSoundPast h.tick h.rows h.records → Holds w h.rows x → Tells w x value → IsAt h w x h.tick value h.records
at-start h w x value sound holds tells = record { rows = h.rows; sound = sound; holds = holds; tells = tells; goes = λ t told. told }

-- of the states of a run, the one before is another
changed-here : (w : Watch) (s before : State) (rs : List Change) → watched w s ≢ watched w before → TellsLastChange w (s ∷ pasts before rs) (Some s.now)
changed-here w s before [] differs = inl (differs, refl)
changed-here w s before (r ∷ rs) differs = inl (differs, refl)

same-here : (w : Watch) (s before : State) (rs : List Change) (t : Option ℕ) → watched w s ≡ watched w before → TellsLastChange w (pasts before rs) t → TellsLastChange w (s ∷ pasts before rs) t
same-here w s before [] t same told = inr (same, told)
same-here w s before (r ∷ rs) t same told = inr (same, told)

module _ (h : Held) (w : Watch) (x : WatchedLayer) (tick : ℕ) (value : Value) (r : Change) (rs : List Change) (at : IsAt h w x tick value (r ∷ rs)) where
  -- the rows before the record
  abbrev pub back : All
  back = all_put_back at.rows r.entries

  pub back-held : IsHeld (tick - ticks_of r.kind) back
  back-held = go rs at.sound.2
    where
      go : (rs : List Change) → HasSoundPast (tick - ticks_of r.kind) back rs → IsHeld (tick - ticks_of r.kind) back
      go [] sound = sound.0
      go (q ∷ qs) sound = sound.0

  -- the state before it
  before : undone r (all_in tick at.rows) ≡ all_in (tick - ticks_of r.kind) back
  before = back-said tick at.rows r at.sound.0 at.sound.1

  -- the value of the rows that are left
  here : told value ≡ watched w (all_in tick at.rows)
  here = at.tells tick at.rows at.holds at.sound.0.by

  -- the value was another before
  pub found : (old : Value) → told old ≡ watched w (all_in (tick - ticks_of r.kind) back) → old ≢ value → TellsLastChange w (pasts (state_of h) h.records) (Some tick)
  found old old_is differs =
      at.goes (Some tick)
      (changed-here w (all_in tick at.rows) (undone r (all_in tick at.rows)) rs
      (λ e. differs (told-apart old value (old_is ∙ ap (watched w) (sym before) ∙ sym e ∙ sym here))))

  -- the value was the same before
  goes-on : (y : WatchedLayer) → Holds w back y → Tells w y value → IsAt h w y (tick - ticks_of r.kind) value rs
  goes-on y holds tells = record {
    rows = back;
    sound = at.sound.2;
    holds = holds;
    tells = tells;
    goes = λ t then. at.goes t
        (same-here w (all_in tick at.rows) (undone r (all_in tick at.rows)) rs t
        (sym here ∙ tells (tick - ticks_of r.kind) back holds back-held.by ∙ ap (watched w) (sym before))
        (subst (λ (s : State). TellsLastChange w (pasts s rs) t) (sym before) then));
  }

  -- another layer has the same
  pub goes-on-same : (y : WatchedLayer) (old : Value) → Holds w back y → Tells w y old → old ≡ value → IsAt h w y (tick - ticks_of r.kind) value rs
  goes-on-same y old holds tells same = goes-on y holds (subst (Tells w y) same tells)

  -- the layer itself stayed
  pub goes-on-still : (y : WatchedLayer) → Holds w back y → y ≡ x → IsAt h w y (tick - ticks_of r.kind) value rs
  goes-on-still y holds same = goes-on y holds (subst (λ (z : WatchedLayer). Tells w z value) (sym same) at.tells)

  -- a record of no cells changes nothing
  pub goes-past : r.entries ≡ [] → IsAt h w x (tick - ticks_of r.kind) value rs
  goes-past none = goes-on x (subst (λ (es : List (ℕ × ℕ)). Holds w (all_put_back at.rows es) x) (sym none) at.holds) at.tells

-- records of quiet ticks change nothing but the tick number
pub goes-quiet : (k : ℕ) (h : Held) (w : Watch) (x : WatchedLayer) (tick : ℕ) (value : Value) (left : List Change) → k ≤ quiet_ticks left → IsAt h w x tick value left → IsAt h w x (tick - k) value (drop k left)
goes-quiet zero h w x tick value left most at = subst (λ (n : ℕ). IsAt h w x n value left) (omega arith) at
goes-quiet (suc k) h w x tick value [] most at = absurd (omega (arith, most))
goes-quiet (suc k) h w x tick value (r ∷ rs) most at =
    let first = quiet-first k r rs most in
    subst (λ (n : ℕ). IsAt h w x n value (drop k rs)) (omega arith)
    (goes-quiet k h w x (tick - 1) value rs first.1 (subst (λ (d : Kind). IsAt h w x (tick - ticks_of d) value rs) first.0.tick (goes-past h w x tick value r rs at first.0.none)))

-- no record is left
pub none-left : (h : Held) (w : Watch) (x : WatchedLayer) (tick : ℕ) (value : Value) → IsAt h w x tick value [] → TellsLastChange w (pasts (state_of h) h.records) None
none-left h w x tick value at = at.goes None refl
