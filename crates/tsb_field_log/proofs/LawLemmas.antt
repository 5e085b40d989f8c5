-- The laws of src/laws.rt.
use Rattle.std.specs.List.{list_any}
use Rattle.std.proofs.Common.{◌≡◌, ◌∙◌, ℕ, ◌*◌, ◌^◌, ◌<◌, ◌≤◌, ◌==◌, ◌&&◌, Bool, true, false, suc, List, [], ◌∷◌, length, eqb, ltb, refl, sym, ap, subst, arith, inl, inr, Ok, if◌then◌else◌}
use Rattle.std.proofs.lemmas.Bool.{leb-false, or_parts}
use Rattle.std.proofs.lemmas.Bool.Decides.{eqb_tells, leb_tells}
use Rattle.tsb_types.specs.Sets.{all_off, list_of, names}
use Rattle.tsb_types.proofs.SetLemmas.{names-above, names-list_of, list_of-below, same_names}
use Rattle.tsb_field_log.specs.declared.inputs.InputKind.{InputKind}
use Rattle.tsb_field_log.specs.declared.inputs.InputKind.TheVariants.{Vehicle, Pedestrian, Preempt}
use Rattle.tsb_field_log.specs.declared.inputs.Wire.{Wire}
use Rattle.tsb_field_log.specs.declared.inputs.InputEvent.{InputEvent}
use Rattle.tsb_field_log.specs.Inputs.{inputs_in_digits, is_same_kind}
use Rattle.tsb_field_log.specs.Ticks.{row_in, input_on, is_on_in}
use Rattle.tsb_field_log.specs.Changes.{rows_of}
use Rattle.tsb_field_log.specs.Laws.{AreLogs, AreLong, AreShort, AreInForce, AreTheInputs}
use Rattle.tsb_field_log.specs.Wires.{form_of_wires, leads_beyond}
use Rattle.tsb_log_text.specs.ListText.{IsListed, text_in}
use Rattle.tsb_log_text.specs.Logs.{Rises, log_of}
use Rattle.tsb_log_text.specs.LogText.{IsFit, log_text}
use Rattle.tsb_log_text.specs.declared.form.RowForm.{RowForm}
use Rattle.tsb_log_text.specs.declared.form.RowForm.TheVariants.{Digits, Lists}
use Rattle.tsb_log_text.specs.declared.log.LogRow.{LogRow}
use Rattle.tsb_field_log.proofs.ChangeLemmas.{in-force, rising, are-listed, are-rows}
use Rattle.tsb_log_text.proofs.RoomLemmas.{lists-length}
use Rattle.tsb_log_text.proofs.TextLemmas.{text-read, text-length}
use Rattle.tsb_log_text.proofs.WrittenLemmas.{lists-read}

-- ## Inputs for which digits have one

differs : (most input number : ℕ) → ltb most input ≡ false → most < number → eqb input number ≡ false
differs most input number e lt =
    let within : input < suc most = leb-false (suc most) input e in
    elim (eqb_tells input number) [ inl z ↦ absurd (let same : input ≡ number = z.1 in omega (arith, same, within, lt)) | inr z ↦ z.0 ]

-- a wire that leads to such an input leads to none beyond
wire-off : (one kind : InputKind) (input number : ℕ) (on : Bool) → ltb (inputs_in_digits one) input ≡ false → inputs_in_digits kind < number → (is_same_kind one kind && input == number && on) ≡ false
wire-off Vehicle Vehicle input number on e lt = rw (differs 16 input number e lt) refl
wire-off Vehicle Pedestrian input number on e lt = refl
wire-off Vehicle Preempt input number on e lt = refl
wire-off Pedestrian Vehicle input number on e lt = refl
wire-off Pedestrian Pedestrian input number on e lt = rw (differs 8 input number e lt) refl
wire-off Pedestrian Preempt input number on e lt = refl
wire-off Preempt Vehicle input number on e lt = refl
wire-off Preempt Pedestrian input number on e lt = refl
wire-off Preempt Preempt input number on e lt = rw (differs 4 input number e lt) refl

-- an input to which no wire leads is off
beyond-off : (from : ℕ) (wires : List Wire) (events : List InputEvent) (tick : ℕ) (kind : InputKind) (number : ℕ) → list_any leads_beyond wires ≡ false → inputs_in_digits kind < number
    → input_on from wires events tick kind number ≡ false
beyond-off from [] events tick kind number e lt = refl
beyond-off from (w ∷ ws) events tick kind number e lt =
    let both = or_parts (leads_beyond w) (list_any leads_beyond ws) e in
    rw (wire-off w.kind kind w.input number (is_on_in from w tick events) both.0 lt) (beyond-off from ws events tick kind number both.1 lt)

-- a list with nothing on above a number is one of that many
few-listed : (few most : ℕ) (test : ℕ → Bool) → few ≤ most → list_of few test < 2 ^ most → ((k : ℕ) → few < k → test k ≡ false) → list_of most test < 2 ^ few
few-listed few most test le small off =
    subst (λ (n : ℕ). n < 2 ^ few) (sym (same_names most (list_of most test) (list_of few test) (list_of-below most test) small (λ p one within. at p one within)))
    (list_of-below few test)
  where
    at : (p : ℕ) → 1 ≤ p → p ≤ most → names (list_of most test) p ≡ names (list_of few test) p
    at p one within = elim (leb_tells p few) [
      | inl z ↦ names-list_of most p test one within ∙ sym (names-list_of few p test one z.1)
      | inr z ↦ names-list_of most p test one within ∙ off p z.1 ∙ sym (names-above few p (list_of few test) (list_of-below few test) z.1)
    ]

no-list : (b : Bool) → ◌≡◌ {A = RowForm} (if b then Lists else Digits) Digits → b ≡ false
no-list true e = absurd (cc)
no-list false e = refl

-- a row has no inputs but those that there are, and by digits none but those for which it has one
fit : (from : ℕ) (wires : List Wire) (events : List InputEvent) (tick : ℕ) → form_of_wires wires ≡ Digits → IsFit (row_in from wires events tick)
unfolding row_in
fit from wires events tick digits =
    let none : list_any leads_beyond wires ≡ false = no-list (list_any leads_beyond wires) digits in
    let v : list_of 16 (input_on from wires events tick Vehicle) < 2 ^ 16 = list_of-below 16 (input_on from wires events tick Vehicle) in
    let p : list_of 8 (input_on from wires events tick Pedestrian) < 2 ^ 8 = list_of-below 8 (input_on from wires events tick Pedestrian) in
    let n : list_of 4 (input_on from wires events tick Preempt) < 2 ^ 4 = list_of-below 4 (input_on from wires events tick Preempt) in
    record {
      vehicles = few-listed 16 64 (input_on from wires events tick Vehicle) (omega arith) (omega (arith, v)) (λ k lt. beyond-off from wires events tick Vehicle k none lt);
      pedestrians = few-listed 8 16 (input_on from wires events tick Pedestrian) (omega arith) (omega (arith, p)) (λ k lt. beyond-off from wires events tick Pedestrian k none lt);
      preempts = few-listed 4 8 (input_on from wires events tick Preempt) (omega arith) (omega (arith, n)) (λ k lt. beyond-off from wires events tick Preempt k none lt);
    }

listed : (from : ℕ) (wires : List Wire) (events : List InputEvent) (tick : ℕ) → 1 ≤ tick → tick ≤ 6000000 → IsListed (record { tick = tick; row = row_in from wires events tick })
unfolding row_in
listed from wires events tick one most = record {
  from_one = one;
  within = most;
  vehicles = list_of-below 64 (input_on from wires events tick Vehicle);
  pedestrians = list_of-below 16 (input_on from wires events tick Pedestrian);
  preempts = list_of-below 8 (input_on from wires events tick Preempt);
}

-- ## The laws

pub logs : AreLogs
logs from wires events fits = at (form_of_wires wires) refl fits
  where
    rises : Rises 0 (rows_of (row_in from wires events))
    rises = rising (row_in from wires events) all_off 1 6000000 0 (omega arith)

    at : (form : RowForm) → form_of_wires wires ≡ form → length (text_in form (rows_of (row_in from wires events))) ≤ 67108864
        → log_of (text_in form (rows_of (row_in from wires events))) ≡ Ok (rows_of (row_in from wires events))
    at Digits is small =
        text-read (rows_of (row_in from wires events)) (are-rows (row_in from wires events) all_off 1 6000000 (λ t. fit from wires events t is) (omega arith) (omega arith)) rises small
    at Lists is small =
        lists-read (rows_of (row_in from wires events)) (are-listed (row_in from wires events) all_off 1 6000000 (listed from wires events) (omega arith) (omega arith)) rises small

pub long : AreLong
long from wires events is =
    ap (λ (form : RowForm). length (text_in form (rows_of (row_in from wires events)))) is ∙ text-length (rows_of (row_in from wires events))

short-in : (form : RowForm) (rows : List LogRow) → length (text_in form rows) ≤ 200 * length rows
short-in Digits rows = let all : length (log_text rows) ≡ 39 * length rows = text-length rows in omega (arith, all)
short-in Lists rows = lists-length rows

pub short : AreShort
short from wires events = short-in (form_of_wires wires) (rows_of (row_in from wires events))

pub force : AreInForce
force from wires events tick one most = in-force (row_in from wires events) all_off 1 6000000 tick one (omega (arith, most))

pub inputs : AreTheInputs
unfolding row_in
inputs from wires events tick number one = (
  λ most. names-list_of 64 number (input_on from wires events tick Vehicle) one most,
  λ most. names-list_of 16 number (input_on from wires events tick Pedestrian) one most,
  λ most. names-list_of 8 number (input_on from wires events tick Preempt) one most,
)
