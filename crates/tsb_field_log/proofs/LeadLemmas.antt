-- What is kept of each wire says what is on in the present tick.
use Rattle.std.proofs.Common.{◌≡◌, ℕ, ◌+◌, ◌^◌, ◌<◌, ◌≤◌, Bool, true, false, ◌&&◌, ◌||◌, ◌==◌, leb, ltb, zero, length, get_or, drop, add-one, suc, List, [], ◌∷◌, ◌++◌, map, refl, sym, ap, ◌∙◌, arith, inl, inr, if◌then◌else◌}
use Rattle.std.proofs.lemmas.Bool.{le-leb, lt-ltb, and_left, and_right}
use Rattle.std.proofs.lemmas.Bool.Decides.{leb_tells}
use Rattle.std.proofs.lemmas.List.{drop_all}
use Rattle.std.proofs.Math.Bool.{and-true}
use Rattle.std.proofs.Math.Seq.{drop-cons}
use Rattle.tsb_types.specs.Sets.{has_detector, has_number, list_of, names, set_of_detectors, set_of_list}
use Rattle.tsb_types.specs.declared.row.Row.{Row}
use Rattle.tsb_types.specs.declared.detector_set.DetectorSet.{DetectorSet}
use Rattle.tsb_types.specs.declared.number_set.NumberSet.{NumberSet}
use Rattle.tsb_types.proofs.SetLemmas.{same-list_of, same_detectors, same_numbers, names-list_of, names-above, list_of-below}
use Rattle.tsb_field_log.specs.declared.inputs.InputKind.{InputKind}
use Rattle.tsb_field_log.specs.declared.inputs.InputKind.TheVariants.{Vehicle, Pedestrian, Preempt}
use Rattle.tsb_field_log.specs.declared.inputs.Wire.{Wire}
use Rattle.tsb_field_log.specs.declared.inputs.InputEvent.{InputEvent}
use Rattle.tsb_field_log.specs.declared.leads.Lead.{Lead}
use Rattle.tsb_field_log.specs.Inputs.{is_of, is_same_kind, on_at, switched_on}
use Rattle.tsb_field_log.specs.Ticks.{begin_of, is_on_in, input_on, row_in}
use Rattle.tsb_field_log.specs.Leads.{on_after, lead_of, lead_taken, lead_opened, lead_on, row_of_leads}
use Rattle.tsb_field_log.specs.Wires.{has_input, is_input, leads_to}
use Rattle.tsb_field_log.specs.Streets.{AreBefore}

-- ## One more event

after-push : (b : Bool) (wire : Wire) (es : List InputEvent) (e : InputEvent) → on_after b wire (es ++ e ∷ []) ≡ (if is_of wire e then e.on else on_after b wire es)
after-push b wire [] e = refl
after-push b wire (x ∷ es) e = after-push (if is_of wire x then x.on else b) wire es e

at-push : (b : Bool) (wire : Wire) (m : ℕ) (es : List InputEvent) (e : InputEvent) → on_at b wire m (es ++ e ∷ []) ≡ (if is_of wire e && leb e.nanos m then e.on else on_at b wire m es)
at-push b wire m [] e = refl
at-push b wire m (x ∷ es) e = at-push (if is_of wire x && leb x.nanos m then x.on else b) wire m es e

or-assoc : (x y z : Bool) → (x || (y || z)) ≡ ((x || y) || z)
or-assoc true y z = refl
or-assoc false y z = refl

or-false : (x : Bool) → (x || false) ≡ x
or-false true = refl
or-false false = refl

switched-push : (wire : Wire) (lo hi : ℕ) (es : List InputEvent) (e : InputEvent) → switched_on wire lo hi (es ++ e ∷ []) ≡ (switched_on wire lo hi es || (is_of wire e && e.on && leb lo e.nanos && ltb e.nanos hi))
switched-push wire lo hi [] e = or-false (is_of wire e && e.on && leb lo e.nanos && ltb e.nanos hi)
switched-push wire lo hi (x ∷ es) e =
    ap (λ (s : Bool). (is_of wire x && x.on && leb lo x.nanos && ltb x.nanos hi) || s) (switched-push wire lo hi es e)
    ∙ or-assoc (is_of wire x && x.on && leb lo x.nanos && ltb x.nanos hi) (switched_on wire lo hi es) (is_of wire e && e.on && leb lo e.nanos && ltb e.nanos hi)

abbrev kept : Wire → Bool → Bool → Bool → Lead
kept wire on begun raised = record { wire = wire; on = on; begun = begun; raised = raised }

-- an event of the tick
lead-push : (from tick : ℕ) (es : List InputEvent) (e : InputEvent) (wire : Wire) → e.nanos < begin_of from (tick + 1)
    → lead_of from tick (es ++ e ∷ []) wire ≡ lead_taken e (leb e.nanos (begin_of from tick)) (leb (begin_of from tick) e.nanos) (lead_of from tick es wire)
lead-push from tick es e wire lt =
    let within : ltb e.nanos (begin_of from (tick + 1)) ≡ true = lt-ltb e.nanos (begin_of from (tick + 1)) lt in
    let raised : switched_on wire (begin_of from tick) (begin_of from (tick + 1)) (es ++ e ∷ []) ≡ (switched_on wire (begin_of from tick) (begin_of from (tick + 1)) es || (is_of wire e && e.on && leb (begin_of from tick) e.nanos)) =
    switched-push wire (begin_of from tick) (begin_of from (tick + 1)) es e
    ∙ ap (λ (b : Bool). switched_on wire (begin_of from tick) (begin_of from (tick + 1)) es || (is_of wire e && e.on && leb (begin_of from tick) e.nanos && b)) within
    ∙ ap (λ (b : Bool). switched_on wire (begin_of from tick) (begin_of from (tick + 1)) es || b) (and-true (is_of wire e && e.on && leb (begin_of from tick) e.nanos)) in
    ap (λ (b : Bool). kept wire b (on_at false wire (begin_of from tick) (es ++ e ∷ [])) (switched_on wire (begin_of from tick) (begin_of from (tick + 1)) (es ++ e ∷ []))) (after-push false wire es e)
    ∙ ap (λ (b : Bool). kept wire (if is_of wire e then e.on else on_after false wire es) b (switched_on wire (begin_of from tick) (begin_of from (tick + 1)) (es ++ e ∷ []))) (at-push false wire (begin_of from tick) es e)
    ∙ ap (λ (b : Bool). kept wire (if is_of wire e then e.on else on_after false wire es) (if is_of wire e && leb e.nanos (begin_of from tick) then e.on else on_at false wire (begin_of from tick) es) b) raised

pub leads-push : (from tick : ℕ) (es : List InputEvent) (e : InputEvent) (wires : List Wire) → e.nanos < begin_of from (tick + 1)
    → map (lead_of from tick (es ++ e ∷ [])) wires ≡ map (lead_taken e (leb e.nanos (begin_of from tick)) (leb (begin_of from tick) e.nanos)) (map (lead_of from tick es) wires)
leads-push from tick es e [] lt = refl
leads-push from tick es e (w ∷ ws) lt =
    ap (λ (l : Lead). l ∷ map (lead_of from tick (es ++ e ∷ [])) ws) (lead-push from tick es e w lt)
    ∙ ap (λ (ls : List Lead). lead_taken e (leb e.nanos (begin_of from tick)) (leb (begin_of from tick) e.nanos) (lead_of from tick es w) ∷ ls) (leads-push from tick es e ws lt)

-- an event after a tick changes nothing of it
untouched-wire : (from tick : ℕ) (es : List InputEvent) (e : InputEvent) (wire : Wire) → begin_of from (tick + 1) ≤ e.nanos → begin_of from tick < e.nanos → is_on_in from wire tick (es ++ e ∷ []) ≡ is_on_in from wire tick es
untouched-wire from tick es e wire le lt =
    let early : leb e.nanos (begin_of from tick) ≡ false = elim (leb_tells e.nanos (begin_of from tick)) [ inl z ↦ absurd (let no : e.nanos ≤ begin_of from tick = z.1 in omega (arith, no, lt)) | inr z ↦ z.0 ] in
    let within : ltb e.nanos (begin_of from (tick + 1)) ≡ false = elim (leb_tells (suc e.nanos) (begin_of from (tick + 1))) [ inl z ↦ absurd (let no : e.nanos < begin_of from (tick + 1) = z.1 in omega (arith, no, le)) | inr z ↦ z.0 ] in
    let begun : on_at false wire (begin_of from tick) (es ++ e ∷ []) ≡ on_at false wire (begin_of from tick) es =
    at-push false wire (begin_of from tick) es e
    ∙ ap (λ (b : Bool). if is_of wire e && b then e.on else on_at false wire (begin_of from tick) es) early
    ∙ ap (λ (b : Bool). if b then e.on else on_at false wire (begin_of from tick) es) (and_right (is_of wire e) false refl) in
    let raised : switched_on wire (begin_of from tick) (begin_of from (tick + 1)) (es ++ e ∷ []) ≡ switched_on wire (begin_of from tick) (begin_of from (tick + 1)) es =
    switched-push wire (begin_of from tick) (begin_of from (tick + 1)) es e
    ∙ ap (λ (b : Bool). switched_on wire (begin_of from tick) (begin_of from (tick + 1)) es || (is_of wire e && e.on && leb (begin_of from tick) e.nanos && b)) within
    ∙ ap (λ (b : Bool). switched_on wire (begin_of from tick) (begin_of from (tick + 1)) es || b) (and_right (is_of wire e && e.on && leb (begin_of from tick) e.nanos) false refl)
    ∙ or-false (switched_on wire (begin_of from tick) (begin_of from (tick + 1)) es) in
    ap (λ (b : Bool). b || switched_on wire (begin_of from tick) (begin_of from (tick + 1)) (es ++ e ∷ [])) begun
    ∙ ap (λ (b : Bool). on_at false wire (begin_of from tick) es || b) raised

untouched-input : (from tick : ℕ) (es : List InputEvent) (e : InputEvent) (wires : List Wire) (kind : InputKind) (number : ℕ) → begin_of from (tick + 1) ≤ e.nanos → begin_of from tick < e.nanos
    → input_on from wires (es ++ e ∷ []) tick kind number ≡ input_on from wires es tick kind number
untouched-input from tick es e [] kind number le lt = refl
untouched-input from tick es e (w ∷ ws) kind number le lt =
    ap (λ (b : Bool). (is_same_kind w.kind kind && w.input == number && b) || input_on from ws (es ++ e ∷ []) tick kind number) (untouched-wire from tick es e w le lt)
    ∙ ap (λ (b : Bool). (is_same_kind w.kind kind && w.input == number && is_on_in from w tick es) || b) (untouched-input from tick es e ws kind number le lt)

abbrev row_with : DetectorSet → NumberSet → NumberSet → Row
row_with v p n = record { vehicles = v; pedestrians = p; preempts = n }

-- rows of the same inputs are one
lists-row : (a b : InputKind → ℕ → Bool) → ((kind : InputKind) (number : ℕ) → a kind number ≡ b kind number)
    → row_with (set_of_detectors (list_of 64 (a Vehicle))) (set_of_list (list_of 16 (a Pedestrian))) (set_of_list (list_of 8 (a Preempt)))
    ≡ row_with (set_of_detectors (list_of 64 (b Vehicle))) (set_of_list (list_of 16 (b Pedestrian))) (set_of_list (list_of 8 (b Preempt)))
lists-row a b same =
    ap (λ (k : ℕ). row_with (set_of_detectors k) (set_of_list (list_of 16 (a Pedestrian))) (set_of_list (list_of 8 (a Preempt)))) (same-list_of 64 (a Vehicle) (b Vehicle) (λ p one most. same Vehicle p))
    ∙ ap (λ (k : ℕ). row_with (set_of_detectors (list_of 64 (b Vehicle))) (set_of_list k) (set_of_list (list_of 8 (a Preempt)))) (same-list_of 16 (a Pedestrian) (b Pedestrian) (λ p one most. same Pedestrian p))
    ∙ ap (λ (k : ℕ). row_with (set_of_detectors (list_of 64 (b Vehicle))) (set_of_list (list_of 16 (b Pedestrian))) (set_of_list k)) (same-list_of 8 (a Preempt) (b Preempt) (λ p one most. same Preempt p))

pub untouched : (from tick : ℕ) (es : List InputEvent) (e : InputEvent) (wires : List Wire) → 1 ≤ tick → begin_of from (tick + 1) ≤ e.nanos → row_in from wires (es ++ e ∷ []) tick ≡ row_in from wires es tick
unfolding row_in
untouched from tick es e wires one le =
    lists-row (input_on from wires (es ++ e ∷ []) tick) (input_on from wires es tick)
    (λ kind number. untouched-input from tick es e wires kind number le (omega (arith, one, le)))

-- ## A later tick

at-after : (b : Bool) (wire : Wire) (m : ℕ) (es : List InputEvent) → AreBefore m es → on_at b wire m es ≡ on_after b wire es
at-after b wire m [] before = refl
at-after b wire m (e ∷ es) before =
    let lt : e.nanos < m = before.0 in
    let le : leb e.nanos m ≡ true = le-leb e.nanos m (omega (arith, lt)) in
    ap (λ (c : Bool). on_at (if c then e.on else b) wire m es) (ap (λ (c : Bool). is_of wire e && c) le ∙ and-true (is_of wire e)) ∙ at-after (if is_of wire e then e.on else b) wire m es before.1

switched-before : (wire : Wire) (lo hi : ℕ) (es : List InputEvent) → AreBefore lo es → switched_on wire lo hi es ≡ false
switched-before wire lo hi [] before = refl
switched-before wire lo hi (e ∷ es) before =
    let lt : e.nanos < lo = before.0 in
    let no : leb lo e.nanos ≡ false = elim (leb_tells lo e.nanos) [ inl z ↦ absurd (let le : lo ≤ e.nanos = z.1 in omega (arith, le, lt)) | inr z ↦ z.0 ] in
    ap (λ (c : Bool). (is_of wire e && e.on && c && ltb e.nanos hi) || switched_on wire lo hi es) no
    ∙ ap (λ (c : Bool). c || switched_on wire lo hi es) (and_left (is_of wire e && e.on && false) (ltb e.nanos hi) (and_right (is_of wire e && e.on) false refl)) ∙ switched-before wire lo hi es before.1

lead-opened : (from tick to : ℕ) (es : List InputEvent) (wire : Wire) → AreBefore (begin_of from to) es → lead_of from to es wire ≡ lead_opened (lead_of from tick es wire)
lead-opened from tick to es wire before =
    ap (λ (b : Bool). kept wire (on_after false wire es) b (switched_on wire (begin_of from to) (begin_of from (to + 1)) es)) (at-after false wire (begin_of from to) es before)
    ∙ ap (λ (b : Bool). kept wire (on_after false wire es) (on_after false wire es) b) (switched-before wire (begin_of from to) (begin_of from (to + 1)) es before)

pub leads-opened : (from tick to : ℕ) (es : List InputEvent) (wires : List Wire) → AreBefore (begin_of from to) es → map (lead_of from to es) wires ≡ map lead_opened (map (lead_of from tick es) wires)
leads-opened from tick to es [] before = refl
leads-opened from tick to es (w ∷ ws) before =
    ap (λ (l : Lead). l ∷ map (lead_of from to es) ws) (lead-opened from tick to es w before)
    ∙ ap (λ (ls : List Lead). lead_opened (lead_of from tick es w) ∷ ls) (leads-opened from tick to es ws before)

-- ## Rows

lead-input : (from tick : ℕ) (es : List InputEvent) (wires : List Wire) (kind : InputKind) (number : ℕ) → lead_on (map (lead_of from tick es) wires) kind number ≡ input_on from wires es tick kind number
lead-input from tick es [] kind number = refl
lead-input from tick es (w ∷ ws) kind number =
    ap (λ (b : Bool). (is_same_kind w.kind kind && w.input == number && is_on_in from w tick es) || b) (lead-input from tick es ws kind number)

-- the leads of a tick tell its row
pub row-leads : (from tick : ℕ) (es : List InputEvent) (wires : List Wire) → row_of_leads (map (lead_of from tick es) wires) ≡ row_in from wires es tick
unfolding row_of_leads row_in
row-leads from tick es wires = lists-row (lead_on (map (lead_of from tick es) wires)) (input_on from wires es tick) (λ kind number. lead-input from tick es wires kind number)

-- ## Inputs that a bench has

-- a wire that is on, and those after it
pub step-on : (h x r k : Bool) → ((h || x && k) || r && k) ≡ (h || ((x && true) || r) && k)
step-on true x r k = refl
step-on false true r true = refl
step-on false true true false = refl
step-on false true false false = refl
step-on false false r k = refl

-- one that is off
pub step-off : (h x r k : Bool) → (h || r && k) ≡ (h || ((x && false) || r) && k)
step-off h true r k = refl
step-off h false r k = refl

-- the wire at a place, and those after it
lead-more : (ls : List Lead) (i : ℕ) (d : Lead) (kind : InputKind) (number : ℕ) → i < length ls
    → lead_on (drop i ls) kind number ≡ ((leads_to (get_or ls i d).wire kind number && ((get_or ls i d).begun || (get_or ls i d).raised)) || lead_on (drop (i + 1) ls) kind number)
lead-more ls i d kind number lt = rw (add-one i) (ap (λ (v : List Lead). lead_on v kind number) (drop-cons ls i d lt))

-- the row so far, with the wire at a place where that is on
pub row-on : (ls : List Lead) (i : ℕ) (d : Lead) (row now : Row) (kind : InputKind) (number : ℕ) → i < length ls → ((get_or ls i d).begun || (get_or ls i d).raised) ≡ true
    → has_input now kind number ≡ (has_input row kind number || leads_to (get_or ls i d).wire kind number && is_input kind number)
    → (has_input row kind number || lead_on (drop i ls) kind number && is_input kind number) ≡ (lead_on ls kind number && is_input kind number)
    → (has_input now kind number || lead_on (drop (i + 1) ls) kind number && is_input kind number) ≡ (lead_on ls kind number && is_input kind number)
row-on ls i d row now kind number lt on has was =
    ap (λ (b : Bool). b || lead_on (drop (i + 1) ls) kind number && is_input kind number) has
    ∙ step-on (has_input row kind number) (leads_to (get_or ls i d).wire kind number) (lead_on (drop (i + 1) ls) kind number) (is_input kind number)
    ∙ ap (λ (b : Bool). has_input row kind number || ((leads_to (get_or ls i d).wire kind number && b) || lead_on (drop (i + 1) ls) kind number) && is_input kind number) (sym on)
    ∙ ap (λ (b : Bool). has_input row kind number || b && is_input kind number) (sym (lead-more ls i d kind number lt)) ∙ was

pub row-off : (ls : List Lead) (i : ℕ) (d : Lead) (row : Row) (kind : InputKind) (number : ℕ) → i < length ls → ((get_or ls i d).begun || (get_or ls i d).raised) ≡ false
    → (has_input row kind number || lead_on (drop i ls) kind number && is_input kind number) ≡ (lead_on ls kind number && is_input kind number)
    → (has_input row kind number || lead_on (drop (i + 1) ls) kind number && is_input kind number) ≡ (lead_on ls kind number && is_input kind number)
row-off ls i d row kind number lt off was =
    step-off (has_input row kind number) (leads_to (get_or ls i d).wire kind number) (lead_on (drop (i + 1) ls) kind number) (is_input kind number)
    ∙ ap (λ (b : Bool). has_input row kind number || ((leads_to (get_or ls i d).wire kind number && b) || lead_on (drop (i + 1) ls) kind number) && is_input kind number) (sym off)
    ∙ ap (λ (b : Bool). has_input row kind number || b && is_input kind number) (sym (lead-more ls i d kind number lt)) ∙ was

-- where all were looked at
pub row-all : (ls : List Lead) (i : ℕ) (row : Row) (kind : InputKind) (number : ℕ) → length ls ≤ i → (has_input row kind number || lead_on (drop i ls) kind number && is_input kind number) ≡ (lead_on ls kind number && is_input kind number)
    → has_input row kind number ≡ (lead_on ls kind number && is_input kind number)
row-all ls i row kind number le was =
    sym (or-false (has_input row kind number)) ∙ ap (λ (v : List Lead). has_input row kind number || lead_on v kind number && is_input kind number) (sym (drop_all i ls le)) ∙ was

-- the numbers of a list are those that pass the test
list-has : (count list : ℕ) (test : ℕ → Bool) → ((n : ℕ) → names list n ≡ (test n && (leb 1 n && leb n count))) → (n : ℕ) → names list n ≡ names (list_of count test) n
list-has count list test same zero = refl
list-has count list test same (suc k) = elim (leb_tells (suc k) count) [
  | inl z ↦
      let one : leb 1 (suc k) ≡ true = le-leb 1 (suc k) (omega arith) in
      same (suc k) ∙ ap (λ (b : Bool). test (suc k) && (b && leb (suc k) count)) one ∙ ap (λ (b : Bool). test (suc k) && b) z.0 ∙ and-true (test (suc k))
      ∙ sym (names-list_of count (suc k) test (omega arith) z.1)
  | inr z ↦
      let one : leb 1 (suc k) ≡ true = le-leb 1 (suc k) (omega arith) in
      same (suc k) ∙ ap (λ (b : Bool). test (suc k) && (b && leb (suc k) count)) one ∙ ap (λ (b : Bool). test (suc k) && b) z.0 ∙ and_right (test (suc k)) false refl
      ∙ sym (names-above count (suc k) (list_of count test) (list_of-below count test) z.1)
]

-- the set that has these inputs
set-is : (count : ℕ) (set : NumberSet) (test : ℕ → Bool) → set.word < 2 ^ 16 → list_of count test < 2 ^ 16 → ((n : ℕ) → has_number set n ≡ (test n && (leb 1 n && leb n count))) → set ≡ set_of_list (list_of count test)
set-is count set test fits small same = same_numbers set (set_of_list (list_of count test)) fits small (list-has count set.word test same)

detectors-are : (set : DetectorSet) (test : ℕ → Bool) → set.word < 2 ^ 64 → ((n : ℕ) → has_detector set n ≡ (test n && (leb 1 n && leb n 64))) → set ≡ set_of_detectors (list_of 64 test)
detectors-are set test fits same = same_detectors set (set_of_detectors (list_of 64 test)) fits (list_of-below 64 test) (list-has 64 set.word test same)

-- the row that has the inputs that are on
pub row-is : (row : Row) (ls : List Lead) → row.vehicles.word < 2 ^ 64 → row.pedestrians.word < 2 ^ 16 → row.preempts.word < 2 ^ 16
    → ((kind : InputKind) (number : ℕ) → has_input row kind number ≡ (lead_on ls kind number && is_input kind number)) → row ≡ row_of_leads ls
unfolding row_of_leads
row-is row ls fv fp fn same =
    let few : list_of 8 (lead_on ls Preempt) < 2 ^ 8 = list_of-below 8 (lead_on ls Preempt) in
    let ev : row.vehicles ≡ set_of_detectors (list_of 64 (lead_on ls Vehicle)) = detectors-are row.vehicles (lead_on ls Vehicle) fv (λ n. same Vehicle n) in
    let ep : row.pedestrians ≡ set_of_list (list_of 16 (lead_on ls Pedestrian)) = set-is 16 row.pedestrians (lead_on ls Pedestrian) fp (list_of-below 16 (lead_on ls Pedestrian)) (λ n. same Pedestrian n) in
    let en : row.preempts ≡ set_of_list (list_of 8 (lead_on ls Preempt)) = set-is 8 row.preempts (lead_on ls Preempt) fn (omega (arith, few)) (λ n. same Preempt n) in
    ap (λ (s : DetectorSet). row_with s row.pedestrians row.preempts) ev ∙ ap (λ (s : NumberSet). row_with (set_of_detectors (list_of 64 (lead_on ls Vehicle))) s row.preempts) ep
    ∙ ap (λ (s : NumberSet). row_with (set_of_detectors (list_of 64 (lead_on ls Vehicle))) (set_of_list (list_of 16 (lead_on ls Pedestrian))) s) en
