-- Lists of values, one after another.
use Rattle.std.proofs.Common.{◌≡◌, ◌∙◌, ℕ, zero, suc, ◌+◌, ◌-◌, ◌<◌, ◌≤◌, Bool, true, false, List, [], ◌∷◌, ◌++◌, append_assoc, length, length-append, decimal, subst, nat_lt, inl, inr, refl, sym, ap, arith, Option, Some, None, if◌then◌else◌, rules}
use Rattle.std.proofs.lemmas.Bool.{cases_lt, lt-ltb, le-ltb}
use Rattle.std.proofs.lemmas.Option.{cond_some, same_Some}
use Rattle.std.specs.List.{list_all}
use Rattle.tsb_step.specs.declared.status.PreemptState.{PreemptState}
use Rattle.tsb_types.specs.declared.limits.TheConstants.{PREEMPTS, VEHICLE_DETECTORS}
use Rattle.tsb_types.specs.Lists.{run_from}
use Rattle.tsb_status_text.specs.Json.{array, more, closed, following, string, values_from, onto, comma, number_in, numbers}
use Rattle.tsb_status_text.specs.Names.{preempt_name}
use Rattle.tsb_status_text.specs.StatusText.{is_not_active, preempts_text, state_text}
use Rattle.tsb_lines.specs.ShortLines.{AddsShort, fitting}
use Rattle.tsb_lines.proofs.ShortLemmas.{onto-fitting}
use Rattle.tsb_status_text.specs.declared.line.TheConstants.{LONGEST}
use Rattle.tsb_status_text.proofs.RoomLemmas.{one-digit, two-digits}

-- a number that has no value
passes : (value : ℕ → Option (List ℕ)) (first : Bool) (a n close : ℕ) → value a ≡ None →
    following first (values_from value a (suc n)) close ≡ following first (values_from value (a + 1) n) close
unfolding values_from
passes value first a n close none = rw none refl

-- one that has: the comma, the value, and what follows it
stands : (value : ℕ → Option (List ℕ)) (first : Bool) (a n close : ℕ) (v : List ℕ) → value a ≡ Some v →
    following first (values_from value a (suc n)) close ≡ comma first ++ (v ++ following false (values_from value (a + 1) n) close)
unfolding values_from
stands value true a n close v is = rw is refl
stands value false a n close v is = rw is refl

-- after the last number
ends : (value : ℕ → Option (List ℕ)) (first : Bool) (a close : ℕ) → following first (values_from value a 0) close ≡ close ∷ []
unfolding values_from
ends value true a close = refl
ends value false a close = refl

-- the start of a loop: what opens the list is added
pub step-begin : (value : ℕ → Option (List ℕ)) (a b n m byte close : ℕ) (line new : List ℕ) → b ≡ a → m ≡ n → new ≡ fitting LONGEST (line ++ byte ∷ []) →
    fitting LONGEST (new ++ following true (values_from value b m) close) ≡ fitting LONGEST (line ++ byte ∷ closed (values_from value a n) close)
step-begin value a b n m byte close line new same all opens =
    let rest : List ℕ = closed (values_from value a n) close in
    rw (same, all) (ap (λ (ts : List ℕ). fitting LONGEST (ts ++ rest)) opens ∙ onto-fitting LONGEST (line ++ byte ∷ []) rest ∙ ap (fitting LONGEST) (append_assoc line (byte ∷ []) rest))

-- a step of a loop over a number with no value
pub step-over : (value : ℕ → Option (List ℕ)) (first : Bool) (a b n m close : ℕ) (line all : List ℕ) → b ≡ a + 1 → n ≡ suc m → value a ≡ None →
    fitting LONGEST (line ++ following first (values_from value a n) close) ≡ all →
    fitting LONGEST (line ++ following first (values_from value b m) close) ≡ all
step-over value first a b n m close line all next fewer none so =
    rw next
    (ap (λ (ts : List ℕ). fitting LONGEST (line ++ ts)) (sym (passes value first a m close none))
    ∙ ap (λ (k : ℕ). fitting LONGEST (line ++ following first (values_from value a k) close)) (sym fewer) ∙ so)

-- a step over one that has a value, which is added
pub step-on : {most : ℕ} (value : ℕ → Option (List ℕ)) (first : Bool) (a b n m close : ℕ) (v line with_comma with_value all : List ℕ) →
    b ≡ a + 1 → n ≡ suc m → value a ≡ Some v → AddsShort LONGEST 1 line (comma first) with_comma → AddsShort LONGEST most with_comma v with_value →
    fitting LONGEST (line ++ following first (values_from value a n) close) ≡ all →
    fitting LONGEST (with_value ++ following false (values_from value b m) close) ≡ all
step-on value first a b n m close v line with_comma with_value all next fewer is comma_in value_in so =
    let rest : List ℕ = following false (values_from value (a + 1) m) close in
    rw next
    (ap (λ (ts : List ℕ). fitting LONGEST (ts ++ rest)) value_in.line.line
    ∙ onto-fitting LONGEST (with_comma ++ v) rest
    ∙ ap (fitting LONGEST) (append_assoc with_comma v rest)
    ∙ ap (λ (ts : List ℕ). fitting LONGEST (ts ++ (v ++ rest))) comma_in.line.line
    ∙ onto-fitting LONGEST (line ++ comma first) (v ++ rest)
    ∙ ap (fitting LONGEST) (append_assoc line (comma first) (v ++ rest))
    ∙ ap (λ (ts : List ℕ). fitting LONGEST (line ++ ts)) (sym (stands value first a m close v is))
    ∙ ap (λ (k : ℕ). fitting LONGEST (line ++ following first (values_from value a k) close)) (sym fewer)
    ∙ so)

-- the end of a loop: what closes the list is added
pub step-end : (value : ℕ → Option (List ℕ)) (first : Bool) (a n close : ℕ) (line new all : List ℕ) → n ≡ 0 → new ≡ fitting LONGEST (line ++ close ∷ []) →
    fitting LONGEST (line ++ following first (values_from value a n) close) ≡ all → new ≡ all
step-end value first a n close line new all none closes so =
    closes
    ∙ ap (λ (ts : List ℕ). fitting LONGEST (line ++ ts)) (sym (ends value first a close))
    ∙ ap (λ (k : ℕ). fitting LONGEST (line ++ following first (values_from value a k) close)) (sym none)
    ∙ so

-- ## How long they are

-- room for the rest of a list: a comma and a value for each number, and what closes it
abbrev pub room_from : (ℕ → ℕ) → ℕ → ℕ → ℕ
room_from room a zero = 1
room_from room a (suc n) = 1 + room a + room_from room (a + 1) n

-- each value has its room
pub record HaveRoom (value : ℕ → Option (List ℕ)) (room : ℕ → ℕ) (a n : ℕ) : Type 0 where
  pub each : (p : ℕ) (v : List ℕ) → a ≤ p → p < a + n → value p ≡ Some v → length v ≤ room p

later : (value : ℕ → Option (List ℕ)) (room : ℕ → ℕ) (a n : ℕ) → HaveRoom value room a (suc n) → HaveRoom value room (a + 1) n
later value room a n have = record { each = λ p v from below is. have.each p v (omega (arith, from)) (omega (arith, below)) is }

more-here : (o : Option (List ℕ)) (vs : List (List ℕ)) (close here rest : ℕ) → ((v : List ℕ) → o ≡ Some v → length v ≤ here) → length (more vs close) ≤ rest → length (more (onto o vs) close) ≤ 1 + here + rest
more-here None vs close here rest each le = omega (arith, le)
more-here (Some v) vs close here rest each le =
    let fits : length v ≤ here = each v refl in
    let both : length (44 ∷ v ++ more vs close) ≡ 1 + (length v + length (more vs close)) = ap suc (length-append v (more vs close)) ∙ omega arith in
    omega (arith, fits, both, le)

more-short : (value : ℕ → Option (List ℕ)) (room : ℕ → ℕ) (a n close : ℕ) → HaveRoom value room a n → length (more (values_from value a n) close) ≤ room_from room a n
unfolding values_from
more-short value room a zero close have = let one : length (close ∷ []) ≤ 1 = omega arith in one
more-short value room a (suc n) close have =
    more-here (value a) (values_from value (a + 1) n) close (room a) (room_from room (a + 1) n) (λ v is. have.each a v (omega arith) (omega arith) is)
    (more-short value room (a + 1) n close (later value room a n have))

closed-here : (o : Option (List ℕ)) (vs : List (List ℕ)) (close here rest : ℕ) → ((v : List ℕ) → o ≡ Some v → length v ≤ here) → length (more vs close) ≤ rest → length (closed vs close) + 1 ≤ 1 + here + rest →
    length (closed (onto o vs) close) + 1 ≤ 1 + here + rest
closed-here None vs close here rest each le none = none
closed-here (Some v) vs close here rest each le none =
    let fits : length v ≤ here = each v refl in
    let both : length (v ++ more vs close) ≡ length v + length (more vs close) = length-append v (more vs close) in
    omega (arith, fits, both, le)

-- the list itself, which has no comma before its first value
pub closed-short : (value : ℕ → Option (List ℕ)) (room : ℕ → ℕ) (a n close : ℕ) → HaveRoom value room a (suc n) → length (closed (values_from value a (suc n)) close) + 1 ≤ room_from room a (suc n)
unfolding values_from
closed-short value room a zero close have =
    closed-here (value a) [] close (room a) 1 (λ v is. have.each a v (omega arith) (omega arith) is) (omega arith) (omega arith)
closed-short value room a (suc n) close have =
    let below = closed-short value room (a + 1) n close (later value room a (suc n) have) in
    closed-here (value a) (values_from value (a + 1) (suc n)) close (room a) (room_from room (a + 1) (suc n)) (λ v is. have.each a v (omega arith) (omega arith) is)
    (more-short value room (a + 1) (suc n) close (later value room a (suc n) have))
    (omega (arith, below))

-- ## Lists of numbers

-- the digits of a number of at most two
abbrev pub digit_room : ℕ → ℕ
digit_room p = if nat_lt p 10 then 1 else 2

pub digits-fit : (p : ℕ) → p < 100 → length (decimal p) ≤ digit_room p
digits-fit p lt = elim (cases_lt p 10) [
  | inl few ↦ let is : nat_lt p 10 ≡ true = lt-ltb p 10 few in rw is (one-digit p few)
  | inr many ↦ let is : nat_lt p 10 ≡ false = le-ltb p 10 many in rw is (two-digits p lt)
]

number-fits : (set : ℕ → Bool) (p : ℕ) (v : List ℕ) → p < 100 → number_in set p ≡ Some v → length v ≤ digit_room p
number-fits set p v lt is = subst (λ (ds : List ℕ). length ds ≤ digit_room p) (cond_some (set p) (decimal p) v is).1 (digits-fit p lt)

have-digits : (set : ℕ → Bool) (n : ℕ) → n < 99 → HaveRoom (number_in set) digit_room 1 n
have-digits set n lt = record { each = λ p v from below is. number-fits set p v (omega (arith, below, lt)) is }

of-sixteen : room_from digit_room 1 16 ≡ 40
of-sixteen = refl

of-detectors : room_from digit_room 1 VEHICLE_DETECTORS ≡ 184
of-detectors = refl

-- those of phases and of overlaps
pub sixteen : {old new : List ℕ} (set : ℕ → Bool) → {most : ℕ} → AddsShort LONGEST most old (numbers set 16) new → AddsShort LONGEST 40 old (numbers set 16) new
unfolding numbers
sixteen set adds =
    let short = closed-short (number_in set) digit_room 1 15 93 (have-digits set 16 (omega arith)) in
    record { line = adds.line; short = omega (arith, short, of-sixteen) }

-- and those of vehicle detectors
pub all-detectors : {old new : List ℕ} (set : ℕ → Bool) → {most : ℕ} → AddsShort LONGEST most old (numbers set VEHICLE_DETECTORS) new → AddsShort LONGEST 184 old (numbers set VEHICLE_DETECTORS) new
unfolding numbers
all-detectors set adds =
    let short = closed-short (number_in set) digit_room 1 63 93 (have-digits set VEHICLE_DETECTORS (omega arith)) in
    record { line = adds.line; short = omega (arith, short, of-detectors) }

-- ## Lists of preempts

name-short : (s : PreemptState) → length (preempt_name s) ≤ 17
name-short s = search rules

have-states : (preempt : ℕ → PreemptState) (n : ℕ) → HaveRoom (state_text preempt) (λ p. 19) 1 n
have-states preempt n = record {
  each = λ p v from below is.
      let name : List ℕ = preempt_name (preempt p) in
      subst (λ (ts : List ℕ). length ts ≤ 19) (same_Some (string name) v is)
      (omega (arith, name-short (preempt p), length-append name (34 ∷ [])));
}

of-eight : room_from (λ p. 19) 1 PREEMPTS ≡ 161
of-eight = refl

of-four : room_from (λ p. 19) 1 4 ≡ 81
of-four = refl

-- the states of the preempts that a line has
pub states-short : (preempt : ℕ → PreemptState) → length (preempts_text preempt) ≤ 161
unfolding preempts_text
states-short preempt = go (list_all (λ n. is_not_active (preempt n)) (run_from 5 (PREEMPTS - 4)))
  where
    go : (b : Bool) → length (array (values_from (state_text preempt) 1 (if b then 4 else PREEMPTS))) ≤ 161
    go true = omega (arith, closed-short (state_text preempt) (λ p. 19) 1 3 93 (have-states preempt 4), of-four)
    go false = omega (arith, closed-short (state_text preempt) (λ p. 19) 1 7 93 (have-states preempt PREEMPTS), of-eight)

-- ## Lists of waits

-- the room of one more value
pub room-for-one : (value : ℕ → Option (List ℕ)) (room : ℕ → ℕ) (k : ℕ) →
    ((p : ℕ) (v : List ℕ) → 1 ≤ p → p < 1 + k → value p ≡ Some v → length v ≤ room p) →
    ((v : List ℕ) → value (k + 1) ≡ Some v → length v ≤ room (k + 1)) →
    (p : ℕ) (v : List ℕ) → 1 ≤ p → p < 1 + (k + 1) → value p ≡ Some v → length v ≤ room p
room-for-one value room k before here p v from below is = elim (cases_lt p (1 + k)) [
  | inl earlier ↦ before p v from earlier is
  | inr last ↦
      let same : p ≡ k + 1 = omega (arith, last, below) in
      rw same (here v (ap value (sym same) ∙ is))
]

of-waits : room_from (λ p. 69 + digit_room p) 1 16 ≡ 1144
of-waits = refl

-- the waits of 16 phases
pub waits-short : (value : ℕ → Option (List ℕ)) →
    ((p : ℕ) (v : List ℕ) → 1 ≤ p → p < 17 → value p ≡ Some v → length v ≤ 69 + length (decimal p)) → length (91 ∷ closed (values_from value 1 16) 93) ≤ 1144
waits-short value each =
    let have : HaveRoom value (λ p. 69 + digit_room p) 1 16 = record {
      each = λ p v from below is.
          let short = each p v from (omega (arith, below)) is in
          let digits = digits-fit p (omega (arith, below)) in
          omega (arith, short, digits);
    } in
    let short = closed-short value (λ p. 69 + digit_room p) 1 15 93 have in
    omega (arith, short, of-waits)
