-- A street from event to event: which rows become known.
use Rattle.std.proofs.Common.{◌≡◌, ℕ, ◌+◌, ◌-◌, ◌/◌, ◌<◌, ◌≤◌, Bool, true, false, if◌then◌else◌, leb, ltb, zero, suc, List, [], ◌∷◌, ◌++◌, map, refl, sym, ap, ◌∙◌, subst, arith, inl, inr, ◌⊎◌, append-nil, None, Option}
use Rattle.std.proofs.lemmas.Bool.{le-leb, lt-ltb, eq-eqb}
use Rattle.std.proofs.lemmas.Bool.Decides.{leb_tells}
use Rattle.std.specs.Prelude.{option_to_list}
use Rattle.tsb_types.specs.Sets.{all_off, is_same_row}
use Rattle.tsb_types.specs.declared.row.Row.{Row}
use Rattle.tsb_log_text.specs.declared.log.LogRow.{LogRow}
use Rattle.tsb_field_log.specs.declared.inputs.Wire.{Wire}
use Rattle.tsb_field_log.specs.declared.inputs.InputEvent.{InputEvent}
use Rattle.tsb_field_log.specs.declared.street.Street.{Street}
use Rattle.tsb_field_log.specs.Ticks.{begin_of, row_in}
use Rattle.tsb_field_log.specs.Changes.{change, changes}
use Rattle.tsb_field_log.specs.Leads.{lead_of, lead_taken, lead_opened, row_of_leads}
use Rattle.tsb_field_log.specs.Streets.{tick_at, AreBefore, row_before, unwritten, Follows, rows_until}
use Rattle.tsb_field_log.proofs.LeadLemmas.{leads-push, leads-opened, row-leads, untouched}

before-later : (m n : ℕ) (es : List InputEvent) → m ≤ n → AreBefore m es → AreBefore n es
before-later m n [] le before = tt
before-later m n (e ∷ es) le before = ((let lt : e.nanos < m = before.0 in omega (arith, lt, le)), before-later m n es le before.1)

before-push : (m : ℕ) (es : List InputEvent) (e : InputEvent) → AreBefore m es → e.nanos < m → AreBefore m (es ++ e ∷ [])
before-push m [] e before lt = (lt, tt)
before-push m (x ∷ es) e before lt = (before.0, before-push m es e before.1 lt)

begins-later : (from tick to : ℕ) → tick ≤ to → begin_of from tick ≤ begin_of from to
begins-later from tick to le = omega (arith, le)

-- ## Rows of ticks in which nothing changes

same-self : (row : Row) → is_same_row row row ≡ true
same-self row = rw (eq-eqb row.vehicles.word row.vehicles.word refl, eq-eqb row.pedestrians.word row.pedestrians.word refl, eq-eqb row.preempts.word row.preempts.word refl) refl

no-change : (inputs : ℕ → Row) (row : Row) (tick count : ℕ) → ((t : ℕ) → tick ≤ t → inputs t ≡ row) → changes inputs row tick count ≡ []
unfolding changes
no-change inputs row tick zero same = refl
no-change inputs row tick (suc count) same =
    let here : inputs tick ≡ row = same tick (omega arith) in
    rw here (rw (same-self row) (no-change inputs row (suc tick) count (λ t le. same t (omega (arith, le)))))

-- where no event fell into a tick or after it, all ticks from it on have its row
still : (from tick t : ℕ) (es : List InputEvent) (wires : List Wire) → tick ≤ t → AreBefore (begin_of from tick) es → row_in from wires es t ≡ row_in from wires es tick
still from tick t es wires le before =
    let later : AreBefore (begin_of from t) es = before-later (begin_of from tick) (begin_of from t) es (begins-later from tick t le) before in
    sym (row-leads from t es wires)
    ∙ ap row_of_leads (leads-opened from tick t es wires later ∙ sym (leads-opened from tick tick es wires before))
    ∙ row-leads from tick es wires

-- the rows of a tick alone, or of those after it too, into which no event fell
pub settled : (from tick to : ℕ) (es : List InputEvent) (wires : List Wire) (before : Row) → tick < to → (to ≡ tick + 1) ⊎ AreBefore (begin_of from tick) es
    → changes (row_in from wires es) before tick (to - tick) ≡ change tick before (row_in from wires es tick)
unfolding changes
settled from tick to es wires before lt (inl next) =
    let one : to - tick ≡ 1 = omega (arith, next) in
    ap (λ (n : ℕ). changes (row_in from wires es) before tick n) one ∙ append-nil (change tick before (row_in from wires es tick))
settled from tick to es wires before lt (inr ended) =
    let more : to - tick ≡ suc (to - tick - 1) = omega (arith, lt) in
    ap (λ (n : ℕ). changes (row_in from wires es) before tick n) more
    ∙ ap (λ (rows : List LogRow). change tick before (row_in from wires es tick) ++ rows)
    (no-change (row_in from wires es) (row_in from wires es tick) (suc tick) (to - tick - 1) (λ t le. still from tick t es wires (omega (arith, le)) ended))
    ∙ append-nil (change tick before (row_in from wires es tick))

-- first the rows of one tick, and then those after it
two-parts : (inputs : ℕ → Row) (before : Row) (tick to : ℕ) → tick < to
    → changes inputs before tick (tick + 1 - tick) ++ changes inputs (inputs tick) (tick + 1) (to - (tick + 1)) ≡ changes inputs before tick (to - tick)
unfolding changes
two-parts inputs before tick to lt =
    let one : tick + 1 - tick ≡ 1 = omega arith in
    let more : to - tick ≡ suc (to - (tick + 1)) = omega (arith, lt) in
    let next : tick + 1 ≡ suc tick = omega arith in
    ap (λ (n : ℕ). changes inputs before tick n ++ changes inputs (inputs tick) (tick + 1) (to - (tick + 1))) one
    ∙ ap (λ (rows : List LogRow). rows ++ changes inputs (inputs tick) (tick + 1) (to - (tick + 1))) (append-nil (change tick before (inputs tick)))
    ∙ ap (λ (t : ℕ). change tick before (inputs tick) ++ changes inputs (inputs tick) t (to - (tick + 1))) next
    ∙ sym (ap (λ (n : ℕ). changes inputs before tick n) more)

-- ## The row before

pub before-first : (inputs : ℕ → Row) (tick : ℕ) → tick ≤ 1 → row_before inputs tick ≡ all_off
before-first inputs tick le = rw (le-leb tick 1 le) refl

pub before-next : (inputs : ℕ → Row) (tick : ℕ) → 1 ≤ tick → row_before inputs (tick + 1) ≡ inputs tick
before-next inputs tick one =
    let no : leb (tick + 1) 1 ≡ false = elim (leb_tells (tick + 1) 1) [ inl z ↦ absurd (let le : tick + 1 ≤ 1 = z.1 in omega (arith, le, one)) | inr z ↦ z.0 ] in
    let same : tick + 1 - 1 ≡ tick = omega arith in
    rw no (ap inputs same)

before-last : (inputs : ℕ → Row) (tick : ℕ) → 1 < tick → row_before inputs tick ≡ inputs (tick - 1)
before-last inputs tick one =
    let no : leb tick 1 ≡ false = elim (leb_tells tick 1) [ inl z ↦ absurd (let le : tick ≤ 1 = z.1 in omega (arith, le, one)) | inr z ↦ z.0 ] in
    rw no refl

-- ## From tick to tick

pub follows-next : (wires : List Wire) (es : List InputEvent) (old new : Street) (next : ℕ) (row : Row) → Follows wires es old → old.tick < next → 1 ≤ old.tick → (next ≡ old.tick + 1) ⊎ AreBefore (begin_of old.from old.tick) es
    → new.leads.items ≡ map lead_opened old.leads.items → new.tick ≡ next → new.from ≡ old.from → new.before ≡ row → row ≡ row_in old.from wires es old.tick → Follows wires es new
follows-next wires es old new next row f lt one how leads tick from before is = record {
  leads =
      leads ∙ ap (map lead_opened) f.leads
      ∙ sym (leads-opened old.from old.tick next es wires (before-later (begin_of old.from (old.tick + 1)) (begin_of old.from next) es (begins-later old.from (old.tick + 1) next (omega (arith, lt))) f.ended))
      ∙ ap (λ (n : ℕ). map (lead_of old.from n es) wires) (sym tick) ∙ ap (λ (n : ℕ). map (lead_of n new.tick es) wires) (sym from);
  ended = before-later (begin_of old.from (old.tick + 1)) (begin_of new.from (new.tick + 1)) es (omega (arith, lt, tick, from)) f.ended;
  before =
      before ∙ is ∙ sym (last how) ∙ ap (λ (n : ℕ). row_before (row_in old.from wires es) n) (sym tick) ∙ ap (λ (n : ℕ). row_before (row_in n wires es) new.tick) (sym from);
}
  where
    last : (next ≡ old.tick + 1) ⊎ AreBefore (begin_of old.from old.tick) es → row_before (row_in old.from wires es) next ≡ row_in old.from wires es old.tick
    last (inl e) = ap (λ (n : ℕ). row_before (row_in old.from wires es) n) e ∙ before-next (row_in old.from wires es) old.tick one
    last (inr ended) = before-last (row_in old.from wires es) next (omega (arith, lt, one)) ∙ still old.from old.tick (next - 1) es wires (omega (arith, lt)) ended

pub follows-start : (wires : List Wire) (es : List InputEvent) (old new : Street) → Follows wires es old → old.tick ≡ 0 → new.leads.items ≡ map lead_opened old.leads.items → new.tick ≡ 1 → new.from ≡ old.from → new.before ≡ old.before
    → Follows wires es new
follows-start wires es old new f none leads tick from before = record {
  leads =
      leads ∙ ap (map lead_opened) f.leads
      ∙ sym (leads-opened old.from old.tick 1 es wires (before-later (begin_of old.from (old.tick + 1)) (begin_of old.from 1) es (omega (arith, none)) f.ended))
      ∙ ap (λ (n : ℕ). map (lead_of old.from n es) wires) (sym tick) ∙ ap (λ (n : ℕ). map (lead_of n new.tick es) wires) (sym from);
  ended = before-later (begin_of old.from (old.tick + 1)) (begin_of new.from (new.tick + 1)) es (omega (arith, none, tick, from)) f.ended;
  before =
      before ∙ f.before ∙ before-first (row_in old.from wires es) old.tick (omega (arith, none)) ∙ sym (before-first (row_in new.from wires es) new.tick (omega (arith, tick)));
}

-- what settling a tick does
pub record Settles (to next : ℕ) (old new : Street) (row : Option LogRow) : Type 0 where
  pub from : new.from ≡ old.from
  pub tick : new.tick ≡ (if ltb old.tick to then next else old.tick)
  pub stays : to ≤ old.tick → (new ≡ old) × (row ≡ None)
  pub rows : (wires : List Wire) (events : List InputEvent) → Follows wires events old → old.tick < to → 1 ≤ old.tick → (next ≡ old.tick + 1) ⊎ AreBefore (begin_of old.from old.tick) events
      → Follows wires events new × (option_to_list row ≡ changes (row_in old.from wires events) (row_before (row_in old.from wires events) old.tick) old.tick (next - old.tick))

-- the rows from a tick on, up to another
abbrev pub Told : List Wire → List InputEvent → Street → ℕ → List LogRow → Type 0
Told wires es street to rows = rows ≡ changes (row_in street.from wires es) (row_before (row_in street.from wires es) street.tick) street.tick (to - street.tick)

none-told : (wires : List Wire) (es : List InputEvent) (street : Street) (to : ℕ) → to ≤ street.tick → Told wires es street to []
unfolding changes
none-told wires es street to le = let none : to - street.tick ≡ 0 = omega (arith, le) in sym (ap (λ (n : ℕ). changes (row_in street.from wires es) (row_before (row_in street.from wires es) street.tick) street.tick n) none)

pub two-settles : (wires : List Wire) (es : List InputEvent) (s s1 s2 : Street) (first second : Option LogRow) (to : ℕ) → Follows wires es s → 1 ≤ s.tick → Settles to (s.tick + 1) s s1 first → Settles to to s1 s2 second
    → Follows wires es s2 × Told wires es s to (option_to_list first ++ option_to_list second)
two-settles wires es s s1 s2 first second to f one p q = elim (leb_tells (suc s.tick) to) [
  | inl z ↦ below z.1 (rw z.0 at p.tick) (p.rows wires es f z.1 one (inl refl))
  | inr z ↦ past (let le : to < suc s.tick = z.1 in omega (arith, le))
]
  where
    past : to ≤ s.tick → Follows wires es s2 × Told wires es s to (option_to_list first ++ option_to_list second)
    past le =
        let (same, none) = p.stays le in
        let (same2, none2) = q.stays (rw same le) in
        (subst (λ (x : Street). Follows wires es x) (sym (same2 ∙ same)) f, rw (none, none2) (none-told wires es s to le))

    below : s.tick < to → s1.tick ≡ s.tick + 1
        → Follows wires es s1 × (option_to_list first ≡ changes (row_in s.from wires es) (row_before (row_in s.from wires es) s.tick) s.tick (s.tick + 1 - s.tick))
        → Follows wires es s2 × Told wires es s to (option_to_list first ++ option_to_list second)
    below lt next told = elim (leb_tells (suc s1.tick) to) [
      | inl z ↦
          let ended : AreBefore (begin_of s1.from s1.tick) es = rw (next, p.from) f.ended in
          let far = q.rows wires es told.0 z.1 (omega (arith, next)) (inr ended) in (
            far.0,
            ap (λ (rows : List LogRow). rows ++ option_to_list second) told.1
                ∙ ap (λ (rows : List LogRow). changes (row_in s.from wires es) (row_before (row_in s.from wires es) s.tick) s.tick (s.tick + 1 - s.tick) ++ rows)
                (far.1 ∙ rw (p.from, next) (ap (λ (r : Row). changes (row_in s.from wires es) r (s.tick + 1) (to - (s.tick + 1))) (before-next (row_in s.from wires es) s.tick one)))
                ∙ two-parts (row_in s.from wires es) (row_before (row_in s.from wires es) s.tick) s.tick to lt,
          )
      | inr z ↦
          let over : to < suc s1.tick = z.1 in
          let all : to - s.tick ≡ s.tick + 1 - s.tick = omega (arith, over, next, lt) in
          let (same2, none2) = q.stays (omega (arith, over)) in (
            subst (λ (x : Street). Follows wires es x) (sym same2) told.0,
            rw none2 (append-nil (option_to_list first)) ∙ told.1 ∙ ap (λ (n : ℕ). changes (row_in s.from wires es) (row_before (row_in s.from wires es) s.tick) s.tick n) (sym all),
          )
    ]

-- where the rows begin that are not written yet
pub until-at : (from : ℕ) (wires : List Wire) (es : List InputEvent) (tick s to : ℕ) → unwritten tick ≡ s → rows_until from wires es tick to ≡ changes (row_in from wires es) (row_before (row_in from wires es) s) s (to - s)
until-at from wires es tick s to e = ap (λ (n : ℕ). changes (row_in from wires es) (row_before (row_in from wires es) n) n (to - n)) e

pub unwritten-zero : (tick : ℕ) → tick ≡ 0 → unwritten tick ≡ 1
unwritten-zero tick e = rw e refl

pub unwritten-some : (tick : ℕ) → 1 ≤ tick → unwritten tick ≡ tick
unwritten-some tick one = rw (le-leb 1 tick one) refl

pub told-until : (wires : List Wire) (es : List InputEvent) (s : Street) (from tick n to : ℕ) (rows : List LogRow) → Told wires es s to rows → s.from ≡ from → s.tick ≡ n → unwritten tick ≡ n → rows ≡ rows_until from wires es tick to
told-until wires es s from tick n to rows told e t u =
    told ∙ ap (λ (k : ℕ). changes (row_in k wires es) (row_before (row_in k wires es) s.tick) s.tick (to - s.tick)) e
    ∙ ap (λ (k : ℕ). changes (row_in from wires es) (row_before (row_in from wires es) k) k (to - k)) t ∙ sym (until-at from wires es tick n to u)

pub until-none : (from : ℕ) (wires : List Wire) (es : List InputEvent) (tick to : ℕ) → to ≤ tick → [] ≡ rows_until from wires es tick to
unfolding changes
until-none from wires es tick to le =
    let none : to - unwritten tick ≡ 0 = elim (leb_tells 1 tick) [ inl z ↦ rw z.0 (omega (arith, le)) | inr z ↦ rw z.0 (let lt : tick < 1 = z.1 in omega (arith, le, lt)) ] in
    sym (ap (λ (n : ℕ). changes (row_in from wires es) (row_before (row_in from wires es) (unwritten tick)) (unwritten tick) n) none)

-- ## One more event

-- the tick that a moment lies in
pub record LiesIn (from nanos tick : ℕ) : Type 0 where
  pub before : nanos < begin_of from (tick + 1)
  pub within : 1 ≤ tick → begin_of from tick ≤ nanos
  pub first : tick ≡ 0 → nanos < from

pub lies-in : (from nanos tick : ℕ) → tick ≡ tick_at from nanos → LiesIn from nanos tick
lies-in from nanos tick e = elim (leb_tells (suc nanos) from) [
  | inl z ↦
      let zero : tick ≡ 0 = rw z.0 at e in
      let lt : nanos < from = z.1 in
      record { before = omega (arith, zero, lt); within = λ one. absurd (omega (arith, zero, one)); first = λ x. lt }
  | inr z ↦
      let some : tick ≡ (nanos - from) / 100000000 + 1 = rw z.0 at e in
      let le : from < suc nanos = z.1 in
      record { before = omega (arith, some, le); within = λ one. omega (arith, some, le); first = λ x. absurd (omega (arith, some, x)) }
]

pub late-is : (from nanos tick : ℕ) → LiesIn from nanos tick → ltb 0 tick ≡ leb (begin_of from tick) nanos
late-is from nanos zero lies = sym (elim (leb_tells (begin_of from 0) nanos) [ inl z ↦ absurd (let le : begin_of from 0 ≤ nanos = z.1 in let lt : nanos < from = lies.first refl in omega (arith, le, lt)) | inr z ↦ z.0 ])
late-is from nanos (suc k) lies = lt-ltb 0 (suc k) (omega arith) ∙ sym (le-leb (begin_of from (suc k)) nanos (lies.within (omega arith)))

pub follows-push : (wires : List Wire) (es : List InputEvent) (e : InputEvent) (old new : Street) (early late : Bool) → Follows wires es old → LiesIn old.from e.nanos old.tick → early ≡ leb e.nanos (begin_of old.from old.tick)
    → late ≡ leb (begin_of old.from old.tick) e.nanos → new.leads.items ≡ map (lead_taken e early late) old.leads.items → new.from ≡ old.from → new.tick ≡ old.tick → new.before ≡ old.before → Follows wires (es ++ e ∷ []) new
follows-push wires es e old new early late f lies is_early is_late leads from tick before = record {
  leads =
      leads ∙ ap (λ (b : Bool). map (lead_taken e b late) old.leads.items) is_early ∙ ap (λ (b : Bool). map (lead_taken e (leb e.nanos (begin_of old.from old.tick)) b) old.leads.items) is_late
      ∙ ap (map (lead_taken e (leb e.nanos (begin_of old.from old.tick)) (leb (begin_of old.from old.tick) e.nanos))) f.leads
      ∙ sym (leads-push old.from old.tick es e wires lies.before)
      ∙ ap (λ (n : ℕ). map (lead_of old.from n (es ++ e ∷ [])) wires) (sym tick) ∙ ap (λ (n : ℕ). map (lead_of n new.tick (es ++ e ∷ [])) wires) (sym from);
  ended = rw (from, tick) (before-push (begin_of old.from (old.tick + 1)) es e f.ended lies.before);
  before = before ∙ f.before ∙ last ∙ ap (λ (n : ℕ). row_before (row_in old.from wires (es ++ e ∷ [])) n) (sym tick) ∙ ap (λ (n : ℕ). row_before (row_in n wires (es ++ e ∷ [])) new.tick) (sym from);
}
  where
    last : row_before (row_in old.from wires es) old.tick ≡ row_before (row_in old.from wires (es ++ e ∷ [])) old.tick
    last = elim (leb_tells old.tick 1) [
      | inl z ↦ rw z.0 refl
      | inr z ↦
          let lt : 1 < old.tick = z.1 in
          let low : begin_of old.from old.tick ≤ e.nanos = lies.within (omega (arith, lt)) in
          let same : old.tick - 1 + 1 ≡ old.tick = omega (arith, lt) in
          rw z.0 (sym (untouched old.from (old.tick - 1) es e wires (omega (arith, lt)) (rw same low)))
    ]
