-- Preempts in range: their table is read as them.
use Rattle.std.proofs.Common.{zero, suc, ◌≡◌, ◌≢◌, ℕ, ◌+◌, ◌^◌, ◌<◌, ◌≤◌, Bool, true, false, if◌then◌else◌, List, [], ◌∷◌, ◌++◌, length, map, slice_index, Option, Some, None, refl, sym, ◌∙◌, ap, ap₂, subst, inl, inr, arith, length-append}
use Rattle.std.proofs.Math.Path.{fun_ext}
use Rattle.std.proofs.lemmas.Bool.{cases_Bool}
use Rattle.std.proofs.lemmas.Bool.Decides.{nat_tests}
use Rattle.tsb_cells.specs.declared.timer.Timer.TheVariants.{Off}
use Rattle.tsb_cells.specs.Timer.{timer_at, timer_cell, is_on}
use Rattle.tsb_cells.proofs.TableLemmas.{front-read, column-read, length-column}
use Rattle.tsb_cells.proofs.TimerLemmas.{timer_at-timer_cell, timer_cell-le, IsWithin-timer_at, timer_cell-on, timer_cell-off, timer_at-off}
use Rattle.tsb_types.specs.declared.limits.TheConstants.{PREEMPTS}
use Rattle.tsb_types.specs.declared.stage.Stage.TheVariants.{Track}
use Rattle.tsb_types.specs.Lists.{run_from}
use Rattle.tsb_types.specs.Sets.{names, list_of, list_in}
use Rattle.tsb_types.proofs.SetLemmas.{names-above, names-list_of, list_of-below}
use Rattle.tsb_preempt.specs.declared.TheConstants.{CELLS}
use Rattle.tsb_preempt.specs.declared.serving.Serving.{Serving}
use Rattle.tsb_preempt.specs.Service.{Service}
use Rattle.tsb_preempt.specs.Preempts.{Preempts, is_preempt}
use Rattle.tsb_preempt.specs.Cells.{stage_in, service_in, service_cells, preempts_in, preempts_cells, IsBy}
use Rattle.tsb_preempt.specs.Promises.{IsSame}
use Rattle.tsb_preempt.specs.Rows.{serving_of, IsServingBy, IsStored}
use Rattle.tsb_preempt.specs.Laws.{IsOff, IsServedIn, IsStateBy}
use Rattle.tsb_preempt.proofs.ResetLemmas.{is_preempt-from}
use Rattle.tsb_preempt.proofs.ServiceLemmas.{service-stored, IsServiceRow, service-row}
use Rattle.tsb_preempt.proofs.TableLemmas.{rest-read}

-- ## Of what is no preempt

names-outside : (list n : ℕ) → list < 2 ^ PREEMPTS → is_preempt n ≡ false → names list n ≡ false
names-outside list zero below out = refl
names-outside list (suc k) below out = names-above PREEMPTS (suc k) list below (grind (arith, nat_tests, out))

listed : (row : List ℕ) (k : ℕ) → slice_index row k < 256 → list_in row k < 256
listed row k below = omega (arith, below)

pub off-outside : (now : ℕ) (row : List ℕ) (n : ℕ) → slice_index row 0 < 2 ^ PREEMPTS → slice_index row 1 < 2 ^ PREEMPTS → is_preempt n ≡ false → IsOff (preempts_in now row) n
unfolding preempts_in
off-outside now row n low also out = record {
  switch = names-outside (list_in row 0) n (listed row 0 low) out;
  delay = rw out refl;
  spent = names-outside (list_in row 1) n (listed row 1 also) out;
}

-- two that are the same of all preempts, and off elsewhere, are one
pub all-same : (f g : Preempts) → IsSame f g → ((n : ℕ) → is_preempt n ≡ false → IsOff f n) → ((n : ℕ) → is_preempt n ≡ false → IsOff g n) → f ≡ g
all-same f g same off also =
    parts (fun_ext (λ n. switch n)) (fun_ext (λ n. delay n)) (fun_ext (λ n. spent n)) same.service
  where
    parts : f.switch ≡ g.switch → f.delay ≡ g.delay → f.spent ≡ g.spent → f.service ≡ g.service → f ≡ g
    parts a b c d = λ i. record { switch = a i; delay = b i; spent = c i; service = d i }

    switch : (n : ℕ) → f.switch n ≡ g.switch n
    switch n = elim (cases_Bool (is_preempt n)) [
      | inl on ↦ same.switch n (grind (arith, nat_tests, on)) (grind (arith, nat_tests, on))
      | inr out ↦ (off n out).switch ∙ sym (also n out).switch
    ]

    delay : (n : ℕ) → f.delay n ≡ g.delay n
    delay n = elim (cases_Bool (is_preempt n)) [
      | inl on ↦ same.delay n (grind (arith, nat_tests, on)) (grind (arith, nat_tests, on))
      | inr out ↦ (off n out).delay ∙ sym (also n out).delay
    ]

    spent : (n : ℕ) → f.spent n ≡ g.spent n
    spent n = elim (cases_Bool (is_preempt n)) [
      | inl on ↦ same.spent n (grind (arith, nat_tests, on)) (grind (arith, nat_tests, on))
      | inr out ↦ (off n out).spent ∙ sym (also n out).spent
    ]

-- ## The table, cell by cell

-- the cells of a service
serving-with : ℕ → Option Service → Option Serving
serving-with now None = None
serving-with now (Some s) = Some (record { preempt = s.preempt; stage = s.stage; timer = timer_cell now s.timer; stage_timer = timer_cell now s.stage_timer })

serving-by : (now : ℕ) (o : Option Service) → IsServedIn now o → IsServingBy now (serving-with now o)
unfolding serving-with
serving-by now None by = tt
serving-by now (Some s) by = record {
  from = by.from;
  within = by.within;
  began = timer_cell-on now s.timer by.runs;
  timer = timer_cell-le now s.timer;
  stage_timer = timer_cell-le now s.stage_timer;
  outside_track = λ out. timer_cell-off now s.stage_timer (by.outside_track out);
}

serving-read : (now : ℕ) (o : Option Service) → IsServedIn now o → serving_of now (serving-with now o) ≡ o
unfolding serving-with
serving-read now None by = refl
serving-read now (Some s) by = rw (timer_at-timer_cell now s.timer by.timer, timer_at-timer_cell now s.stage_timer by.stage_timer) refl

-- cells that say the preempts f
record IsTable (now : ℕ) (f : Preempts) (row : List ℕ) : Type 0 where
  full : length row ≡ CELLS
  switch : slice_index row 0 ≡ list_of PREEMPTS f.switch
  spent : slice_index row 1 ≡ list_of PREEMPTS f.spent
  delays : (n : ℕ) → 1 ≤ n → n ≤ PREEMPTS → slice_index row (1 + n) ≡ timer_cell now (f.delay n)
  stored : IsStored row (serving-with now f.service)

module _ (now : ℕ) (f : Preempts) where
  abbrev lists : List ℕ
  lists = list_of PREEMPTS f.switch ∷ list_of PREEMPTS f.spent ∷ []

  abbrev timers : List ℕ
  timers = lists ++ map (λ n. timer_cell now (f.delay n)) (run_from 1 PREEMPTS)

  length-timers : length timers ≡ 2 + PREEMPTS
  length-timers = length-column PREEMPTS lists (λ n. timer_cell now (f.delay n))

  four-cells : (o : Option Service) → length (service_cells now o) ≡ 4
  four-cells None = refl
  four-cells (Some s) = refl

  stored-in : (o : Option Service) → IsStored (timers ++ service_cells now o) (serving-with now o)
  unfolding serving-with
  stored-in None = record {
    preempt = rest-read timers (service_cells now None) (2 + PREEMPTS) 0 length-timers;
    stage = rest-read timers (service_cells now None) (2 + PREEMPTS) 1 length-timers;
    timer = rest-read timers (service_cells now None) (2 + PREEMPTS) 2 length-timers;
    stage_timer = rest-read timers (service_cells now None) (2 + PREEMPTS) 3 length-timers;
  }
  stored-in (Some s) = record {
    preempt = rest-read timers (service_cells now (Some s)) (2 + PREEMPTS) 0 length-timers;
    stage = rest-read timers (service_cells now (Some s)) (2 + PREEMPTS) 1 length-timers;
    timer = rest-read timers (service_cells now (Some s)) (2 + PREEMPTS) 2 length-timers;
    stage_timer = rest-read timers (service_cells now (Some s)) (2 + PREEMPTS) 3 length-timers;
  }

  table : IsTable now f (preempts_cells now f)
  table = record {
    full =
        length-append timers (service_cells now f.service)
        ∙ ap₂ (λ (a b : ℕ). a + b) length-timers (four-cells f.service);
    switch = front-read timers (service_cells now f.service) 0 (omega (arith, length-timers));
    spent = front-read timers (service_cells now f.service) 1 (omega (arith, length-timers));
    delays = λ n from to.
        front-read timers (service_cells now f.service) (1 + n) (omega (arith, to, length-timers))
        ∙ column-read PREEMPTS 2 lists (λ k. timer_cell now (f.delay k)) n refl (omega arith) from to;
    stored = stored-in f.service;
  }

module _ (now : ℕ) (f : Preempts) (row : List ℕ) (by : IsStateBy now f) (t : IsTable now f row) where
  delay-cell : (n : ℕ) → 1 ≤ n → n ≤ PREEMPTS → slice_index row (1 + n) ≡ timer_cell now (f.delay n)
  delay-cell = t.delays

  low-switches : slice_index row 0 < 2 ^ PREEMPTS
  low-switches = subst (λ (x : ℕ). x < 2 ^ PREEMPTS) (sym t.switch) (list_of-below PREEMPTS f.switch)

  low-spent : slice_index row 1 < 2 ^ PREEMPTS
  low-spent = subst (λ (x : ℕ). x < 2 ^ PREEMPTS) (sym t.spent) (list_of-below PREEMPTS f.spent)

  names-in : (k n : ℕ) (test : ℕ → Bool) → slice_index row k ≡ list_of PREEMPTS test → slice_index row k < 256 → 1 ≤ n → n ≤ PREEMPTS → names (list_in row k) n ≡ test n
  names-in k n test is below from to =
      let whole : list_in row k ≡ slice_index row k = omega (arith, below) in
      ap (λ (x : ℕ). names x n) (whole ∙ is) ∙ names-list_of PREEMPTS n test from to

  read-delay : (n : ℕ) → 1 ≤ n → n ≤ PREEMPTS → (if is_preempt n then timer_at now (slice_index row (1 + n)) else Off) ≡ f.delay n
  read-delay n from to = rw (is_preempt-from n from to, delay-cell n from to) (timer_at-timer_cell now (f.delay n) (by.each n from to).delay)

  read-same : IsSame (preempts_in now row) f
  unfolding preempts_in
  read-same = record {
    switch = λ n from to. names-in 0 n f.switch t.switch low-switches from to;
    delay = λ n from to. read-delay n from to;
    spent = λ n from to. names-in 1 n f.spent t.spent low-spent from to;
    service = service-stored now row (serving-with now f.service) t.stored (serving-by now f.service by.service) ∙ serving-read now f.service by.service;
  }

  table-read : preempts_in now row ≡ f
  table-read = all-same (preempts_in now row) f read-same (λ n out. off-outside now row n low-switches low-spent out) by.off

  table-by : IsBy now row
  table-by =
      let s : IsServiceRow now row = service-row now row (serving-with now f.service) t.stored (serving-by now f.service by.service) in
      record {
        full = t.full;
        switches = low-switches;
        spent = low-spent;
        each = λ n from to. record {
          delay = subst (λ (x : ℕ). x ≤ now + 1) (sym (delay-cell n from to)) (timer_cell-le now (f.delay n));
          spent = λ on. subst (λ (x : ℕ). 1 ≤ x) (sym (delay-cell n from to))
              (timer_cell-on now (f.delay n) ((by.each n from to).spent (sym (names-in 1 n f.spent t.spent low-spent from to) ∙ on)));
        };
        preempt = s.preempt;
        stage = s.stage;
        timer = s.timer;
        stage_timer = s.stage_timer;
        serving = s.serving;
        no_stage = s.no_stage;
        no_timer = s.no_timer;
        no_stage_timer = s.no_stage_timer;
        outside_track = s.outside_track;
      }

pub states-read : (now : ℕ) (f : Preempts) → IsStateBy now f → preempts_in now (preempts_cells now f) ≡ f
states-read now f by = table-read now f (preempts_cells now f) by (table now f)

pub states-by : (now : ℕ) (f : Preempts) → IsStateBy now f → IsBy now (preempts_cells now f)
states-by now f by = table-by now f (preempts_cells now f) by (table now f)

-- ## What rows say

runs-on : (now cell : ℕ) → 1 ≤ cell → is_on (timer_at now cell) ≡ true
runs-on now cell on = grind (arith, nat_tests, on)

stage-from : (cell : ℕ) → stage_in cell ≢ Track → 1 ≤ cell
stage-from zero out = absurd (out refl)
stage-from (suc k) out = omega arith

served-in : (now : ℕ) (row : List ℕ) → IsBy now row → IsServedIn now (service_in now row)
unfolding service_in
served-in now row by =
    elim (cases_Bool (is_preempt (slice_index row (2 + PREEMPTS)))) [
      | inl on ↦
          (let from : 1 ≤ slice_index row (2 + PREEMPTS) = grind (arith, nat_tests, on) in
          let to : slice_index row (2 + PREEMPTS) ≤ PREEMPTS = by.preempt in
          rw on (record {
            from = from;
            within = to;
            runs = runs-on now (slice_index row (4 + PREEMPTS)) (by.serving from);
            timer = IsWithin-timer_at now (slice_index row (4 + PREEMPTS));
            stage_timer = IsWithin-timer_at now (slice_index row (5 + PREEMPTS));
            outside_track = λ out. timer_at-off now (slice_index row (5 + PREEMPTS)) (by.outside_track (stage-from (slice_index row (3 + PREEMPTS)) out));
          }))
      | inr off ↦ rw off tt
    ]

pub rows-states : (now : ℕ) (row : List ℕ) → IsBy now row → IsStateBy now (preempts_in now row)
unfolding preempts_in
rows-states now row by = record {
  each = λ n from to. record {
    delay = rw (is_preempt-from n from to) (IsWithin-timer_at now (slice_index row (1 + n)));
    spent = λ on. rw (is_preempt-from n from to) (runs-on now (slice_index row (1 + n)) ((by.each n from to).spent on));
  };
  off = λ n out. off-outside now row n by.switches by.spent out;
  service = served-in now row by;
}
