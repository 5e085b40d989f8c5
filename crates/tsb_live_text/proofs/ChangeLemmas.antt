-- What is said of ticks of which only the changes are told.
use Rattle.std.proofs.Common.{◌≡◌, ◌+◌, ℕ, List, [], ◌∷◌, ◌++◌, Bool, true, false, not, ◌&&◌, ◌==◌, ◌≤◌, bytes_eq, drop, take, ◌-◌, length, length-append, refl, sym, ap, ◌∙◌, append_assoc, Ok, Err, subst, zero, suc, OnOk, inl, inr, Some, None, nat_le, arith}
use Rattle.std.proofs.lemmas.Bool.{cases_Bool}
use Rattle.std.proofs.lemmas.Bool.Decides.{nat_tests}
use Rattle.std.specs.declared.option.Option.{Option}
use Rattle.std.specs.declared.result.Result.{Result}
use Rattle.tsb_bench.specs.Held.{state_of, whole}
use Rattle.tsb_text.specs.kept.Kept.{last_row}
use Rattle.tsb_lines.specs.declared.writes.WriteError.{WriteError}
use Rattle.tsb_log_text.specs.declared.log.LogRow.{LogRow}
use Rattle.tsb_bench.specs.tsb_machine.declared.commands.Answer.TheVariants.{Took as IsTaken}
use Rattle.tsb_bench.specs.tsb_machine.declared.commands.MachineCommand.TheVariants.{Apply}
use Rattle.tsb_step.specs.declared.inputs.Input.{Input}
use Rattle.tsb_step.specs.declared.inputs.Input.TheVariants.{Tick}
use Rattle.tsb_step.specs.Events.{events_of, usual_after}
use Rattle.tsb_step.specs.Play.{IsRight}
use Rattle.tsb_step.specs.Runs.{replay}
use Rattle.tsb_step.specs.Signs.{display, local}
use Rattle.tsb_step.specs.State.{State}
use Rattle.tsb_types.specs.Lists.{run_from}
use Rattle.tsb_display_text.specs.Line.{wide_line_of, wide_overlap_field}
use Rattle.tsb_display_text.proofs.LineLemmas.{line-length}
use Rattle.std.proofs.lemmas.List.{length-drop, length-take-le}
use Rattle.tsb_log_text.proofs.ListLemmas.{slice-behind}
use Rattle.tsb_step.specs.Step.{verdict}
use Rattle.tsb_step.proofs.RefusalLemmas.{refuses}
use Rattle.tsb_types.specs.declared.refusal.Refusal.{Refusal}
use Rattle.tsb_types.specs.declared.row.Row.{Row}
use Rattle.tsb_dialog.specs.Said.{IsCutShort, Said, SaidUntilFault, Wrote, with_feed}
use Rattle.tsb_dialog.proofs.SaidLemmas.{said-more, said-nothing}
use Rattle.tsb_log_text.specs.Logs.{row_at}
use Rattle.tsb_text.specs.declared.rows.Rows.TheVariants.{Held}
use Rattle.tsb_text.specs.Rows.{rows_in}
use Rattle.tsb_text.specs.Answers.{GoesUnless, Leads, Setup, display_line, followers, line_in, next_tick, preempt_in_service, refused_after, refused_line}
use Rattle.tsb_text.specs.Obeyed.{Done, OnCourse, Stands, Took, news_in, tells_in}
use Rattle.tsb_text.specs.Obeys.{Besides, if_told, trail}
use Rattle.tsb_text.proofs.CourseLemmas.{follows-state, told-alike}
use Rattle.tsb_text.proofs.TextLemmas.{some-leads}
use Rattle.tsb_live_text.specs.Changes.{Changes, Ends, Follows, TellsTick, line_after, owed, shows_same, tick_text}
use Rattle.tsb_live_text.proofs.TickLemmas.{rejoin}

-- ## Display lines

-- a line is no shorter than 53 bytes
pub line-long : (is_wide : Bool) (s : State) (line : List ℕ) → line ≡ line_in is_wide s → 53 ≤ length line
unfolding wide_line_of run_from
line-long false s line is =
    let all : length (display_line s) ≡ 53 = line-length s.now (display s) (preempt_in_service s) (local s) in
    omega (arith, ap length is, all)
line-long true s line is =
    let first : length (display_line s) ≡ 53 = line-length s.now (display s) (preempt_in_service s) (local s) in
    let all : length (line_in true s) ≡ length (display_line s) + 17 = length-append (display_line s) (32 ∷ wide_overlap_field (display s).overlap) in
    omega (arith, ap length is, first, all)

-- two lines in two parts each are equal where their parts are
equal-parts : (a b c d : List ℕ) → length a ≡ length c → bytes_eq (a ++ b) (c ++ d) ≡ (bytes_eq a c && bytes_eq b d)
equal-parts [] b [] d same = refl
equal-parts [] b (y ∷ c) d same = absurd (omega (arith, same))
equal-parts (x ∷ a) b [] d same = absurd (omega (arith, same))
equal-parts (x ∷ a) b (y ∷ c) d same =
    let rest : bytes_eq (a ++ b) (c ++ d) ≡ (bytes_eq a c && bytes_eq b d) = equal-parts a b c d (omega (arith, same)) in
    ap (λ (t : Bool). x == y && t) rest ∙ sym (and-assoc (x == y) (bytes_eq a c) (bytes_eq b d))
  where
    and-assoc : (p q r : Bool) → ((p && q) && r) ≡ (p && (q && r))
    and-assoc true q r = refl
    and-assoc false q r = refl

-- the parts of two display lines that show heads and the preempt
pub shows-parts : (line other : List ℕ) → 53 ≤ length line → 53 ≤ length other →
    shows_same line other ≡ (bytes_eq (take 40 (drop 8 line)) (take 40 (drop 8 other)) && bytes_eq (take (length line - 53) (drop 53 line)) (take (length other - 53) (drop 53 other)))
shows-parts line other long and_long =
    let front : length (take 40 (drop 8 line)) ≡ 40 = length-take-le 40 (drop 8 line) (omega (arith, long, length-drop 8 line)) in
    let and_front : length (take 40 (drop 8 other)) ≡ 40 = length-take-le 40 (drop 8 other) (omega (arith, and_long, length-drop 8 other)) in
    equal-parts (take 40 (drop 8 line)) (drop 53 line) (take 40 (drop 8 other)) (drop 53 other) (front ∙ sym and_front)
    ∙ (λ j. bytes_eq (take 40 (drop 8 line)) (take 40 (drop 8 other)) && bytes_eq (sym (slice-behind 53 line) j) (sym (slice-behind 53 other) j))

-- ## There is an answer to each number of ticks

-- what comes after a tick with this display line, and what followed it
abbrev After : Setup → Besides → Row → List ℕ → Bool → ℕ → Option Refusal → List Input → List ℕ → Option Refusal → List Input → Type 0
After given besides row line same k stop left text refusal last =
    GoesUnless stop (Changes given besides row left line same k text refusal last) (Ends besides line same stop left text refusal last)

-- what answers so many ticks
record SomeChanges (given : Setup) (besides : Besides) (row : Row) (is : List Input) (before : List ℕ) (is_owed : Bool) (n : ℕ) : Type 0 where
  text : List ℕ
  refusal : Option Refusal
  left : List Input
  so : Changes given besides row is before is_owed n text refusal left

-- what answers the rest
record SomeAfter (given : Setup) (besides : Besides) (row : Row) (line : List ℕ) (same : Bool) (k : ℕ) (stop : Option Refusal) (left : List Input) : Type 0 where
  text : List ℕ
  refusal : Option Refusal
  last : List Input
  so : After given besides row line same k stop left text refusal last

some-after : (given : Setup) (besides : Besides) (row : Row) (line : List ℕ) (same : Bool) (k : ℕ) → ((left : List Input) → SomeChanges given besides row left line same k)
    → (stop : Option Refusal) (left : List Input) → SomeAfter given besides row line same k stop left
some-after given besides row line same k rest None left = let r : SomeChanges given besides row left line same k = rest left in
    record { text = r.text; refusal = r.refusal; last = r.left; so = r.so }
some-after given besides row line same k rest (Some e) left =
    record { text = owed same line ++ refused_after besides.echo (Some e); refusal = Some e; last = left; so = (refl, refl, refl) }

-- one tick more, where there is an answer after it
one-change : (given : Setup) (besides : Besides) (row : Row) (n : ℕ) (is : List Input) (before : List ℕ) (is_owed : Bool)
    → ((left : List Input) → SomeChanges given besides row left (line_after given.is_wide given.plan (Tick row ∷ is)) (shows_same (line_after given.is_wide given.plan (Tick row ∷ is)) before) n)
    → (found : Option Refusal) → verdict (replay given.plan is) (Tick row) ≡ found → SomeChanges given besides row is before is_owed (suc n)
one-change given besides row n is before is_owed rest None e =
    let next : (stop : Option Refusal) × (left : List Input) × Leads given (Tick row ∷ is) (followers given is (Tick row)) stop left = some-leads given (Tick row ∷ is) (followers given is (Tick row)) in
    let said : List ℕ = tick_text given.is_wide given.plan besides row is before (trail besides.tells given (Tick row ∷ is) (followers given is (Tick row)) next.1) in
    let after : SomeAfter given besides row (line_after given.is_wide given.plan (Tick row ∷ is)) (shows_same (line_after given.is_wide given.plan (Tick row ∷ is)) before) n next.0 next.1 =
    some-after given besides row (line_after given.is_wide given.plan (Tick row ∷ is)) (shows_same (line_after given.is_wide given.plan (Tick row ∷ is)) before) n rest next.0 next.1 in
    record {
      text = said ++ after.text;
      refusal = after.refusal;
      left = after.last;
      so = inl (e, said, after.text, next.0, next.1, record { leads = next.2; told = refl }, refl, after.so);
    }
one-change given besides row n is before is_owed rest (Some x) e = record {
  text = owed is_owed before ++ (besides.echo ++ with_feed (refused_line x));
  refusal = Some x;
  left = is;
  so = inr (record { why = x; right = refuses (replay given.plan is) (Tick row) x e; line = refl; refused = refl; left = refl });
}

some-changes : (given : Setup) (besides : Besides) (row : Row) (n : ℕ) (is : List Input) (before : List ℕ) (is_owed : Bool) → SomeChanges given besides row is before is_owed n
some-changes given besides row zero is before is_owed = record { text = owed is_owed before; refusal = None; left = is; so = (refl, refl, refl) }
some-changes given besides row (suc n) is before is_owed =
    one-change given besides row n is before is_owed (λ left. some-changes given besides row n left (line_after given.is_wide given.plan (Tick row ∷ is)) (shows_same (line_after given.is_wide given.plan (Tick row ∷ is)) before))
    (verdict (replay given.plan is) (Tick row)) refl

-- ## The row that is held

-- a row that is held is in force at each tick
pub held-row : (row : Row) (n : ℕ) → row_at (rows_in (Held row)) (n + 1) ≡ row
held-row row n = elim (cases_Bool (nat_le 1 (n + 1))) [
  | inl is ↦ rw is refl
  | inr isnt ↦ absurd (grind (arith, nat_tests, isnt))
]

-- the next tick has it
held-tick : (given : Setup) (log : List LogRow) (course : OnCourse) (is : List Input) (row : Row) → Stands given log course is → log ≡ rows_in (Held row) → next_tick given is ≡ Tick row
held-tick given log course is row stands held =
    ap Tick (ap (λ (l : List LogRow). row_at l ((replay given.plan is).now + 1)) (stands.same ∙ held) ∙ held-row row (replay given.plan is).now)

pub held-took : (r : Result (Unit {0}) Refusal) (given : Setup) (log : List LogRow) (old new : OnCourse) (is : List Input) (row : Row) → Stands given log old is → log ≡ rows_in (Held row) → Took r given log new is (next_tick given is)
    → Took r given log new is (Tick row)
held-took r given log old new is row stands held took = subst (λ (i : Input). Took r given log new is i) (held-tick given log old is row stands held) took

-- the next tick, with the row that is held, was taken
pub record TookNext (given : Setup) (log : List LogRow) (course : OnCourse) (row : Row) (is : List Input) : Type 0 where
  pub took : Took (Ok tt) given log course is (Tick row)
  pub next : course.next ≡ followers given is (Tick row)

pub held-next : (given : Setup) (log : List LogRow) (old new : OnCourse) (is : List Input) (row : Row) → Stands given log old is → log ≡ rows_in (Held row) → Took (Ok tt) given log new is (next_tick given is)
    → new.next ≡ followers given is (next_tick given is) → TookNext given log new row is
held-next given log old new is row stands held took next = record {
  took = held-took (Ok tt) given log old new is row stands held took;
  next = next ∙ ap (λ (i : Input). followers given is i) (held-tick given log old is row stands held);
}

-- ## So far

-- the ticks that are to come answer the rest
abbrev On : Setup → Besides → Row → List Input → List ℕ → ℕ → List Input → List ℕ → Bool → ℕ → List ℕ → Type 0
On given besides row is first n now before is_owed k said =
    (text : List ℕ) (refusal : Option Refusal) (last : List Input) → Changes given besides row now before is_owed k text refusal last → Changes given besides row is first false n (said ++ text) refusal last

pub record Changing (given : Setup) (log : List LogRow) (besides : Besides) (row : Row) (is : List Input) (first : List ℕ) (n : ℕ) (course : OnCourse) (before : List ℕ) (is_owed : Bool) (k : ℕ) (a b : Option (List ℕ)) (p q : List ℕ) : Type 0 where
  pub now : List Input
  pub stands : Stands given log course now
  pub wrote : Wrote a b p q (On given besides row is first n now before is_owed k)

changes-start : (given : Setup) (log : List LogRow) (besides : Besides) (row : Row) (is : List Input) (first : List ℕ) (n k : ℕ) (course : OnCourse) (a : Option (List ℕ)) (p : List ℕ) → k ≡ n → Stands given log course is
    → Changing given log besides row is first n course first false k a a p p
changes-start given log besides row is first n k course a p all stands = record {
  now = is;
  stands = stands;
  wrote = record { text = []; said = said-nothing a p; so = λ text refusal last c. subst (λ (m : ℕ). Changes given besides row is first false m text refusal last) all c };
}

pub changes-started : (given : Setup) (log : List LogRow) (besides : Besides) (row : Row) (is : List Input) (first line : List ℕ) (n k : ℕ) (course : OnCourse) (a : Option (List ℕ)) (p : List ℕ) → line ≡ first → k ≡ n
    → Stands given log course is → Changing given log besides row is first n course line false k a a p p
changes-started given log besides row is first line n k course a p tells all stands =
    subst (λ (l : List ℕ). Changing given log besides row is first n course l false k a a p p) (sym tells) (changes-start given log besides row is first n k course a p all stands)

-- ## A tick that was taken

-- it was taken, and this was said of it and of what follows it
record Taken (given : Setup) (besides : Besides) (row : Row) (now : List Input) (before line : List ℕ) (same : Bool) (said : List ℕ) (stop : Option Refusal) (left : List Input) : Type 0 where
  right : IsRight given.plan now (Apply (Tick row)) IsTaken
  follows : Follows given besides row now before said stop left
  is-line : line ≡ line_after given.is_wide given.plan (Tick row ∷ now)
  is-same : same ≡ shows_same (line_after given.is_wide given.plan (Tick row ∷ now)) before

-- where the display line after it is said unless it shows the same as that before
abbrev TellsOf : Setup → OnCourse → List Input → Row → List ℕ → Bool → List ℕ → Option Refusal → List Input → Type 0
TellsOf given course now row line same = TellsTick given (tells_in course.mode) (Tick row ∷ now) course.next (news_in course) (owed (not same) line)

taken : (given : Setup) (log : List LogRow) (besides : Besides) (row : Row) (course : OnCourse) (now : List Input) (before line : List ℕ) (same : Bool) (said : List ℕ) (stop : Option Refusal) (left : List Input)
    → TookNext given log course row now → tells_in course.mode ≡ besides.tells → line ≡ line_in course.is_wide (state_of course.bench) → same ≡ shows_same line before → TellsOf given course now row line same said stop left
    → Taken given besides row now before line same said stop left
taken given log besides row course now before line same said stop left t mode tells alike told = record {
  right = t.took.0;
  follows = record {
    leads = subst (λ (i : List Input). Leads given (Tick row ∷ now) i stop left) t.next told.leads;
    told = told.told ∙ (λ j. (news j ++ trail (mode j) given (Tick row ∷ now) (t.next j) left) ++ owed (not (same-there j)) (line-there j));
  };
  is-line = line-there;
  is-same = same-there;
}
  where
    line-there : line ≡ line_after given.is_wide given.plan (Tick row ∷ now)
    line-there = tells ∙ ap (λ (w : Bool). line_in w (state_of course.bench)) t.took.1.wide
        ∙ ap (line_in given.is_wide) (follows-state given.plan (whole course.bench) (Tick row ∷ now) t.took.1.follows)

    same-there : same ≡ shows_same (line_after given.is_wide given.plan (Tick row ∷ now)) before
    same-there = alike ∙ ap (λ (l : List ℕ). shows_same l before) line-there

    news : news_in course ≡ if_told besides.tells (events_of (usual_after (last_row now)) (replay given.plan now) (Tick row))
    news = told-alike (tells_in course.mode) course.news (events_of (usual_after (last_row now)) (replay given.plan now) (Tick row)) t.took.2
        ∙ ap (λ (b : Bool). if_told b (events_of (usual_after (last_row now)) (replay given.plan now) (Tick row))) mode

-- what comes after it answers the rest
goes-on : (given : Setup) (besides : Besides) (row : Row) (is : List Input) (first : List ℕ) (n : ℕ) (now : List Input) (before : List ℕ) (is_owed : Bool) (k next : ℕ) (so-far : List ℕ) (line : List ℕ) (same : Bool) (said : List ℕ) (stop : Option Refusal) (left : List Input)
    → On given besides row is first n now before is_owed k so-far → k ≡ suc next → Taken given besides row now before line same said stop left
    → (text : List ℕ) (refusal : Option Refusal) (last : List Input) → After given besides row line same next stop left text refusal last
    → Changes given besides row is first false n ((so-far ++ said) ++ text) refusal last
goes-on given besides row is first n now before is_owed k next so-far line same said stop left on one t text refusal last after =
    subst (λ (v : List ℕ). Changes given besides row is first false n v refusal last) (sym (append_assoc so-far said text))
    (on (said ++ text) refusal last (subst (λ (m : ℕ). Changes given besides row now before is_owed m (said ++ text) refusal last) (sym one) tick))
  where
    there : After given besides row (line_after given.is_wide given.plan (Tick row ∷ now)) (shows_same (line_after given.is_wide given.plan (Tick row ∷ now)) before) next stop left text refusal last
    there = subst (λ (l : List ℕ). After given besides row l (shows_same (line_after given.is_wide given.plan (Tick row ∷ now)) before) next stop left text refusal last) t.is-line
        (subst (λ (x : Bool). After given besides row line x next stop left text refusal last) t.is-same after)

    tick : Changes given besides row now before is_owed (suc next) (said ++ text) refusal last
    tick = inl (t.right, said, text, stop, left, t.follows, refl, there)

-- nothing was refused
pub changes-more : (given : Setup) (log : List LogRow) (besides : Besides) (row : Row) (is : List Input) (first : List ℕ) (n : ℕ) (old mid new : OnCourse) (before : List ℕ) (is_owed : Bool) (left k : ℕ) (line : List ℕ) (same : Bool) (stop : Option Refusal) (a b c : Option (List ℕ)) (p q r : List ℕ)
    → Changing given log besides row is first n old before is_owed left a b p q → left ≡ suc k → tells_in mid.mode ≡ besides.tells
    → ((inputs : List Input) → Stands given log old inputs → TookNext given log mid row inputs)
    → line ≡ line_in mid.is_wide (state_of mid.bench) → same ≡ shows_same line before
    → stop ≡ None → ((inputs : List Input) → Stands given log mid (Tick row ∷ inputs) → Done (Ok stop) given log new (TellsOf given mid inputs row line same) b c q r)
    → Changing given log besides row is first n new line same k a c p r
changes-more given log besides row is first n old mid new before is_owed left k line same stop a b c p q r s one mode took tells alike none told =
    let t : TookNext given log mid row s.now = took s.now s.stands in
    let d : Done (Ok None) given log new (TellsOf given mid s.now row line same) b c q r =
    subst (λ (x : Option Refusal). Done (Ok x) given log new (TellsOf given mid s.now row line same) b c q r) none (told s.now t.took.1) in
    record {
      now = d.0;
      stands = d.1;
      wrote = record {
        text = s.wrote.text ++ d.2.text;
        said = said-more a b c p q r s.wrote.text d.2.text s.wrote.said d.2.said;
        so = goes-on given besides row is first n s.now before is_owed left k s.wrote.text line same d.2.text None d.0 s.wrote.so one
            (taken given log besides row mid s.now before line same d.2.text None d.0 t mode tells alike d.2.so);
      };
    }

-- a fault within what is said of a tick
pub changes-fault : (given : Setup) (log : List LogRow) (besides : Besides) (row : Row) (is : List Input) (first : List ℕ) (n : ℕ) (old mid new : OnCourse) (before : List ℕ) (is_owed : Bool) (left k : ℕ) (line : List ℕ) (same : Bool) (a b c : Option (List ℕ)) (p q r : List ℕ) (e : WriteError)
    → Changing given log besides row is first n old before is_owed left a b p q → left ≡ suc k → tells_in mid.mode ≡ besides.tells
    → ((inputs : List Input) → Stands given log old inputs → TookNext given log mid row inputs)
    → line ≡ line_in mid.is_wide (state_of mid.bench) → same ≡ shows_same line before
    → ((inputs : List Input) → Stands given log mid (Tick row ∷ inputs) → Done (Err e) given log new (TellsOf given mid inputs row line same) b c q r)
    → Done (Err e) given log new (Changes given besides row is first false n) a c p r
changes-fault given log besides row is first n old mid new before is_owed left k line same a b c p q r e s one mode took tells alike told =
    let t : TookNext given log mid row s.now = took s.now s.stands in
    let d : Done (Err e) given log new (TellsOf given mid s.now row line same) b c q r = told s.now t.took.1 in
    let rest : SomeAfter given besides row line same k d.so.1 d.so.2 = some-after given besides row line same k (λ last. some-changes given besides row k last line same) d.so.1 d.so.2 in
    record {
      text = s.wrote.text ++ d.text;
      said = said-more a b c p q r s.wrote.text d.text s.wrote.said d.said;
      so = (
        d.so.0 ++ rest.text,
        rest.refusal,
        rest.last,
        subst (λ (v : List ℕ). Changes given besides row is first false n v rest.refusal rest.last) (sym (rejoin s.wrote.text d.text d.so.0 rest.text))
            (goes-on given besides row is first n s.now before is_owed left k s.wrote.text line same (d.text ++ d.so.0) d.so.1 d.so.2 s.wrote.so one
            (taken given log besides row mid s.now before line same (d.text ++ d.so.0) d.so.1 d.so.2 t mode tells alike d.so.3) rest.text rest.refusal rest.last rest.so),
      );
    }

-- ## Ends

-- something was refused, and once it is said the ticks end
record Ending (given : Setup) (log : List LogRow) (besides : Besides) (row : Row) (is : List Input) (first : List ℕ) (n : ℕ) (course : OnCourse) (e : Refusal) (rest : List ℕ) (a b : Option (List ℕ)) (p q : List ℕ) : Type 0 where
  left : List Input
  stands : Stands given log course left
  wrote : Wrote a b p q (λ said. Changes given besides row is first false n (said ++ rest) (Some e) left)

ends : (result : Result (Option Refusal) WriteError) (given : Setup) (log : List LogRow) (besides : Besides) (row : Row) (is : List Input) (first : List ℕ) (n : ℕ) (course : OnCourse) (e : Refusal) (rest : List ℕ) (a b c : Option (List ℕ)) (p q r : List ℕ)
    → Ending given log besides row is first n course e rest a b p q → OnOk result (result ≡ Ok (Some e)) → SaidUntilFault result b c q r rest → Done result given log course (Changes given besides row is first false n) a c p r
ends (Ok refusal) given log besides row is first n course e rest a b c p q r s why said =
    subst (λ (x : Result (Option Refusal) WriteError). Done x given log course (Changes given besides row is first false n) a c p r) (sym why) (
      s.left,
      s.stands,
      record { text = s.wrote.text ++ rest; said = said-more a b c p q r s.wrote.text rest s.wrote.said said; so = s.wrote.so },
    )
ends (Err f) given log besides row is first n course e rest a b c p q r s why cut = record {
  text = s.wrote.text ++ cut.text;
  said = said-more a b c p q r s.wrote.text cut.text s.wrote.said cut.said;
  so = (
    cut.so.0,
    Some e,
    s.left,
    subst (λ (v : List ℕ). Changes given besides row is first false n v (Some e) s.left)
        (ap (λ (v : List ℕ). s.wrote.text ++ v) cut.so.1 ∙ sym (append_assoc s.wrote.text cut.text cut.so.0)) s.wrote.so,
  );
}

-- the next tick was refused
pub changes-stop : (result : Result (Option Refusal) WriteError) (given : Setup) (log : List LogRow) (besides : Besides) (row : Row) (is : List Input) (first : List ℕ) (n : ℕ) (old new : OnCourse) (before : List ℕ) (is_owed : Bool) (left k : ℕ) (a b c : Option (List ℕ)) (p q r : List ℕ) (e : Refusal)
    → Changing given log besides row is first n old before is_owed left a b p q → left ≡ suc k
    → ((inputs : List Input) → Stands given log old inputs → Took (Err e) given log new inputs (Tick row))
    → OnOk result (result ≡ Ok (Some e)) → SaidUntilFault result b c q r (owed is_owed before ++ (besides.echo ++ with_feed (refused_line e)))
    → Done result given log new (Changes given besides row is first false n) a c p r
changes-stop result given log besides row is first n old new before is_owed left k a b c p q r e s one took why said =
    ends result given log besides row is first n new e (owed is_owed before ++ (besides.echo ++ with_feed (refused_line e))) a b c p q r
    (record { left = s.now; stands = (took s.now s.stands).1; wrote = record { text = s.wrote.text; said = s.wrote.said; so = all } }) why said
  where
    all : Changes given besides row is first false n (s.wrote.text ++ (owed is_owed before ++ (besides.echo ++ with_feed (refused_line e)))) (Some e) s.now
    all = s.wrote.so (owed is_owed before ++ (besides.echo ++ with_feed (refused_line e))) (Some e) s.now
        (subst (λ (m : ℕ). Changes given besides row s.now before is_owed m (owed is_owed before ++ (besides.echo ++ with_feed (refused_line e))) (Some e) s.now) (sym one)
        (inr (record { why = e; right = (took s.now s.stands).0; line = refl; refused = refl; left = refl })))

-- what follows the tick was refused
pub changes-stop-after : (result : Result (Option Refusal) WriteError) (given : Setup) (log : List LogRow) (besides : Besides) (row : Row) (is : List Input) (first : List ℕ) (n : ℕ) (old mid new : OnCourse) (before : List ℕ) (is_owed : Bool) (left k : ℕ) (line : List ℕ) (same : Bool) (stop : Option Refusal) (a b c d : Option (List ℕ)) (p q r t : List ℕ) (e : Refusal)
    → Changing given log besides row is first n old before is_owed left a b p q → left ≡ suc k → tells_in mid.mode ≡ besides.tells
    → ((inputs : List Input) → Stands given log old inputs → TookNext given log mid row inputs)
    → line ≡ line_in mid.is_wide (state_of mid.bench) → same ≡ shows_same line before
    → stop ≡ Some e → ((inputs : List Input) → Stands given log mid (Tick row ∷ inputs) → Done (Ok stop) given log new (TellsOf given mid inputs row line same) b c q r)
    → OnOk result (result ≡ Ok (Some e)) → SaidUntilFault result c d r t (owed same line ++ (besides.echo ++ with_feed (refused_line e)))
    → Done result given log new (Changes given besides row is first false n) a d p t
changes-stop-after result given log besides row is first n old mid new before is_owed left k line same stop a b c d p q r t e s one mode took tells alike some told why said =
    ends result given log besides row is first n new e (owed same line ++ refused_after besides.echo (Some e)) a c d p r t
    (record {
      left = done.0;
      stands = done.1;
      wrote = record {
        text = s.wrote.text ++ done.2.text;
        said = said-more a b c p q r s.wrote.text done.2.text s.wrote.said done.2.said;
        so = goes-on given besides row is first n s.now before is_owed left k s.wrote.text line same done.2.text (Some e) done.0 s.wrote.so one
            (taken given log besides row mid s.now before line same done.2.text (Some e) done.0 next mode tells alike done.2.so)
            (owed same line ++ refused_after besides.echo (Some e)) (Some e) done.0 (refl, refl, refl);
      };
    }) why said
  where
    next : TookNext given log mid row s.now
    next = took s.now s.stands

    done : Done (Ok (Some e)) given log new (TellsOf given mid s.now row line same) b c q r
    done = subst (λ (x : Option Refusal). Done (Ok x) given log new (TellsOf given mid s.now row line same) b c q r) some (told s.now next.took.1)

-- all ticks were taken
all-taken : (given : Setup) (log : List LogRow) (besides : Besides) (row : Row) (is : List Input) (first : List ℕ) (n : ℕ) (course : OnCourse) (before : List ℕ) (is_owed : Bool) (k : ℕ) (a b : Option (List ℕ)) (p q : List ℕ)
    → (s : Changing given log besides row is first n course before is_owed k a b p q) → k ≡ 0 → Changes given besides row is first false n (s.wrote.text ++ owed is_owed before) None s.now
all-taken given log besides row is first n course before is_owed k a b p q s none =
    s.wrote.so (owed is_owed before) None s.now (subst (λ (m : ℕ). Changes given besides row s.now before is_owed m (owed is_owed before) None s.now) (sym none) (refl, refl, refl))

pub changes-end : (given : Setup) (log : List LogRow) (besides : Besides) (row : Row) (is : List Input) (first : List ℕ) (n : ℕ) (course : OnCourse) (before : List ℕ) (is_owed : Bool) (k : ℕ) (a b c : Option (List ℕ)) (p q r : List ℕ)
    → Changing given log besides row is first n course before is_owed k a b p q → k ≡ 0 → Said b c q r (owed is_owed before) → Done (Ok None) given log course (Changes given besides row is first false n) a c p r
changes-end given log besides row is first n course before is_owed k a b c p q r s none said = (
  s.now,
  s.stands,
  record {
    text = s.wrote.text ++ owed is_owed before;
    said = said-more a b c p q r s.wrote.text (owed is_owed before) s.wrote.said said;
    so = all-taken given log besides row is first n course before is_owed k a b p q s none;
  },
)

pub changes-end-fault : (e : WriteError) (given : Setup) (log : List LogRow) (besides : Besides) (row : Row) (is : List Input) (first : List ℕ) (n : ℕ) (course : OnCourse) (before : List ℕ) (is_owed : Bool) (k : ℕ) (a b c : Option (List ℕ)) (p q r : List ℕ)
    → Changing given log besides row is first n course before is_owed k a b p q → k ≡ 0 → IsCutShort b c q r (owed is_owed before) → Done (Err e) given log course (Changes given besides row is first false n) a c p r
changes-end-fault e given log besides row is first n course before is_owed k a b c p q r s none cut = record {
  text = s.wrote.text ++ cut.text;
  said = said-more a b c p q r s.wrote.text cut.text s.wrote.said cut.said;
  so = (
    cut.so.0,
    None,
    s.now,
    subst (λ (v : List ℕ). Changes given besides row is first false n v None s.now)
        (ap (λ (v : List ℕ). s.wrote.text ++ v) cut.so.1 ∙ sym (append_assoc s.wrote.text cut.text cut.so.0)) (all-taken given log besides row is first n course before is_owed k a b p q s none),
  );
}
