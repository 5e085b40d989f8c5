-- What is said of an answer, where a bench has come from power-up by some inputs.
use Rattle.std.proofs.Common.{◌≡◌, ◌≤◌, ℕ, Bool, true, false, length, List, [], ◌∷◌, ◌++◌, None, Some, refl, sym, ap, ◌∙◌, append_assoc, arith, Ok, Err, subst, suc, inl, inr, OnOk, OnErr}
use Rattle.std.proofs.lemmas.Bool.{eq-eqb, le-ltb, lt-ltb}
use Rattle.std.proofs.lemmas.List.{append-nil}
use Rattle.std.specs.declared.option.Option.{Option}
use Rattle.std.specs.declared.result.Result.{Result}
use Rattle.tsb_objects.specs.tsb_types.declared.refusal.Refusal.{Refusal}
use Rattle.tsb_objects.specs.tsb_types.declared.refusal.Refusal.TheVariants.{Memory}
use Rattle.tsb_bench.specs.tsb_machine.declared.commands.MachineCommand.TheVariants.{Apply}
use Rattle.tsb_bench.specs.tsb_machine.declared.commands.Answer.{Answer}
use Rattle.tsb_bench.specs.tsb_machine.declared.commands.Answer.TheVariants as answers
use Rattle.tsb_bench.specs.tsb_machine.declared.commands.Answer.TheVariants.{Refused}
use Rattle.tsb_bench.specs.tsb_step.declared.inputs.Input.{Input}
use Rattle.tsb_bench.specs.tsb_step.declared.inputs.Input.TheVariants as inputs
use Rattle.tsb_bench.specs.tsb_step.Events.{events_of, usual_after}
use Rattle.tsb_bench.specs.tsb_step.Following.{action, following, selects, with_omits}
use Rattle.tsb_bench.specs.tsb_step.Play.{Cmd, IsRight, remaining_after}
use Rattle.tsb_bench.specs.tsb_step.Runs.{replay}
use Rattle.tsb_bench.specs.tsb_step.State.{State}
use Rattle.tsb_bench.specs.tsb_step.Step.{step}
use Rattle.tsb_objects.specs.tsb_plan.Plan.{Plan}
use Rattle.tsb_bench.specs.Held.{state_of, whole}
use Rattle.tsb_dialog.specs.Said.{IsCutShort, Said, SaidUntilFault, Wrote, with_feed}
use Rattle.tsb_dialog.proofs.SaidLemmas.{said-nothing, said-more, still-cut, until-line, until-more}
use Rattle.tsb_lines.specs.declared.writes.WriteError.{WriteError}
use Rattle.tsb_log_text.specs.declared.log.LogRow.{LogRow}
use Rattle.tsb_text.specs.declared.course.Mode.{Mode}
use Rattle.tsb_text.specs.declared.task.Task.TheVariants.{Show, Quit}
use Rattle.tsb_text.specs.Answers.{GoesUnless, Leads, Setup, followers, followers_of, line_in, next_tick, refused_after, refused_line, told}
use Rattle.tsb_text.specs.Obeyed.{Answered, Done, Followed, NextAfter, OnCourse, Stands, Took, news_in, tells_in}
use Rattle.tsb_text.specs.Obeys.{AsksOnce, Besides, Obeys, TakesTicks, Ticked, before_line, news, news_of, or_refusal, refusal_in, trail, trail_of}
use Rattle.tsb_text.specs.Trails.{Trailing, Trails}
use Rattle.tsb_text.specs.Wanting.{WantsAfter, WantsFollower, WantsOne}
use Rattle.tsb_text.specs.kept.Kept.{last_row}
use Rattle.tsb_text.proofs.CourseLemmas.{follows-state, told-alike}
use Rattle.tsb_text.proofs.ObeyLemmas.{more-ticks, some-ticks}
use Rattle.tsb_text.proofs.TextLemmas.{some-leads}

-- ## Texts

-- a text was said, and then a line, or a fault came before it
pub pair-said : (r : Result (Unit {0}) WriteError) (a b c : Option (List ℕ)) (p q u text line wanted : List ℕ) → line ≡ wanted → Said a b p q text → OnOk r (Said b c q u (with_feed line)) → OnErr r (Said b c q u [])
    → SaidUntilFault r a c p u (text ++ with_feed wanted)
pair-said r a b c p q u text line wanted is said ok fault =
    subst (λ (l : List ℕ). SaidUntilFault r a c p u (text ++ with_feed l)) is (until-more r a b c p q u text (with_feed line) said (until-line r b c q u (with_feed line) ok fault))

-- all of an answer was said
pub done-all : (given : Setup) (log : List LogRow) (course : OnCourse) (IsAnswer : List ℕ → Option Refusal → List Input → Type 0) (refusal : Option Refusal) (left : List Input) (text : List ℕ) (p q : Option (List ℕ)) (u v : List ℕ)
    → Stands given log course left → IsAnswer text refusal left → Said p q u v text → Done (Ok refusal) given log course IsAnswer p q u v
done-all given log course IsAnswer refusal left text p q u v stands so said = (left, stands, record { text = text; said = said; so = so })

-- or a fault came within it
pub done-cut : (e : WriteError) (given : Setup) (log : List LogRow) (course : OnCourse) (IsAnswer : List ℕ → Option Refusal → List Input → Type 0) (refusal : Option Refusal) (left : List Input) (text : List ℕ) (p q : Option (List ℕ)) (u v : List ℕ)
    → IsAnswer text refusal left → IsCutShort p q u v text → Done (Err e) given log course IsAnswer p q u v
done-cut e given log course IsAnswer refusal left text p q u v so cut =
    record { text = cut.text; said = cut.said; so = (cut.so.0, refusal, left, subst (λ (t : List ℕ). IsAnswer t refusal left) cut.so.1 so) }

-- one of both, where a call says it
pub done-so : (r : Result (Option Refusal) WriteError) (given : Setup) (log : List LogRow) (course : OnCourse) (IsAnswer : List ℕ → Option Refusal → List Input → Type 0) (refusal : Option Refusal) (left : List Input) (text : List ℕ) (p q : Option (List ℕ)) (u v : List ℕ)
    → Stands given log course left → IsAnswer text refusal left → OnOk r (r ≡ Ok refusal) → SaidUntilFault r p q u v text → Done r given log course IsAnswer p q u v
done-so (Ok x) given log course IsAnswer refusal left text p q u v stands so why said =
    subst (λ (r : Result (Option Refusal) WriteError). Done r given log course IsAnswer p q u v) (sym why) (done-all given log course IsAnswer refusal left text p q u v stands so said)
done-so (Err e) given log course IsAnswer refusal left text p q u v stands so why said = done-cut e given log course IsAnswer refusal left text p q u v so said

-- what was said of an answer before a fault
pub cut-of : (e : WriteError) (given : Setup) (log : List LogRow) (course : OnCourse) (IsAnswer : List ℕ → Option Refusal → List Input → Type 0) (p q : Option (List ℕ)) (u v : List ℕ)
    → (d : Done (Err e) given log course IsAnswer p q u v) → IsCutShort p q u v (d.text ++ d.so.0)
cut-of e given log course IsAnswer p q u v d = record { text = d.text; said = d.said; so = (d.so.0, refl) }

-- ## What follows

-- what found no memory after an input is a pattern, or a list of arrows
wants-one : (course : OnCourse) (i : Input) → WantsOne course i → WantsFollower course
wants-one course (inputs.Pattern n) wants = inl (n, wants)
wants-one course (inputs.Omit list) wants = inr (list, wants)
wants-one course i wants = absurd wants

pub wants-followers : (course : OnCourse) (next : List Input) → WantsAfter course next → WantsFollower course
wants-followers course [] wants = absurd wants
wants-followers course (i ∷ next) wants = elim wants [ inl one ↦ wants-one course i one | inr later ↦ wants-followers course next later ]

-- a call that says why something was refused says what it was given
pub told-stop : (r : Result (Option Refusal) WriteError) (stop : Option Refusal) → OnOk r (r ≡ Ok stop) → r ≡ Ok (Some Memory) → stop ≡ Some Memory
told-stop (Ok o) stop told is = grind (arith, told, is)
told-stop (Err w) stop told is = absurd (cc)

-- what is left has no fewer inputs
longer : (given : Setup) (is next : List Input) (stop : Option Refusal) (left : List Input) → Leads given is next stop left → length is ≤ length left
longer given is [] stop left leads = let same : length left ≡ length is = ap length leads.1 in omega (arith, same)
longer given is (i ∷ next) stop left (inl taken) =
    let more : length (i ∷ is) ≤ length left = longer given (i ∷ is) next stop left taken.1 in
    omega (arith, more)
longer given is (i ∷ next) stop left (inr refused) = let same : length left ≡ length is = ap length refused.left in omega (arith, same)

-- the events of an input that was taken, and of what follows that; what was refused has none
trail-taken : (tells : Bool) (given : Setup) (is : List Input) (i : Input) (next : List Input) (stop : Option Refusal) (left : List Input) → Leads given (i ∷ is) next stop left
    → trail tells given is (i ∷ next) left ≡ news tells given is i ++ trail tells given (i ∷ is) next left
trail-taken tells given is i next stop left leads =
    let more : length (i ∷ is) ≤ length left = longer given (i ∷ is) next stop left leads in
    rw (lt-ltb (length is) (length left) (omega (arith, more))) refl

trail-refused : (tells : Bool) (given : Setup) (is : List Input) (i : Input) (next left : List Input) → left ≡ is → trail tells given is (i ∷ next) left ≡ []
trail-refused tells given is i next left same =
    let all : length left ≡ length is = ap length same in
    rw (le-ltb (length is) (length left) (omega (arith, all))) refl

-- what follows was taken, and then what follows that; or nothing is left, or it was refused
trailing-taken : (tells : Bool) (given : Setup) (is : List Input) (i : Input) (next : List Input) (text : List ℕ) (stop : Option Refusal) (left : List Input) → IsRight given.plan is (Apply i) answers.Took
    → Trailing given tells (i ∷ is) next text stop left → Trailing given tells is (i ∷ next) (news tells given is i ++ text) stop left
trailing-taken tells given is i next text stop left right t = record {
  leads = inl (right, t.leads);
  told = ap (λ (v : List ℕ). news tells given is i ++ v) t.told ∙ sym (trail-taken tells given is i next stop left t.leads);
}

trailing-none : (tells : Bool) (given : Setup) (is : List Input) → Trailing given tells is [] [] None is
trailing-none tells given is = record { leads = (refl, refl); told = refl }

trailing-refused : (tells : Bool) (given : Setup) (is : List Input) (i : Input) (next : List Input) (e : Refusal) → IsRight given.plan is (Apply i) (Refused e)
    → Trailing given tells is (i ∷ next) [] (Some e) is
trailing-refused tells given is i next e right = record {
  leads = inr (record { why = e; right = right; refused = refl; left = refl });
  told = sym (trail-refused tells given is i next is refl);
}

-- so far: what is yet to be taken says the rest
abbrev pub TrailsOn : Setup → Bool → List Input → List Input → List Input → List Input → List ℕ → Type 0
TrailsOn given tells is first now next said =
    (text : List ℕ) (stop : Option Refusal) (left : List Input) → Trailing given tells now next text stop left → Trailing given tells is first (said ++ text) stop left

pub record Trailed (given : Setup) (log : List LogRow) (tells : Bool) (is first : List Input) (course : OnCourse) (p q : Option (List ℕ)) (u v : List ℕ) : Type 0 where
  pub now : List Input
  pub stands : Stands given log course now
  pub wrote : Wrote p q u v (TrailsOn given tells is first now course.next)

pub trailed-start : (given : Setup) (log : List LogRow) (tells : Bool) (is : List Input) (course : OnCourse) (p : Option (List ℕ)) (u : List ℕ) → Stands given log course is → Trailed given log tells is course.next course p p u u
trailed-start given log tells is course p u s =
    record { now = is; stands = s; wrote = record { text = []; said = said-nothing p u; so = λ text stop left t. t } }

-- the events of the newest input
news-same : (given : Setup) (log : List LogRow) (now : List Input) (new : OnCourse) (mode : Mode) (i : Input) → new.mode ≡ mode → Took (Ok tt) given log new now i → news_in new ≡ news (tells_in mode) given now i
news-same given log now new mode i same took =
    told-alike (tells_in new.mode) new.news (events_of (usual_after (last_row now)) (replay given.plan now) i) took.2 ∙ ap (λ (m : Mode). news (tells_in m) given now i) same

module _ (given : Setup) (log : List LogRow) (mode : Mode) (is first now : List Input) (new : OnCourse) (same : new.mode ≡ mode) (a b c : Option (List ℕ)) (p q r : List ℕ) where
  -- one more was taken, and its events were said
  pub trailed-more : (next : List Input) (said : List ℕ) → Followed (Ok true) given log next new now → NextAfter (Ok true) next new.next → Said a b p q said → TrailsOn given (tells_in mode) is first now next said
      → Said b c q r (news_in new) → Trailed given log (tells_in mode) is first new a c p r
  trailed-more [] said followed after before on there = let never : true ≡ false = after.0 in absurd (cc)
  trailed-more (i ∷ next) said followed after before on there = record {
    now = i ∷ now;
    stands = followed.1;
    wrote = record {
      text = said ++ news_in new;
      said = said-more a b c p q r said (news_in new) before there;
      so = λ text stop left t.
          (let further : Trailing given (tells_in mode) (i ∷ now) next text stop left = subst (λ (n : List Input). Trailing given (tells_in mode) (i ∷ now) n text stop left) after.1 t in
          let all : Trailing given (tells_in mode) is first (said ++ (news (tells_in mode) given now i ++ text)) stop left =
          on (news (tells_in mode) given now i ++ text) stop left (trailing-taken (tells_in mode) given now i next text stop left followed.0 further) in
          subst (λ (v : List ℕ). Trailing given (tells_in mode) is first v stop left)
          ((λ j. said ++ (sym (news-same given log now new mode i same followed) j ++ text)) ∙ sym (append_assoc said (news_in new) text)) all);
    };
  }

  -- a fault came within its events
  pub trailed-fault : (e : WriteError) (next : List Input) (said : List ℕ) → Followed (Ok true) given log next new now → NextAfter (Ok true) next new.next → Said a b p q said
      → TrailsOn given (tells_in mode) is first now next said → IsCutShort b c q r (news_in new) → Done (Err e) given log new (Trailing given (tells_in mode) is first) a c p r
  trailed-fault e [] said followed after before on cut = let never : true ≡ false = after.0 in absurd (cc)
  trailed-fault e (i ∷ next) said followed after before on cut =
      let f : (stop : Option Refusal) × (left : List Input) × Leads given (i ∷ now) next stop left = some-leads given (i ∷ now) next in
      let behind : List ℕ = trail (tells_in mode) given (i ∷ now) next f.1 in
      let own : news_in new ≡ news (tells_in mode) given now i = news-same given log now new mode i same followed in
      let all : Trailing given (tells_in mode) is first (said ++ (news (tells_in mode) given now i ++ behind)) f.0 f.1 =
      on (news (tells_in mode) given now i ++ behind) f.0 f.1 (trailing-taken (tells_in mode) given now i next behind f.0 f.1 followed.0 (record { leads = f.2; told = refl })) in
      done-cut e given log new (Trailing given (tells_in mode) is first) f.0 f.1 (said ++ (news_in new ++ behind)) a c p r
      (subst (λ (v : List ℕ). Trailing given (tells_in mode) is first (said ++ (v ++ behind)) f.0 f.1) (sym own) all)
      (until-more {T = Unit {0}} (Err e) a b c p q r said (news_in new ++ behind) before (still-cut b c q r (news_in new) behind cut))

module _ (given : Setup) (log : List LogRow) (mode : Mode) (is first now : List Input) (new : OnCourse) (a b : Option (List ℕ)) (p q : List ℕ) where
  -- nothing is left
  pub trailed-none : (next : List Input) (said : List ℕ) → Followed (Ok false) given log next new now → NextAfter (Ok false) next new.next → Said a b p q said
      → TrailsOn given (tells_in mode) is first now next said → Done (Ok None) given log new (Trailing given (tells_in mode) is first) a b p q
  trailed-none [] said followed after before on =
      done-all given log new (Trailing given (tells_in mode) is first) None now said a b p q followed
      (subst (λ (v : List ℕ). Trailing given (tells_in mode) is first v None now) (append-nil said) (on [] None now (trailing-none (tells_in mode) given now))) before
  trailed-none (i ∷ next) said followed after before on = let never : false ≡ true = after.0 in absurd (cc)

  -- one was refused
  pub trailed-refused : (e : Refusal) (next : List Input) (said : List ℕ) → Followed (Err e) given log next new now → Said a b p q said
      → TrailsOn given (tells_in mode) is first now next said → Done (Ok (Some e)) given log new (Trailing given (tells_in mode) is first) a b p q
  trailed-refused e [] said followed before on = absurd followed
  trailed-refused e (i ∷ next) said followed before on =
      done-all given log new (Trailing given (tells_in mode) is first) (Some e) now said a b p q followed.1
      (subst (λ (v : List ℕ). Trailing given (tells_in mode) is first v (Some e) now) (append-nil said) (on [] (Some e) now (trailing-refused (tells_in mode) given now i next e followed.0))) before

-- so of a course that is the same
pub follow-there : (r : Result (Option Refusal) WriteError) (here there new : OnCourse) (p q : Option (List ℕ)) (u v : List ℕ) → there ≡ here
    → ((given : Setup) (log : List LogRow) (inputs : List Input) → Stands given log there inputs → Done r given log new (Trailing given (tells_in there.mode) inputs there.next) p q u v)
    → (given : Setup) (log : List LogRow) (inputs : List Input) → Stands given log here inputs → Done r given log new (Trailing given (tells_in here.mode) inputs here.next) p q u v
follow-there r here there new p q u v same done given log inputs =
    subst (λ (x : OnCourse). Stands given log x inputs → Done r given log new (Trailing given (tells_in x.mode) inputs x.next) p q u v) same (done given log inputs)

-- ## What follows a tick

-- all that is said of a tick, with these lines of what follows
abbrev trails_text : List ℕ → List ℕ → List ℕ → List ℕ → Option Refusal → List ℕ
trails_text news trailing line echo refusal = (news ++ trailing) ++ (with_feed line ++ refused_after echo refusal)

module _ (given : Setup) (besides : Besides) (is next : List Input) (news line : List ℕ) where
  trails : (text : List ℕ) (refusal : Option Refusal) (left : List Input) → Trailing given besides.tells is next text refusal left
      → Trails given besides is next news line (trails_text news text line besides.echo refusal) refusal left
  trails text refusal left t = record { leads = t.leads; told = ap (λ (v : List ℕ). trails_text news v line besides.echo refusal) t.told }

  -- a fault came in the events of the tick
  pub trails-cut-news : (e : WriteError) (log : List LogRow) (course : OnCourse) (a b : Option (List ℕ)) (p q : List ℕ) → IsCutShort a b p q news → Done (Err e) given log course (Trails given besides is next news line) a b p q
  trails-cut-news e log course a b p q cut =
      let f : (stop : Option Refusal) × (left : List Input) × Leads given is next stop left = some-leads given is next in
      done-cut e given log course (Trails given besides is next news line) f.0 f.1 (trails_text news (trail besides.tells given is next f.1) line besides.echo f.0) a b p q
      (trails (trail besides.tells given is next f.1) f.0 f.1 (record { leads = f.2; told = refl }))
      (still-cut a b p q (news ++ trail besides.tells given is next f.1) (with_feed line ++ refused_after besides.echo f.0) (still-cut a b p q news (trail besides.tells given is next f.1) cut))

  module _ (log : List LogRow) (new : OnCourse) (a b c : Option (List ℕ)) (p q r : List ℕ) where
    -- in the events of what follows
    pub trails-cut-next : (e : WriteError) → Said a b p q news → Done (Err e) given log new (Trailing given besides.tells is next) b c q r → Done (Err e) given log new (Trails given besides is next news line) a c p r
    trails-cut-next e said d =
        done-cut e given log new (Trails given besides is next news line) d.so.1 d.so.2 (trails_text news (d.text ++ d.so.0) line besides.echo d.so.1) a c p r
        (trails (d.text ++ d.so.0) d.so.1 d.so.2 d.so.3)
        (still-cut a c p r (news ++ (d.text ++ d.so.0)) (with_feed line ++ refused_after besides.echo d.so.1)
        (until-more {T = Unit {0}} (Err e) a b c p q r news (d.text ++ d.so.0) said (cut-of e given log new (Trailing given besides.tells is next) b c q r d)))

  module _ (log : List LogRow) (new : OnCourse) (stop : Option Refusal) (a b c d : Option (List ℕ)) (p q r s : List ℕ) where
    -- in the line of the tick
    pub trails-cut-line : (e : WriteError) → Said a b p q news → Done (Ok stop) given log new (Trailing given besides.tells is next) b c q r → Said c d r s []
        → Done (Err e) given log new (Trails given besides is next news line) a d p s
    trails-cut-line e said f none =
        done-cut e given log new (Trails given besides is next news line) stop f.0 (trails_text news f.2.text line besides.echo stop) a d p s (trails f.2.text stop f.0 f.2.so)
        (until-more {T = Unit {0}} (Err e) a c d p r s (news ++ f.2.text) (with_feed line ++ refused_after besides.echo stop) (said-more a b c p q r news f.2.text said f.2.said)
        (record { text = []; said = none; so = (with_feed line ++ refused_after besides.echo stop, refl) }))

    -- all was said before the line of a refusal
    pub trails-so : (result : Result (Option Refusal) WriteError) (e : Option (List ℕ)) (t shown : List ℕ) → shown ≡ line → Said a b p q news → Done (Ok stop) given log new (Trailing given besides.tells is next) b c q r
        → Said c d r s (with_feed shown) → OnOk result (result ≡ Ok stop) → SaidUntilFault result d e s t (refused_after besides.echo stop) → Done result given log new (Trails given besides is next news line) a e p t
    trails-so result e t shown same said f there why last =
        done-so result given log new (Trails given besides is next news line) stop f.0 (trails_text news f.2.text line besides.echo stop) a e p t f.1 (trails f.2.text stop f.0 f.2.so) why
        (until-more result a c e p r t (news ++ f.2.text) (with_feed line ++ refused_after besides.echo stop) (said-more a b c p q r news f.2.text said f.2.said)
        (until-more result c d e r s t (with_feed line) (refused_after besides.echo stop) (subst (λ (l : List ℕ). Said c d r s (with_feed l)) same there) last))

-- ## What the bench is asked once

-- what is said before the line of an answer, with the events of the newest input
before-same : (echo : List ℕ) (a : Answer) (here told : List ℕ) → (a ≡ answers.Took → here ≡ told) → before_line echo a here ≡ before_line echo a told
before-same echo answers.Took here told same = ap (λ (t : List ℕ). echo ++ t) (same refl)
before-same echo answers.Moved here told same = refl
before-same echo a here told same = refl

-- why an input was refused that was answered so
refused-so : (a : Answer) (e : Refusal) → Some e ≡ refusal_in a → a ≡ Refused e
refused-so (Refused x) e is = ap Refused (grind (arith, is))
refused-so a e is = absurd (cc)

-- what is said of a refused input
refused-once : (given : Setup) (besides : Besides) (is : List Input) (cmd : Cmd) (e : Refusal) → IsRight given.plan is cmd (Refused e)
    → AsksOnce given besides is cmd (besides.echo ++ with_feed (refused_line e)) (Some e) (remaining_after given.plan is cmd (Refused e))
refused-once given besides is (Apply i) e right = record {
  answer = Refused e;
  right = right;
  stop = None;
  left = (refl, refl);
  line = λ j. sym (append-nil besides.echo) j ++ sym (append-nil (with_feed (refused_line e))) j;
  refused = refl;
}
refused-once given besides is cmd e right = absurd right

pub ask-refused : (r : Result (Option Refusal) WriteError) (given : Setup) (log : List LogRow) (is : List Input) (cmd : Cmd) (a : Answer) (course : OnCourse) (besides : Besides) (e : Refusal) (p q : Option (List ℕ)) (u v : List ℕ)
    → Answered given log course is cmd a → Some e ≡ refusal_in a → OnOk r (r ≡ Ok (Some e)) → SaidUntilFault r p q u v (besides.echo ++ with_feed (refused_line e)) → Done r given log course (AsksOnce given besides is cmd) p q u v
ask-refused r given log is cmd a course besides e p q u v s why told said =
    let x : Answered given log course is cmd (Refused e) = subst (λ (b : Answer). Answered given log course is cmd b) (refused-so a e why) s in
    done-so r given log course (AsksOnce given besides is cmd) (Some e) (remaining_after given.plan is cmd (Refused e)) (besides.echo ++ with_feed (refused_line e)) p q u v x.stands
    (refused-once given besides is cmd e x.right) told said

-- a check at the desk brings no other action into force
check-alone : (s : State) (station : ℕ) → following s (step s (inputs.Verify station)) ≡ None
unfolding step
check-alone s station = go s.plan (action s)
  where
    go : (plan : Plan) (a : Option ℕ) → selects plan a a ≡ None
    go plan None = refl
    go plan (Some a) = rw (eq-eqb a a refl) refl

check-follows : (acts : Bool) (given : Setup) (is : List Input) (station : ℕ) → given.acts ≡ acts → followers given is (inputs.Verify station) ≡ []
check-follows true given is station acts =
    rw acts (ap (with_omits (step (replay given.plan is) (inputs.Verify station))) (check-alone (replay given.plan is) station))
check-follows false given is station acts = rw acts refl

-- what follows leaves the line of an answer as it was: of an answer that shows a state nothing follows
alone-told : (given : Setup) (after : List Input) (stop : Option Refusal) (left : List Input) (cmd : Cmd) (a : Answer) (next : List Input) → next ≡ [] → Leads given after next stop left
    → told given.is_wide cmd a (replay given.plan left) ≡ told given.is_wide cmd a (replay given.plan after)
alone-told given after stop left cmd a next none leads =
    let l : (stop ≡ None) × (left ≡ after) = subst (λ (n : List Input). Leads given after n stop left) none leads in
    ap (λ (is : List Input). told given.is_wide cmd a (replay given.plan is)) l.1

line-stays : (given : Setup) (is : List Input) (cmd : Cmd) (a : Answer) (stop : Option Refusal) (left : List Input) → Leads given (remaining_after given.plan is cmd a) (followers_of given is cmd a) stop left
    → told given.is_wide cmd a (replay given.plan left) ≡ told given.is_wide cmd a (replay given.plan (remaining_after given.plan is cmd a))
line-stays given is (Apply (inputs.Verify station)) answers.Took stop left leads =
    alone-told given (inputs.Verify station ∷ is) stop left (Apply (inputs.Verify station)) answers.Took (followers given is (inputs.Verify station)) (check-follows given.acts given is station refl) leads
line-stays given is (Apply i) answers.Took stop left leads = refl
line-stays given is cmd a stop left leads = alone-told given (remaining_after given.plan is cmd a) stop left cmd a [] refl leads

-- all that is said of an answer that is no refusal, with these lines of what follows
abbrev once_text : List ℕ → Answer → List ℕ → List ℕ → Bool → Cmd → State → Option Refusal → List ℕ
once_text echo a news trailing is_wide cmd s stop = (before_line echo a news ++ trailing) ++ (with_feed (told is_wide cmd a s) ++ refused_after echo stop)

module _ (given : Setup) (log : List LogRow) (is : List Input) (cmd : Cmd) (a : Answer) (mid : OnCourse) (mode : Mode) (echo : List ℕ) (same : mid.mode ≡ mode) (none : None ≡ refusal_in a)
    (s : Answered given log mid is cmd a) (next : mid.next ≡ followers_of given is cmd a) where
  -- what remains before what follows
  abbrev after : List Input
  after = remaining_after given.plan is cmd a

  abbrev IsOnce : List ℕ → Option Refusal → List Input → Type 0
  IsOnce = AsksOnce given (record { tells = tells_in mode; echo = echo }) is cmd

  abbrev TrailedThere : List ℕ → Option Refusal → List Input → Type 0
  TrailedThere = Trailing given (tells_in mid.mode) after mid.next

  leads-there : (stop : Option Refusal) (left : List Input) → Leads given after mid.next stop left → Leads given after (followers_of given is cmd a) stop left
  leads-there stop left leads = subst (λ (n : List Input). Leads given after n stop left) next leads

  once : (text : List ℕ) (stop : Option Refusal) (left : List Input) (is_wide : Bool) (state : State) → TrailedThere text stop left
      → told is_wide cmd a state ≡ told given.is_wide cmd a (replay given.plan after) → IsOnce (once_text echo a (news_in mid) text is_wide cmd state stop) stop left
  once text stop left is_wide state t line =
      let before : before_line echo a (news_in mid) ≡ before_line echo a (news_of (tells_in mode) given is cmd) =
      before-same echo a (news_in mid) (news_of (tells_in mode) given is cmd) (λ took. s.tells took ∙ ap (λ (m : Mode). news_of (tells_in m) given is cmd) same) in
      let trailing : text ≡ trail_of (tells_in mode) given is cmd a left = t.told ∙ (λ j. trail (tells_in (same j)) given after (next j) left) in
      record {
        answer = a;
        right = s.right;
        stop = stop;
        left = leads-there stop left t.leads;
        line = λ j. (before j ++ trailing j) ++ (with_feed (line j) ++ refused_after echo stop);
        refused = ap (λ (x : Option Refusal). or_refusal x stop) none;
      }

  -- a fault came before what follows was taken
  pub ask-cut-before : (e : WriteError) (p q : Option (List ℕ)) (u v : List ℕ) → IsCutShort p q u v (before_line echo a (news_in mid)) → Done (Err e) given log mid IsOnce p q u v
  ask-cut-before e p q u v cut =
      let f : (stop : Option Refusal) × (left : List Input) × Leads given after mid.next stop left = some-leads given after mid.next in
      let tells : List ℕ = trail (tells_in mid.mode) given after mid.next f.1 in
      let state : State = replay given.plan after in
      done-cut e given log mid IsOnce f.0 f.1 (once_text echo a (news_in mid) tells given.is_wide cmd state f.0) p q u v
      (once tells f.0 f.1 given.is_wide state (record { leads = f.2; told = refl }) refl)
      (still-cut p q u v (before_line echo a (news_in mid) ++ tells) (with_feed (told given.is_wide cmd a state) ++ refused_after echo f.0)
      (still-cut p q u v (before_line echo a (news_in mid)) tells cut))

  module _ (new : OnCourse) where
    -- in the events of what follows
    pub ask-cut-next : (e : WriteError) (x y z : Option (List ℕ)) (p q r : List ℕ) → Said x y p q (before_line echo a (news_in mid)) → Done (Err e) given log new TrailedThere y z q r → Done (Err e) given log new IsOnce x z p r
    ask-cut-next e x y z p q r said d =
        let state : State = replay given.plan after in
        done-cut e given log new IsOnce d.so.1 d.so.2 (once_text echo a (news_in mid) (d.text ++ d.so.0) given.is_wide cmd state d.so.1) x z p r
        (once (d.text ++ d.so.0) d.so.1 d.so.2 given.is_wide state d.so.3 refl)
        (still-cut x z p r (before_line echo a (news_in mid) ++ (d.text ++ d.so.0)) (with_feed (told given.is_wide cmd a state) ++ refused_after echo d.so.1)
        (until-more {T = Unit {0}} (Err e) x y z p q r (before_line echo a (news_in mid)) (d.text ++ d.so.0) said (cut-of e given log new TrailedThere y z q r d)))

    module _ (stop : Option Refusal) (x y z w : Option (List ℕ)) (p q r t : List ℕ) (said : Said x y p q (before_line echo a (news_in mid)))
        (f : Done (Ok stop) given log new TrailedThere y z q r) where
      -- the line shows the state before what follows
      shows : told new.is_wide cmd a (state_of new.bench) ≡ told given.is_wide cmd a (replay given.plan after)
      shows =
          (λ j. told (f.1.wide j) cmd a (follows-state given.plan (whole new.bench) f.0 f.1.follows j))
          ∙ line-stays given is cmd a stop f.0 (leads-there stop f.0 f.2.so.leads)

      -- in the line of the answer
      pub ask-cut-line : (e : WriteError) → IsCutShort z w r t (with_feed (told new.is_wide cmd a (state_of new.bench))) → Done (Err e) given log new IsOnce x w p t
      ask-cut-line e cut =
          done-cut e given log new IsOnce stop f.0 (once_text echo a (news_in mid) f.2.text new.is_wide cmd (state_of new.bench) stop) x w p t (once f.2.text stop f.0 new.is_wide (state_of new.bench) f.2.so shows)
          (until-more {T = Unit {0}} (Err e) x z w p r t (before_line echo a (news_in mid) ++ f.2.text) (with_feed (told new.is_wide cmd a (state_of new.bench)) ++ refused_after echo stop)
          (said-more x y z p q r (before_line echo a (news_in mid)) f.2.text said f.2.said)
          (still-cut z w r t (with_feed (told new.is_wide cmd a (state_of new.bench))) (refused_after echo stop) cut))

      -- all was said before the line of a refusal
      pub ask-so : (result : Result (Option Refusal) WriteError) (o : Option (List ℕ)) (l : List ℕ) → Said z w r t (with_feed (told new.is_wide cmd a (state_of new.bench)))
          → OnOk result (result ≡ Ok stop) → SaidUntilFault result w o t l (refused_after echo stop) → Done result given log new IsOnce x o p l
      ask-so result o l shown why last =
          done-so result given log new IsOnce stop f.0 (once_text echo a (news_in mid) f.2.text new.is_wide cmd (state_of new.bench) stop) x o p l f.1 (once f.2.text stop f.0 new.is_wide (state_of new.bench) f.2.so shows) why
          (until-more result x z o p r l (before_line echo a (news_in mid) ++ f.2.text) (with_feed (told new.is_wide cmd a (state_of new.bench)) ++ refused_after echo stop)
          (said-more x y z p q r (before_line echo a (news_in mid)) f.2.text said f.2.said)
          (until-more result z w o r t l (with_feed (told new.is_wide cmd a (state_of new.bench))) (refused_after echo stop) shown last))

-- ## The display, and the end

pub show-done : (given : Setup) (log : List LogRow) (besides : Besides) (is : List Input) (course : OnCourse) (p q : Option (List ℕ)) (u v line : List ℕ)
    → Stands given log course is → line ≡ line_in course.is_wide (state_of course.bench) → Said p q u v (with_feed line) → Done (Ok None) given log course (Obeys given besides is Show) p q u v
show-done given log besides is course p q u v line stands tells said =
    let state : state_of course.bench ≡ replay given.plan is = follows-state given.plan (whole course.bench) is stands.follows in
    (is, stands, record { text = with_feed line; said = said; so = (ap with_feed (tells ∙ (λ j. line_in (stands.wide j) (state j))), refl, refl) })

pub show-fault : (e : WriteError) (given : Setup) (log : List LogRow) (besides : Besides) (is : List Input) (course : OnCourse) (p q : Option (List ℕ)) (u v line : List ℕ)
    → Stands given log course is → line ≡ line_in course.is_wide (state_of course.bench) → Said p q u v [] → Done (Err e) given log course (Obeys given besides is Show) p q u v
show-fault e given log besides is course p q u v line stands tells said =
    let state : state_of course.bench ≡ replay given.plan is = follows-state given.plan (whole course.bench) is stands.follows in
    record { text = []; said = said; so = (with_feed line, None, is, (ap with_feed (tells ∙ (λ j. line_in (stands.wide j) (state j))), refl, refl)) }

pub quit-done : (given : Setup) (log : List LogRow) (besides : Besides) (is : List Input) (course : OnCourse) (p : Option (List ℕ)) (u : List ℕ) → Stands given log course is
    → Done (Ok None) given log course (Obeys given besides is Quit) p p u u
quit-done given log besides is course p u stands = (is, stands, record { text = []; said = said-nothing p u; so = (refl, refl, refl) })

-- ## Ticks

-- so many ticks are answered by this, and then by what answers k ticks from these inputs on
abbrev pub TicksOn : Setup → Besides → List Input → ℕ → List Input → ℕ → List ℕ → Type 0
TicksOn given besides inputs n now k said =
    (text : List ℕ) (refusal : Option Refusal) (last : List Input) → TakesTicks given besides now k text refusal last → TakesTicks given besides inputs n (said ++ text) refusal last

-- so far: the ticks that are to come answer the rest
pub record Stepping (given : Setup) (log : List LogRow) (besides : Besides) (is : List Input) (n : ℕ) (course : OnCourse) (k : ℕ) (p q : Option (List ℕ)) (u v : List ℕ) : Type 0 where
  pub now : List Input
  pub stands : Stands given log course now
  pub wrote : Wrote p q u v (TicksOn given besides is n now k)

pub steps-start : (given : Setup) (log : List LogRow) (besides : Besides) (is : List Input) (n k : ℕ) (course : OnCourse) (p : Option (List ℕ)) (u : List ℕ) → k ≡ n → Stands given log course is
    → Stepping given log besides is n course k p p u u
steps-start given log besides is n k course p u all stands = record {
  now = is;
  stands = stands;
  wrote = record { text = []; said = said-nothing p u; so = λ text refusal last s. subst (λ (m : ℕ). TakesTicks given besides is m text refusal last) all s };
}

-- a tick was taken, and what follows it; then this is said
ticked : (given : Setup) (log : List LogRow) (besides : Besides) (now : List Input) (mid : OnCourse) (text rest : List ℕ) (stop : Option Refusal) (left : List Input)
    → tells_in mid.mode ≡ besides.tells → Took (Ok tt) given log mid now (next_tick given now) → mid.next ≡ followers given now (next_tick given now)
    → Trails given (record { tells = tells_in mid.mode; echo = besides.echo }) (next_tick given now ∷ now) mid.next (news_in mid) (line_in given.is_wide (state_of mid.bench)) text stop left
    → Ticked given besides now (text ++ rest) rest stop left
ticked given log besides now mid text rest stop left tells took next t =
    let i : Input = next_tick given now in
    let told : List ℕ = news_in mid ++ trail (tells_in mid.mode) given (i ∷ now) mid.next left in
    let shown : List ℕ = with_feed (line_in given.is_wide (state_of mid.bench)) in
    let refused : List ℕ = refused_after besides.echo stop in
    let state : state_of mid.bench ≡ replay given.plan (i ∷ now) = follows-state given.plan (whole mid.bench) (i ∷ now) took.1.follows in
    let same : news_in mid ≡ news besides.tells given now i =
    told-alike (tells_in mid.mode) mid.news (events_of (usual_after (last_row now)) (replay given.plan now) i) took.2 ∙ ap (λ (b : Bool). news b given now i) tells in
    record {
      right = took.0;
      leads = subst (λ (n : List Input). Leads given (i ∷ now) n stop left) next t.leads;
      line = ap (λ (v : List ℕ). v ++ rest) t.told ∙ append_assoc told (shown ++ refused) rest ∙ ap (λ (v : List ℕ). told ++ v) (append_assoc shown refused rest)
          ∙ (λ j. (same j ++ trail (tells j) given (i ∷ now) (next j) left) ++ (with_feed (line_in given.is_wide (state j)) ++ (refused ++ rest)));
    }

-- a tick that takes a bench to another, with what follows it
module _ (given : Setup) (log : List LogRow) (besides : Besides) (is : List Input) (n : ℕ) (old mid new : OnCourse) (left k : ℕ) (a b c : Option (List ℕ)) (p q r : List ℕ)
    (s : Stepping given log besides is n old left a b p q) (one : left ≡ suc k) (tells : tells_in mid.mode ≡ besides.tells)
    (took : (given : Setup) (log : List LogRow) (inputs : List Input) → Stands given log old inputs → Took (Ok tt) given log mid inputs (next_tick given inputs))
    (next : (given : Setup) (log : List LogRow) (inputs : List Input) → Stands given log old inputs → mid.next ≡ followers given inputs (next_tick given inputs)) where
  -- all that is said of the tick
  abbrev TrailsTick : Setup → List Input → List ℕ → Option Refusal → List Input → Type 0
  TrailsTick given inputs = Trails given (record { tells = tells_in mid.mode; echo = besides.echo }) inputs mid.next (news_in mid) (line_in given.is_wide (state_of mid.bench))

  abbrev behind : List Input
  behind = next_tick given s.now ∷ s.now

  there : Took (Ok tt) given log mid s.now (next_tick given s.now)
  there = took given log s.now s.stands

  -- the tick answers the first of the ticks that are left
  step-on : (text rest : List ℕ) (stop refusal : Option Refusal) (gone last : List Input) → TrailsTick given behind text stop gone
      → GoesUnless stop (TakesTicks given besides gone k rest refusal last) ((rest ≡ []) × (refusal ≡ stop) × (last ≡ gone)) → TakesTicks given besides is n (s.wrote.text ++ (text ++ rest)) refusal last
  step-on text rest stop refusal gone last t more =
      s.wrote.so (text ++ rest) refusal last (subst (λ (m : ℕ). TakesTicks given besides s.now m (text ++ rest) refusal last) (sym one)
      (inl (rest, stop, gone, ticked given log besides s.now mid text rest stop gone tells there (next given log s.now s.stands) t, more)))

  pub steps-more : (stop : Option Refusal) → stop ≡ None → ((given : Setup) (log : List LogRow) (inputs : List Input) → Stands given log mid inputs → Done (Ok stop) given log new (TrailsTick given inputs) b c q r)
      → Stepping given log besides is n new k a c p r
  steps-more stop none done =
      let d : Done (Ok None) given log new (TrailsTick given behind) b c q r = subst (λ (o : Option Refusal). Done (Ok o) given log new (TrailsTick given behind) b c q r) none (done given log behind there.1) in
      record {
        now = d.0;
        stands = d.1;
        wrote = record {
          text = s.wrote.text ++ d.2.text;
          said = said-more a b c p q r s.wrote.text d.2.text s.wrote.said d.2.said;
          so = λ text refusal last steps.
              subst (λ (v : List ℕ). TakesTicks given besides is n v refusal last) (sym (append_assoc s.wrote.text d.2.text text)) (step-on d.2.text text None refusal d.0 last d.2.so steps);
        };
      }

  pub steps-over : (stop : Option Refusal) (e : Refusal) → stop ≡ Some e → ((given : Setup) (log : List LogRow) (inputs : List Input) → Stands given log mid inputs → Done (Ok stop) given log new (TrailsTick given inputs) b c q r)
      → Done (Ok (Some e)) given log new (TakesTicks given besides is n) a c p r
  steps-over stop e some done =
      let d : Done (Ok (Some e)) given log new (TrailsTick given behind) b c q r = subst (λ (o : Option Refusal). Done (Ok o) given log new (TrailsTick given behind) b c q r) some (done given log behind there.1) in
      done-all given log new (TakesTicks given besides is n) (Some e) d.0 (s.wrote.text ++ d.2.text) a c p r d.1
      (subst (λ (v : List ℕ). TakesTicks given besides is n (s.wrote.text ++ v) (Some e) d.0) (append-nil d.2.text) (step-on d.2.text [] (Some e) (Some e) d.0 d.0 d.2.so (refl, refl, refl)))
      (said-more a b c p q r s.wrote.text d.2.text s.wrote.said d.2.said)

  pub steps-fault : (e : WriteError) → ((given : Setup) (log : List LogRow) (inputs : List Input) → Stands given log mid inputs → Done (Err e) given log new (TrailsTick given inputs) b c q r)
      → Done (Err e) given log new (TakesTicks given besides is n) a c p r
  steps-fault e done =
      let d : Done (Err e) given log new (TrailsTick given behind) b c q r = done given log behind there.1 in
      let text : List ℕ = d.text ++ d.so.0 in
      let more : (text : List ℕ) × (refusal : Option Refusal) × (last : List Input) × GoesUnless d.so.1 (TakesTicks given besides d.so.2 k text refusal last) ((text ≡ []) × (refusal ≡ d.so.1) × (last ≡ d.so.2)) =
      more-ticks given besides k d.so.1 d.so.2 (some-ticks given besides k d.so.2) in
      done-cut e given log new (TakesTicks given besides is n) more.1 more.2 (s.wrote.text ++ (text ++ more.0)) a c p r (step-on text more.0 d.so.1 more.1 d.so.2 more.2 d.so.3 more.3)
      (until-more {T = Unit {0}} (Err e) a b c p q r s.wrote.text (text ++ more.0) s.wrote.said
      (still-cut b c q r text more.0 (cut-of e given log new (TrailsTick given behind) b c q r d)))

-- what a refused tick makes of the steps
record Ends (given : Setup) (log : List LogRow) (besides : Besides) (is : List Input) (n : ℕ) (now : List Input) (new : OnCourse) (said line : List ℕ) (e : Refusal) : Type 0 where
  stands : Stands given log new now
  all : TakesTicks given besides is n (said ++ line) (Some e) now

stopped : (given : Setup) (log : List LogRow) (besides : Besides) (is : List Input) (n : ℕ) (now : List Input) (old new : OnCourse) (k left : ℕ) (said : List ℕ) (e : Refusal)
    → Stands given log old now → left ≡ suc k → Took (Err e) given log new now (next_tick given now) → TicksOn given besides is n now left said
    → Ends given log besides is n now new said (besides.echo ++ with_feed (refused_line e)) e
stopped given log besides is n now old new k left said e stands one took on =
    record {
      stands = took.1;
      all = on (besides.echo ++ with_feed (refused_line e)) (Some e) now (subst (λ (m : ℕ). TakesTicks given besides now m (besides.echo ++ with_feed (refused_line e)) (Some e) now) (sym one)
          (inr (record { why = e; right = took.0; line = refl; refused = refl; left = refl })));
    }

pub steps-stop : (r : Result (Option Refusal) WriteError) (given : Setup) (log : List LogRow) (besides : Besides) (is : List Input) (n : ℕ) (old new : OnCourse) (left k : ℕ) (a b c : Option (List ℕ)) (p q r' : List ℕ) (e : Refusal)
    → Stepping given log besides is n old left a b p q → left ≡ suc k
    → ((given : Setup) (log : List LogRow) (inputs : List Input) → Stands given log old inputs → Took (Err e) given log new inputs (next_tick given inputs))
    → OnOk r (r ≡ Ok (Some e)) → SaidUntilFault r b c q r' (besides.echo ++ with_feed (refused_line e)) → Done r given log new (TakesTicks given besides is n) a c p r'
steps-stop r given log besides is n old new left k a b c p q r' e s one took why said =
    let line : List ℕ = besides.echo ++ with_feed (refused_line e) in
    let x : Ends given log besides is n s.now new s.wrote.text line e = stopped given log besides is n s.now old new k left s.wrote.text e s.stands one (took given log s.now s.stands) s.wrote.so in
    done-so r given log new (TakesTicks given besides is n) (Some e) s.now (s.wrote.text ++ line) a c p r' x.stands x.all why (until-more r a b c p q r' s.wrote.text line s.wrote.said said)

pub steps-end : (given : Setup) (log : List LogRow) (besides : Besides) (is : List Input) (n : ℕ) (course : OnCourse) (k : ℕ) (a b : Option (List ℕ)) (p q : List ℕ) → Stepping given log besides is n course k a b p q → k ≡ 0
    → Done (Ok None) given log course (TakesTicks given besides is n) a b p q
steps-end given log besides is n course k a b p q s none = (
  s.now,
  s.stands,
  record {
    text = s.wrote.text;
    said = s.wrote.said;
    so = subst (λ (v : List ℕ). TakesTicks given besides is n v None s.now) (append-nil s.wrote.text)
        (s.wrote.so [] None s.now (subst (λ (m : ℕ). TakesTicks given besides s.now m [] None s.now) (sym none) (refl, refl, refl)));
  },
)
