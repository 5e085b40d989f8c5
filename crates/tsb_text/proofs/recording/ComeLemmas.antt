-- What lines come to, from what was told of each.
use Rattle.std.proofs.Common.{codes, zero, suc, ◌≡◌, ◌∙◌, ℕ, ◌+◌, ◌<◌, ◌≤◌, Bool, true, false, Some, None, List, [], ◌∷◌, ◌++◌, length, map, take, take_all, append_assoc, refl, sym, ap, subst, arith, inl, inr}
use Rattle.std.proofs.lemmas.Bool.{cases_lt}
use Rattle.std.proofs.lemmas.List.{append-nil, length-take-le, take-take}
use Rattle.std.specs.declared.option.Option.{Option}
use Rattle.tsb_step.specs.declared.inputs.Input.{Input}
use Rattle.tsb_step.specs.declared.log_form.LogForm.{LogForm}
use Rattle.tsb_command_text.specs.declared.command.Reading.{Reading}
use Rattle.tsb_command_text.specs.declared.command.Reading.TheVariants.{Bad}
use Rattle.tsb_command_text.specs.Readings.{reading}
use Rattle.tsb_lines.specs.Lines.{HasNoFeed, kept, lines_of, without_return}
use Rattle.tsb_lines.proofs.KeptLemmas.{kept-tells}
use Rattle.tsb_lines.proofs.LineLemmas.{length-return, lines-alone, lines-joined}
use Rattle.tsb_dialog.specs.declared.answers.Flow.{Flow}
use Rattle.tsb_dialog.specs.declared.answers.Flow.TheVariants.{On, Over}
use Rattle.tsb_dialog.specs.Heard.{HaveNoFeed, Heard, IsAnswered, IsOver, Runs, asked, fed}
use Rattle.tsb_text.specs.Answers.{Setup}
use Rattle.tsb_text.specs.Stops.{Stopped}
use Rattle.tsb_text.specs.declared.faults.LineFault.{LineFault}
use Rattle.tsb_text.specs.declared.faults.OnFault.{OnFault}
use Rattle.tsb_text.specs.recording.Ended.{Carries, TellsWhole}
use Rattle.std.specs.Fmt.{decimal}
use Rattle.tsb_text.specs.Faults.{fault_words, shown_byte}
use Rattle.tsb_text.specs.declared.faults.OnFault.TheVariants as faults
use Rattle.tsb_text.specs.recording.Faults.{fault_text}
use Rattle.tsb_text.specs.recording.Leaves.{Come, Does, End, Ends, Follows, quits}
use Rattle.tsb_text.specs.Stops.{flow_after, stopped_at}
use Rattle.tsb_text.specs.recording.Lines.{Course, TellsLine, says}
use Rattle.tsb_text.proofs.TextLemmas.{reading-long}

-- ## What is kept of a line reads as all of it

last-read : (line : List ℕ) → reading (kept 202 line) ≡ reading line
last-read line = kept-tells reading 202 Bad (λ v long. reading-long v (omega (arith, long))) line

line-read : (line : List ℕ) → reading (without_return (kept 202 line)) ≡ reading (without_return line)
line-read line =
    kept-tells (λ (v : List ℕ). reading (without_return v)) 202 Bad
    (λ v long. let more : length v ≤ length (without_return v) + 1 = length-return v in reading-long (without_return v) (omega (arith, more, long))) line

-- ## and is told as all of it

-- the first bytes of a longer line are the same without its return
return-far : (n : ℕ) (line : List ℕ) → n < length line → take n (without_return line) ≡ take n line
return-far zero line lt = refl
return-far (suc n) [] lt = absurd (omega (arith, lt))
return-far (suc n) (b ∷ []) lt = absurd (omega (arith, lt))
return-far (suc n) (b ∷ c ∷ bs) lt = ap (λ (v : List ℕ). b ∷ v) (return-far n (c ∷ bs) (omega (arith, lt)))

last-front : (line : List ℕ) → take 200 (kept 202 line) ≡ take 200 line
last-front line = take-take 200 202 line (omega arith)

line-front : (line : List ℕ) → take 200 (without_return (kept 202 line)) ≡ take 200 (without_return line)
line-front line = elim (cases_lt (length line) 202) [
  | inl less ↦ ap (λ (v : List ℕ). take 200 (without_return v)) (take_all 202 line (omega (arith, less)))
  | inr long ↦
      let full : length (take 202 line) ≡ 202 = length-take-le 202 line long in
      let first : take 200 (without_return (take 202 line)) ≡ take 200 (take 202 line) = return-far 200 (take 202 line) (omega (arith, full)) in
      let second : take 200 (without_return line) ≡ take 200 line = return-far 200 line (omega (arith, long)) in
      first ∙ take-take 200 202 line (omega arith) ∙ sym second
]

text-same : (n : ℕ) (line other : List ℕ) (fault : Option LineFault) → take 200 line ≡ take 200 other → fault_text n line fault ≡ fault_text n other fault
text-same n line other None same = refl
text-same n line other (Some fault) same = ap (λ (v : List ℕ). codes "command " ++ (decimal n ++ (codes ": " ++ (map shown_byte v ++ (codes ": " ++ (fault_words fault ++ 10 ∷ [])))))) same

stopped-same : (w : OnFault) (n : ℕ) (line other : List ℕ) (fault : Option LineFault) → take 200 line ≡ take 200 other → stopped_at w n line fault ≡ stopped_at w n other fault
stopped-same faults.Stop n line other (Some fault) same = λ j. Some (record { number = n; line = same j; fault = fault })
stopped-same w n line other fault same = refl

-- so what is told of what is kept is told of the line
tells-same : (w : OnFault) (given : Setup) (is : List Input) (n : ℕ) (line other text : List ℕ) (flow : Flow) (new : End) → reading line ≡ reading other → take 200 line ≡ take 200 other
    → TellsLine w given is n line text flow new → TellsLine w given is n other text flow new
tells-same w given is n line other text flow new reads front t = (
  t.0,
  subst (λ (r : Reading). Does given is r t.0 new.inputs) reads t.1,
  t.2 ∙ text-same n line other t.0 front,
  t.3 ∙ stopped-same w n line other t.0 front,
  t.4 ∙ (λ j. flow_after (quits (reads j)) (stopped-same w n line other t.0 front j)),
)

-- ## A line

-- a line that the record goes on after
on-comes : (w : OnFault) (given : Setup) (n : ℕ) (is : List Input) (line answer : List ℕ) (new end : End) (lines : List (List ℕ)) (text : List ℕ)
    → TellsLine w given is n line answer On new → Come w given end (suc n) new.inputs lines text → Come w given end n is (line ∷ lines) (answer ++ text)
on-comes w given n is line answer new end lines text t rest = (
  t.0,
  new.inputs,
  text,
  t.1,
  ap (λ (v : List ℕ). v ++ text) t.2,
  subst (λ (f : Flow). Follows f (Come w given end (suc n) new.inputs lines text) (Ends end new.inputs (stopped_at w n line t.0) text)) t.4 rest,
)

-- where a record ends
there : (new : End) (stop : Option Stopped) → new.stop ≡ stop → new ≡ record { inputs = new.inputs; stop = stop }
there new stop same = ap (λ (s : Option Stopped). record { inputs = new.inputs; stop = s }) same

-- a line that ends it
over-comes : (w : OnFault) (given : Setup) (n : ℕ) (is : List Input) (line answer : List ℕ) (new : End) (lines : List (List ℕ))
    → TellsLine w given is n line answer Over new → Come w given new n is (line ∷ lines) answer
over-comes w given n is line answer new lines t = (
  t.0,
  new.inputs,
  [],
  t.1,
  t.2 ∙ sym (append-nil _),
  subst (λ (f : Flow). Follows f (Come w given new (suc n) new.inputs lines []) (Ends new new.inputs (stopped_at w n line t.0) [])) t.4 (refl, there new (stopped_at w n line t.0) t.3),
)

-- at the end of what is read a record ends in any case
last-follows : (is_quit : Bool) (stop : Option Stopped) (new : End) → new.stop ≡ stop → Follows (flow_after is_quit stop) (Ends new new.inputs None []) (Ends new new.inputs stop [])
last-follows false None new same = (refl, there new None same)
last-follows false (Some line) new same = (refl, there new (Some line) same)
last-follows true None new same = (refl, there new None same)
last-follows true (Some line) new same = (refl, there new (Some line) same)

-- the last line
last-comes : (w : OnFault) (given : Setup) (n : ℕ) (is : List Input) (line answer : List ℕ) (flow : Flow) (new : End)
    → TellsLine w given is n line answer flow new → Come w given new n is (line ∷ []) answer
last-comes w given n is line answer flow new t =
    (t.0, new.inputs, [], t.1, t.2 ∙ sym (append-nil _), last-follows (quits (reading line)) (stopped_at w n line t.0) new t.3)

-- ## All lines

-- where a record begins
abbrev pub begun : OnFault → LogForm → Setup → List Input → Course
begun w form given first = record { given = given; on_fault = w; form = form; end = record { inputs = first; stop = None } }

-- what whole lines come to is what was told of them, and then what the bytes after come to
record Continues (w : OnFault) (form : LogForm) (given : Setup) (first : List Input) (lines : List (List ℕ)) (text : List ℕ) (now : Course) : Type 0 where
  same : now.given ≡ given
  way : now.on_fault ≡ w
  shape : now.form ≡ form
  on : (end : End) (tail more : List ℕ) → Come w given end (suc (length lines)) now.end.inputs (lines_of tail) more → Come w given end 1 first (lines_of (fed lines ++ tail)) (text ++ more)

-- what is told of a line under what was given at the start
told-given : (w : OnFault) (given : Setup) (n : ℕ) (line answer : List ℕ) (flow : Flow) (then new : Course) → then.given ≡ given → then.on_fault ≡ w → says then n line answer flow new
    → TellsLine w given then.end.inputs n line answer flow new.end
told-given w given n line answer flow then new same way told =
    subst (λ (v : OnFault). TellsLine v given then.end.inputs n line answer flow new.end) way
    (subst (λ (g : Setup). TellsLine then.on_fault g then.end.inputs n line answer flow new.end) same told.0)

-- a line more
continues-line : (w : OnFault) (form : LogForm) (given : Setup) (first : List Input) (line : List ℕ) (lines : List (List ℕ)) (before answer : List ℕ) (then now : Course) → HasNoFeed line → Continues w form given first lines before then
    → says then (suc (length lines)) (asked 202 line) answer On now → Continues w form given first (line ∷ lines) (before ++ answer) now
continues-line w form given first line lines before answer then now f k told = record {
  same = told.1 ∙ k.same;
  way = told.2 ∙ k.way;
  shape = told.3 ∙ k.shape;
  on = λ end tail more come.
      let tells : TellsLine w given then.end.inputs (suc (length lines)) (without_return line) answer On now.end =
      tells-same w given then.end.inputs (suc (length lines)) (asked 202 line) (without_return line) answer On now.end (line-read line) (line-front line)
      (told-given w given (suc (length lines)) (asked 202 line) answer On then now k.same k.way told) in
      let here : Come w given end (suc (length lines)) then.end.inputs (lines_of (line ++ 10 ∷ tail)) (answer ++ more) =
      subst (λ (ls : List (List ℕ)). Come w given end (suc (length lines)) then.end.inputs ls (answer ++ more)) (sym (lines-joined line tail f))
      (on-comes w given (suc (length lines)) then.end.inputs (without_return line) answer now.end end (lines_of tail) more tells come) in
      let bytes : fed lines ++ (line ++ 10 ∷ tail) ≡ (fed lines ++ (line ++ 10 ∷ [])) ++ tail =
      ap (λ (v : List ℕ). fed lines ++ v) (sym (append_assoc line (10 ∷ []) tail)) ∙ sym (append_assoc (fed lines) (line ++ 10 ∷ []) tail) in
      subst (λ (v : List ℕ). Come w given end 1 first (lines_of v) ((before ++ answer) ++ more)) bytes
      (subst (λ (v : List ℕ). Come w given end 1 first (lines_of (fed lines ++ (line ++ 10 ∷ tail))) v) (sym (append_assoc before answer more))
      (k.on end (line ++ 10 ∷ tail) (answer ++ more) here));
}

continues : (w : OnFault) (form : LogForm) (given : Setup) (first : List Input) (lines : List (List ℕ)) (text : List ℕ) (now : Course) → HaveNoFeed lines → Runs 202 says (begun w form given first) lines text now → Continues w form given first lines text now
continues w form given first [] text now f r = record {
  same = ap (λ (c : Course). c.given) r.1;
  way = ap (λ (c : Course). c.on_fault) r.1;
  shape = ap (λ (c : Course). c.form) r.1;
  on = λ end tail more come.
      subst (λ (v : List ℕ). Come w given end 1 first (lines_of tail) (v ++ more)) (sym r.0)
      (subst (λ (is : List Input). Come w given end 1 is (lines_of tail) more) (ap (λ (c : Course). c.end.inputs) r.1) come);
}
continues w form given first (line ∷ lines) text now f r =
    let then : Course = r.2 in
    subst (λ (v : List ℕ). Continues w form given first (line ∷ lines) v now) (sym r.5) (continues-line w form given first line lines r.0 r.1 then now f.0 (continues w form given first lines r.0 then f.1 r.3) r.4)

-- ## Bytes

heard-on : (w : OnFault) (form : LogForm) (given : Setup) (first : List Input) (bytes text : List ℕ) (n : ℕ) (now : Course) (held : List ℕ) → (h : Heard 202 says (begun w form given first) bytes text n now held) → Continues w form given first h.lines text now
heard-on w form given first bytes text n now held h = continues w form given first h.lines text now h.ended h.runs

heard-carries : (w : OnFault) (form : LogForm) (given : Setup) (first : List Input) (bytes text : List ℕ) (n : ℕ) (now : Course) (held : List ℕ) → (h : Heard 202 says (begun w form given first) bytes text n now held)
    → Carries w given 1 first bytes n now.end.inputs h.rest text
heard-carries w form given first bytes text n now held h =
    let k : Continues w form given first h.lines text now = heard-on w form given first bytes text n now held h in
    record {
      on = λ end more said come.
          let bytes_are : fed h.lines ++ (h.rest ++ more) ≡ bytes ++ more = sym (append_assoc (fed h.lines) h.rest more) ∙ ap (λ (v : List ℕ). v ++ more) (sym h.whole) in
          subst (λ (v : List ℕ). Come w given end 1 first (lines_of v) (text ++ said)) bytes_are
          (k.on end (h.rest ++ more) said (subst (λ (m : ℕ). Come w given end m now.end.inputs (lines_of (h.rest ++ more)) said) h.count come));
    }

pub heard-tells : (w : OnFault) (form : LogForm) (given : Setup) (first : List Input) (bytes text : List ℕ) (n : ℕ) (now : Course) (held : List ℕ) → Heard 202 says (begun w form given first) bytes text n now held → TellsWhole w given first bytes text
heard-tells w form given first bytes text n now held h =
    record { next = n; now = now.end.inputs; held = h.rest; unfinished = h.unfinished; carries = heard-carries w form given first bytes text n now held h }

-- at the end of what is read
pub answered-come : (w : OnFault) (form : LogForm) (given : Setup) (first : List Input) (bytes text : List ℕ) (last : Course) → IsAnswered 202 says (begun w form given first) bytes text last → (last.given ≡ given) × (last.form ≡ form) × Come w given last.end 1 first (lines_of bytes) text
answered-come w form given first bytes text last a =
    let h : Heard 202 says (begun w form given first) bytes a.before a.number a.now a.held = a.heard in
    let k : Continues w form given first h.lines a.before a.now = heard-on w form given first bytes a.before a.number a.now a.held h in
    let tells : TellsLine w given a.now.end.inputs a.number h.rest a.answer a.flow last.end =
    tells-same w given a.now.end.inputs a.number a.held h.rest a.answer a.flow last.end (ap reading h.kept ∙ last-read h.rest) (ap (take 200) h.kept ∙ last-front h.rest)
    (told-given w given a.number a.held a.answer a.flow a.now last k.same k.way a.told) in
    let here : Come w given last.end a.number a.now.end.inputs (lines_of (h.rest ++ [])) a.answer =
    subst (λ (ls : List (List ℕ)). Come w given last.end a.number a.now.end.inputs ls a.answer) (sym (ap lines_of (append-nil h.rest) ∙ lines-alone h.rest h.unfinished))
    (last-comes w given a.number a.now.end.inputs h.rest a.answer a.flow last.end tells) in
    let all : Come w given last.end 1 first (lines_of (bytes ++ [])) (a.before ++ a.answer) =
    (heard-carries w form given first bytes a.before a.number a.now a.held h).on last.end [] a.answer here in
    (a.told.1 ∙ k.same, a.told.3 ∙ k.shape, subst (λ (v : List ℕ). Come w given last.end 1 first (lines_of bytes) v) (sym a.all) (subst (λ (v : List ℕ). Come w given last.end 1 first (lines_of v) (a.before ++ a.answer)) (append-nil bytes) all))

-- where a line ended it, whatever bytes come after
pub over-come : (w : OnFault) (form : LogForm) (given : Setup) (first : List Input) (bytes text : List ℕ) (last : Course) → IsOver 202 says (begun w form given first) bytes text last
    → (last.given ≡ given) × (last.form ≡ form) × ((more : List ℕ) → Come w given last.end 1 first (lines_of (bytes ++ more)) text)
over-come w form given first bytes text last o =
    let h : Heard 202 says (begun w form given first) o.front o.before o.number o.now o.held = o.heard in
    let k : Continues w form given first h.lines o.before o.now = heard-on w form given first o.front o.before o.number o.now o.held h in
    let tells : TellsLine w given o.now.end.inputs o.number (without_return h.rest) o.answer Over last.end =
    tells-same w given o.now.end.inputs o.number (without_return o.held) (without_return h.rest) o.answer Over last.end (ap (λ (v : List ℕ). reading (without_return v)) h.kept ∙ line-read h.rest)
    (ap (λ (v : List ℕ). take 200 (without_return v)) h.kept ∙ line-front h.rest)
    (told-given w given o.number (without_return o.held) o.answer Over o.now last k.same k.way o.told) in (
      o.told.1 ∙ k.same,
      o.told.3 ∙ k.shape,
      λ more.
          let after : List ℕ = o.more ++ more in
          let here : Come w given last.end o.number o.now.end.inputs (lines_of (h.rest ++ 10 ∷ after)) o.answer =
          subst (λ (ls : List (List ℕ)). Come w given last.end o.number o.now.end.inputs ls o.answer) (sym (lines-joined h.rest after h.unfinished))
          (over-comes w given o.number o.now.end.inputs (without_return h.rest) o.answer last.end (lines_of after) tells) in
          let all : Come w given last.end 1 first (lines_of (o.front ++ 10 ∷ after)) (o.before ++ o.answer) =
          (heard-carries w form given first o.front o.before o.number o.now o.held h).on last.end (10 ∷ after) o.answer here in
          let bytes_are : o.front ++ 10 ∷ after ≡ bytes ++ more = sym (append_assoc o.front (10 ∷ o.more) more) ∙ ap (λ (v : List ℕ). v ++ more) (sym o.whole) in
          subst (λ (v : List ℕ). Come w given last.end 1 first (lines_of v) text) bytes_are
          (subst (λ (v : List ℕ). Come w given last.end 1 first (lines_of (o.front ++ 10 ∷ after)) v) (sym o.all) all),
    )
