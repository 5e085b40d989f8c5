-- How a record ends, from how its dialog did.
use Rattle.std.proofs.Common.{◌≡◌, ◌∙◌, ℕ, Bool, List, [], ◌++◌, take, drop, refl, sym, ap, subst, Some, None, Ok, Err, inl, inr, ◌⊎◌}
use Rattle.std.proofs.lemmas.List.{append-nil, take-append-drop}
use Rattle.std.specs.declared.option.Option.{Option}
use Rattle.tsb_types.specs.declared.event.Event.{Event}
use Rattle.tsb_step.specs.declared.inputs.Input.{Input}
use Rattle.tsb_step.specs.declared.log_form.LogForm.{LogForm}
use Rattle.tsb_log_text.specs.declared.log.LogRow.{LogRow}
use Rattle.tsb_dialog.specs.declared.error.DialogError.{DialogError}
use Rattle.tsb_dialog.specs.declared.error.DialogError.TheVariants as dialog
use Rattle.tsb_dialog.specs.Blame as dialog_blame
use Rattle.tsb_dialog.specs.Ended as dialogs
use Rattle.tsb_dialog.specs.Heard.{Heard, IsOver, IsSaid}
use Rattle.tsb_text.specs.Answers.{Setup}
use Rattle.tsb_text.specs.declared.course.Mode.TheVariants.{Recording}
use Rattle.tsb_text.specs.Obeyed.{OnCourse, Stands}
use Rattle.tsb_text.proofs.CourseLemmas.{is-told}
use Rattle.tsb_text.specs.Blame.{Blames}
use Rattle.tsb_text.specs.Replies.{fault_of}
use Rattle.tsb_lines.specs.Lines.{lines_of}
use Rattle.tsb_text.specs.Stops.{Stopped as StoppedLine, stop_in}
use Rattle.tsb_text.specs.declared.faults.OnFault.{OnFault}
use Rattle.tsb_text.specs.declared.recording.Outcome.{Outcome}
use Rattle.tsb_text.specs.declared.recording.Outcome.TheVariants.{Events, Stopped}
use Rattle.tsb_text.specs.recording.Along.{told_along}
use Rattle.tsb_text.specs.recording.Ended.{Begins, Ended, EndedSo, IsBegun, ReadsOn, Remain, TellsWhole}
use Rattle.tsb_text.specs.recording.Leaves.{Come, End}
use Rattle.tsb_text.specs.recording.Lines.{Course, says}
use Rattle.tsb_text.specs.recording.Recording.{IsOutcome}
use Rattle.tsb_text.specs.recording.Told.{Telling}
use Rattle.tsb_text.proofs.recording.AlongLemmas.{told-same}
use Rattle.tsb_text.proofs.recording.BegunLemmas.{begun-front, begun-more, carries-begun}
use Rattle.tsb_text.proofs.recording.ComeLemmas.{answered-come, begun, heard-tells, over-come}

-- ## What was told

reads-on : (w : OnFault) (form : LogForm) (given : Setup) (first : List Input) (read : List ℕ) → dialogs.ReadsOn 202 says (begun w form given first) read → ReadsOn w given first read
reads-on w form given first read r =
    record { before = r.before; last = r.last; whole = r.whole; short = r.short; said = r.text; going = heard-tells w form given first r.before r.text r.number r.now r.held r.heard }

whole-remain : (w : OnFault) (form : LogForm) (given : Setup) (first : List Input) (left : Option (List ℕ)) (read text : List ℕ) (last : Course) → dialogs.IsWhole 202 says (begun w form given first) left read text last
    → (last.given ≡ given) × (last.form ≡ form) × Remain w given first left read last.end text
whole-remain w form given first left read text last (inl a) = let k : (last.given ≡ given) × (last.form ≡ form) × Come w given last.end 1 first (lines_of read) text = answered-come w form given first read text last a.1 in (k.0, k.1, inl (a.0, k.2))
whole-remain w form given first left read text last (inr o) =
    let k : (last.given ≡ given) × (last.form ≡ form) × ((more : List ℕ) → Come w given last.end 1 first (lines_of (read ++ more)) text) = over-come w form given first read text last o in (k.0, k.1, inr k.2)

tells-begun : (w : OnFault) (given : Setup) (first : List Input) (read text : List ℕ) → TellsWhole w given first read text → IsBegun w given 1 first read text
tells-begun w given first read text t = carries-begun w given 1 first read t.next t.now t.held text t.carries

-- what was told of the bytes that may be read begins what is told of all that were
front-begun : (w : OnFault) (given : Setup) (first : List Input) (read text : List ℕ) → TellsWhole w given first (take 16777216 read) text → IsBegun w given 1 first read text
front-begun w given first read text t =
    subst (λ (v : List ℕ). IsBegun w given 1 first v text) (take-append-drop 16777216 read)
    (begun-more w given 1 first (take 16777216 read) (drop 16777216 read) text (tells-begun w given first (take 16777216 read) text t))

-- what begins what remains to be told
remain-begins : (w : OnFault) (given : Setup) (first : List Input) (left : Option (List ℕ)) (read text rest : List ℕ) (end : End) → Remain w given first left read end (text ++ rest) → Begins w given first left read text
remain-begins w given first left read text rest end (inl e) = inl (e.0, (end, rest, e.1))
remain-begins w given first left read text rest end (inr o) = inr (record { rest = λ more. (end, rest, o more) })

said-begun : (w : OnFault) (form : LogForm) (given : Setup) (first : List Input) (read text : List ℕ) → IsSaid 202 says (begun w form given first) read text → IsBegun w given 1 first read text
said-begun w form given first read text s = subst (λ (v : List ℕ). IsBegun w given 1 first v text) (sym s.whole) (begun-more w given 1 first s.front s.more text (front s.so))
  where
    front : ((number : ℕ) × (now : Course) × (held : List ℕ) × Heard 202 says (begun w form given first) s.front text number now held) ⊎ ((last : Course) × IsOver 202 says (begun w form given first) s.front text last)
        → IsBegun w given 1 first s.front text
    front (inl h) = tells-begun w given first s.front text (heard-tells w form given first s.front text h.0 h.1 h.2 h.3)
    front (inr o) = record { rest = λ more. (o.0.end, [], subst (λ (v : List ℕ). Come w given o.0.end 1 first (lines_of (s.front ++ more)) v) (sym (append-nil text)) ((over-come w form given first s.front text o.0 o.1).2 more)) }

-- ## The record

-- where it came to this end, and what it gives is of that end
remains : (w : OnFault) (given : Setup) (first : List Input) (left : Option (List ℕ)) (read told : List ℕ) (end : End) (stop : Option StoppedLine) → end.stop ≡ stop → Remain w given first left read end told
    → Remain w given first left read (record { inputs = end.inputs; stop = stop }) told
remains w given first left read told end stop same r = subst (λ (s : Option StoppedLine). Remain w given first left read (record { inputs = end.inputs; stop = s }) told) same r

came-so : (w : OnFault) (form : LogForm) (given : Setup) (first : List Input) (left : Option (List ℕ)) (read told : List ℕ) (outcome : Outcome) (end : End) → IsOutcome outcome end.stop (told_along form given.plan end.inputs)
    → Remain w given first left read end told → EndedSo (Ok outcome) w form given first left read told
came-so w form given first left read told (Events all) end is r = (end.inputs, remains w given first left read told end None is.0 r, is.1)
came-so w form given first left read told (Stopped line) end is r = (end.inputs, remains w given first left read told end (stop_in (Some line)) is r)

-- what a dialog left is what a record gives
pub recorded : {A : Type 0} (stands : A → Course → Type 0) (w : OnFault) (form : LogForm) (given : Setup) (first : List Input) (new : A) (i l o n : Option (List ℕ)) (outcome : Outcome) → dialogs.Ended 202 16777216 stands says (begun w form given first) (Ok tt) new i l o n
    → ((last : Course) → stands new last → IsOutcome outcome last.end.stop (told_along last.form last.given.plan last.end.inputs)) → Ended (Ok outcome) w form given first i l o n
recorded stands w form given first new i l o n outcome d tells =
    let last : Course = d.so.0 in
    let k : (last.given ≡ given) × (last.form ≡ form) × Remain w given first l d.read last.end d.written = whole-remain w form given first l d.read d.written last d.so.2 in
    record {
      read = d.read;
      taken = d.taken;
      told = d.written;
      grown = d.grown;
      so = came-so w form given first l d.read d.written outcome last.end (subst (λ (f : LogForm). IsOutcome outcome last.end.stop (told_along f given.plan last.end.inputs)) k.1
          (subst (λ (g : Setup). IsOutcome outcome last.end.stop (told_along last.form g.plan last.end.inputs)) k.0 (tells last d.so.1))) k.2;
      large = (λ h. absurd h, λ h. absurd (let e = d.large.1 h in cc));
      most = d.limited;
      whole = λ f. absurd f;
      reads = reads-on w form given first d.read d.reads;
    }

-- all whole lines of what may be read were told of
pub not-recorded : {A : Type 0} (stands : A → Course → Type 0) (w : OnFault) (form : LogForm) (given : Setup) (first : List Input) (e : DialogError) (new : A) (i l o n : Option (List ℕ)) → dialogs.Ended 202 16777216 stands says (begun w form given first) (Err e) new i l o n
    → Ended (Err (fault_of e)) w form given first i l o n
not-recorded stands w form given first dialog.Write new i l o n d = record {
  read = d.read;
  taken = d.taken;
  told = d.written;
  grown = d.grown;
  so = begins d.so;
  large = (λ h. absurd h, λ h. absurd (let e = d.large.1 h in cc));
  most = d.limited;
  whole = λ f. absurd f;
  reads = reads-on w form given first d.read d.reads;
}
  where
    begins : (rest : List ℕ) × (((last : Course) × dialogs.IsWhole 202 says (begun w form given first) l d.read (d.written ++ rest) last) ⊎ IsSaid 202 says (begun w form given first) d.read (d.written ++ rest)) → Begins w given first l d.read d.written
    begins (rest, inl h) = remain-begins w given first l d.read d.written rest h.0.end (whole-remain w form given first l d.read (d.written ++ rest) h.0 h.1).2
    begins (rest, inr s) = inr (begun-front w given 1 first d.read d.written rest (said-begun w form given first d.read (d.written ++ rest) s))
not-recorded stands w form given first dialog.Read new i l o n d =
    let tells : TellsWhole w given first (take 16777216 d.read) d.written = heard-tells w form given first (take 16777216 d.read) d.written d.so.0 d.so.1 d.so.2 d.so.4 in
    record {
      read = d.read;
      taken = d.taken;
      told = d.written;
      grown = d.grown;
      so = inr (front-begun w given first d.read d.written tells);
      large = (λ h. absurd h, λ h. absurd (let e = d.large.1 h in cc));
      most = d.limited;
      whole = λ f. tells;
      reads = reads-on w form given first d.read d.reads;
    }
not-recorded stands w form given first dialog.TooLarge new i l o n d =
    let tells : TellsWhole w given first (take 16777216 d.read) d.written = heard-tells w form given first (take 16777216 d.read) d.written d.so.0 d.so.1 d.so.2 d.so.4 in
    record {
      read = d.read;
      taken = d.taken;
      told = d.written;
      grown = d.grown;
      so = inr (front-begun w given first d.read d.written tells);
      large = (λ h. d.large.0 refl, λ h. tt);
      most = d.limited;
      whole = λ f. tells;
      reads = reads-on w form given first d.read d.reads;
    }

-- what was told are the events of the inputs that remain
pub stands-told : (given : Setup) (log : List LogRow) (course : OnCourse) (form : LogForm) (is : List Input) → course.mode ≡ Recording form → Stands given log course is → course.told.told.events ≡ told_along form given.plan is
stands-told given log course form is recording s =
    ap (λ (t : Telling). t.events) (is-told course.mode form course.told.told given is recording s.tells).0 ∙ told-same form given.plan is

-- so what a record gives is of where it has come to
pub outcome-told : (outcome : Outcome) (stop found : Option StoppedLine) (events told : List Event) → IsOutcome outcome stop events → stop ≡ found → events ≡ told → IsOutcome outcome found told
outcome-told (Events all) stop found events told is same tells = (sym same ∙ is.0, is.1 ∙ tells)
outcome-told (Stopped line) stop found events told is same tells = sym same ∙ is

-- the device that a dialog blames for its fault is the one to blame for that of the record
pub blames-fault : (fault : DialogError) (read_failed write_failed flushed : Bool) → dialog_blame.Blames (Err fault) read_failed write_failed flushed → Blames {T = Outcome} (Err (fault_of fault)) read_failed write_failed flushed
blames-fault dialog.Read read_failed write_failed flushed blames = blames
blames-fault dialog.Write read_failed write_failed flushed blames = blames
blames-fault dialog.TooLarge read_failed write_failed flushed blames = blames
