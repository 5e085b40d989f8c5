-- How lines end a record with which something is wrong.
use Rattle.std.proofs.Common.{suc, ◌≡◌, ◌∙◌, ℕ, ◌+◌, Bool, true, false, List, [], ◌∷◌, ◌++◌, length, take, Some, None, refl, sym, ap, subst, arith}
use Rattle.std.proofs.lemmas.List.{append-nil}
use Rattle.std.specs.declared.option.Option.{Option}
use Rattle.tsb_step.specs.declared.inputs.Input.{Input}
use Rattle.tsb_command_text.specs.Readings.{reading}
use Rattle.tsb_text.specs.Answers.{Setup}
use Rattle.tsb_text.specs.Stops.{Stopped}
use Rattle.tsb_text.specs.declared.faults.LineFault.{LineFault}
use Rattle.tsb_text.specs.declared.faults.OnFault.TheVariants.{GoOn, Stop}
use Rattle.tsb_text.specs.recording.Faults.{fault_line, fault_text}
use Rattle.tsb_text.specs.recording.Laws.{StoppedSo}
use Rattle.tsb_text.specs.recording.Leaves.{Come, Does, End, Ends, Follows, quits}
use Rattle.tsb_text.specs.Stops.{flow_after, stopped_at}

-- ## A strict record

-- a line with which nothing is wrong before those that follow
one-before : (given : Setup) (n : ℕ) (is new left : List Input) (line : List ℕ) (lines : List (List ℕ)) (told rest : List ℕ) (stop : Option Stopped) → Does given is (reading line) None new
    → quits (reading line) ≡ false → told ≡ rest → StoppedSo given (suc n) new lines rest left stop → StoppedSo given n is (line ∷ lines) told left stop
one-before given n is new left line lines told rest None does goes same s = same ∙ s
one-before given n is new left line lines told rest (Some stop) does goes same s = record {
  before = line ∷ s.before;
  line = s.line;
  after = s.after;
  all = ap (λ (ls : List (List ℕ)). line ∷ ls) s.all;
  number = let later : stop.number ≡ length s.before + suc n = s.number in omega (arith, later);
  now = s.now;
  well = (new, does, goes, s.well);
  front = s.front;
  faulty = s.faulty;
  alone = same ∙ s.alone;
}

-- it ended here
ended-here : (given : Setup) (n : ℕ) (is new : List Input) (end : End) (lines : List (List ℕ)) (told rest : List ℕ) → told ≡ rest → Ends end new None rest → StoppedSo given n is lines told end.inputs end.stop
ended-here given n is new end lines told rest same e =
    subst (λ (it : End). StoppedSo given n is lines told it.inputs it.stop) (sym e.1) (same ∙ e.0)

-- by this line
ended-by : (given : Setup) (n : ℕ) (is new : List Input) (end : End) (line : List ℕ) (lines : List (List ℕ)) (told rest : List ℕ) (fault : LineFault) → Does given is (reading line) (Some fault) new
    → told ≡ fault_line n line fault ++ rest → Ends end new (Some (record { number = n; line = take 200 line; fault = fault })) rest → StoppedSo given n is (line ∷ lines) told end.inputs end.stop
ended-by given n is new end line lines told rest fault does same e =
    subst (λ (it : End). StoppedSo given n is (line ∷ lines) told it.inputs it.stop) (sym e.1) (record {
      before = [];
      line = line;
      after = lines;
      all = refl;
      number = omega arith;
      now = is;
      well = refl;
      front = refl;
      faulty = does;
      alone = same ∙ ap (λ (v : List ℕ). fault_line n line fault ++ v) e.0 ∙ append-nil (fault_line n line fault);
    })

stops : (given : Setup) (end : End) (lines : List (List ℕ)) (n : ℕ) (is : List Input) (told : List ℕ) → Come Stop given end n is lines told → StoppedSo given n is lines told end.inputs end.stop
stops given end [] n is told h = ended-here given n is is end [] told told refl h
stops given end (line ∷ lines) n is told h = by h.0 (quits (reading line)) (λ rest. stops given end lines (suc n) h.1 h.2 rest) refl h.3 h.4 h.5
  where
    by : (fault : Option LineFault) (is_quit : Bool) → (Come Stop given end (suc n) h.1 lines h.2 → StoppedSo given (suc n) h.1 lines h.2 end.inputs end.stop) → quits (reading line) ≡ is_quit → Does given is (reading line) fault h.1 → told ≡ fault_text n line fault ++ h.2
        → Follows (flow_after is_quit (stopped_at Stop n line fault)) (Come Stop given end (suc n) h.1 lines h.2) (Ends end h.1 (stopped_at Stop n line fault) h.2) → StoppedSo given n is (line ∷ lines) told end.inputs end.stop
    by None false later goes does tells follows = one-before given n is h.1 end.inputs line lines told h.2 end.stop does goes tells (later follows)
    by None true later goes does tells follows = ended-here given n is h.1 end (line ∷ lines) told h.2 tells follows
    by (Some fault) false later goes does tells follows = ended-by given n is h.1 end line lines told h.2 fault does tells follows
    by (Some fault) true later goes does tells follows = ended-by given n is h.1 end line lines told h.2 fault does tells follows

pub strict_records_stop_at_the_first : (given : Setup) (first : List Input) (end : End) (lines : List (List ℕ)) (told : List ℕ) → Come Stop given end 1 first lines told
    → StoppedSo given 1 first lines told end.inputs end.stop
strict_records_stop_at_the_first given first end lines told h = stops given end lines 1 first told h

-- ## One that goes on

goes : (given : Setup) (end : End) (lines : List (List ℕ)) (n : ℕ) (is : List Input) (told : List ℕ) → Come GoOn given end n is lines told → end.stop ≡ None
goes given end [] n is told h = ap (λ (e : End). e.stop) h.1
goes given end (line ∷ lines) n is told h = by (quits (reading line)) (λ rest. goes given end lines (suc n) h.1 h.2 rest) h.5
  where
    by : (is_quit : Bool) → (Come GoOn given end (suc n) h.1 lines h.2 → end.stop ≡ None) → Follows (flow_after is_quit None) (Come GoOn given end (suc n) h.1 lines h.2) (Ends end h.1 None h.2) → end.stop ≡ None
    by false later follows = later follows
    by true later follows = ap (λ (e : End). e.stop) follows.1

pub no_line_stops_others : (given : Setup) (first : List Input) (end : End) (lines : List (List ℕ)) (told : List ℕ) → Come GoOn given end 1 first lines told → end.stop ≡ None
no_line_stops_others given first end lines told h = goes given end lines 1 first told h
