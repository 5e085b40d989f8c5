-- What is said to a line is what a text has for it.
use Rattle.std.proofs.Common.{◌≡◌, ℕ, Bool, List, [], ◌++◌, refl, sym, ap, ◌∙◌, subst, Ok, Err, codes}
use Rattle.std.proofs.lemmas.List.{append-nil}
use Rattle.std.specs.declared.option.Option.{Option}
use Rattle.tsb_bench.specs.tsb_step.declared.inputs.Input.{Input}
use Rattle.tsb_command_text.specs.declared.command.Command.{Command}
use Rattle.tsb_command_text.specs.declared.command.Command.TheVariants.{Quit}
use Rattle.tsb_command_text.specs.declared.command.Reading.{Reading}
use Rattle.tsb_command_text.specs.declared.command.Reading.TheVariants.{Skip, Bad, Lines, Do}
use Rattle.tsb_dialog.specs.declared.answers.Flow.{Flow}
use Rattle.tsb_dialog.specs.declared.answers.Flow.TheVariants.{On, Over}
use Rattle.tsb_command_text.specs.Readings.{reading}
use Rattle.tsb_dialog.specs.Said.{Said, Wrote, with_feed}
use Rattle.tsb_lines.specs.declared.writes.WriteError.{WriteError}
use Rattle.tsb_objects.specs.tsb_types.declared.refusal.Refusal.{Refusal}
use Rattle.tsb_text.specs.declared.course.Mode.{Mode}
use Rattle.tsb_text.specs.declared.course.Mode.TheVariants.{Plain}
use Rattle.tsb_text.specs.Obeyed as obeyed
use Rattle.tsb_text.specs.Obeyed.{Done, IsTold, OnCourse, StandsPlain, besides_of, tells_in}
use Rattle.tsb_text.specs.Obeys.{Besides, Obeys, nothing_besides}
use Rattle.tsb_text.specs.Tasks.{task_of}
use Rattle.tsb_text.proofs.ObeyLemmas.{plain-answers}
use Rattle.tsb_text.specs.Answers.{Setup}
use Rattle.tsb_text.specs.Replies.{Stand, Replies, flow_after, laid, says}
use Rattle.tsb_text.specs.Text.{GoesOn, Says}
use Rattle.tsb_text.specs.recording.Told.{Telling}

-- what was given stays so; display lines alone may be wide or narrow from then on
laid-so : (given now : Setup) (is_wide : Bool) → now ≡ laid is_wide given → now ≡ laid now.is_wide given
laid-so given now is_wide is = subst (λ (x : Setup). x ≡ laid x.is_wide given) (sym is) refl

pub reply-given : (stand left : Stand) (r : Reading) (text : List ℕ) (flow : Flow) → Replies stand r text flow left → left.given ≡ laid left.given.is_wide stand.given
reply-given stand left Skip text flow told = laid-so stand.given left.given stand.given.is_wide (ap (λ (s : Stand). s.given) told.2)
reply-given stand left Bad text flow told = laid-so stand.given left.given stand.given.is_wide (ap (λ (s : Stand). s.given) told.2)
reply-given stand left (Lines is_wide) text flow told = laid-so stand.given left.given is_wide (ap (λ (s : Stand). s.given) told.2)
reply-given stand left (Do c) text flow told = laid-so stand.given left.given stand.given.is_wide told.2

goes-on : (c : Command) (Rest : List ℕ → Type 0) (rest : List ℕ) → On ≡ flow_after c → Rest rest → GoesOn c Rest rest
goes-on Quit Rest rest on told = absurd (cc)
goes-on c Rest rest on told = told

-- after a line that the session goes on after, the rest answers the lines after it
pub reply-on : (stand left : Stand) (r : Reading) (text rest : List ℕ) (Rest : Setup → List Input → List ℕ → Type 0) → Replies stand r text On left → Rest left.given left.inputs rest
    → Says stand.given r stand.inputs (text ++ rest) Rest
reply-on stand left Skip text rest Rest told next =
    subst (λ (v : List ℕ). Rest stand.given stand.inputs (v ++ rest)) (sym told.0) (subst (λ (s : Stand). Rest s.given s.inputs rest) told.2 next)
reply-on stand left Bad text rest Rest told next = (rest, ap (λ (v : List ℕ). v ++ rest) told.0, subst (λ (s : Stand). Rest s.given s.inputs rest) told.2 next)
reply-on stand left (Lines is_wide) text rest Rest told next = (rest, ap (λ (v : List ℕ). v ++ rest) told.0, subst (λ (s : Stand). Rest s.given s.inputs rest) told.2 next)
reply-on stand left (Do c) text rest Rest told next =
    (text, rest, left.inputs, told.0, refl, goes-on c (Rest stand.given left.inputs) rest told.1 (subst (λ (g : Setup). Rest g left.inputs rest) told.2 next))

ends : (c : Command) (Rest : List ℕ → Type 0) → Over ≡ flow_after c → GoesOn c Rest []
ends Quit Rest over = refl
ends c Rest over = absurd (cc)

-- a line that ends the session answers all lines after it
pub reply-over : (stand left : Stand) (r : Reading) (text : List ℕ) (Rest : Setup → List Input → List ℕ → Type 0) → Replies stand r text Over left → Says stand.given r stand.inputs text Rest
reply-over stand left Skip text Rest told = let over : Over ≡ On = told.1 in absurd (cc)
reply-over stand left Bad text Rest told = let over : Over ≡ On = told.1 in absurd (cc)
reply-over stand left (Lines is_wide) text Rest told = let over : Over ≡ On = told.1 in absurd (cc)
reply-over stand left (Do c) text Rest told = (text, [], left.inputs, told.0, sym (append-nil text), ends c (Rest stand.given left.inputs) told.1)

quit-over : (c : Command) → Over ≡ flow_after c → c ≡ Quit
quit-over Quit over = refl
quit-over c over = absurd (cc)

-- and it is `quit`
pub reply-quit : (stand left : Stand) (r : Reading) (text : List ℕ) → Replies stand r text Over left → r ≡ Do Quit
reply-quit stand left Skip text told = let over : Over ≡ On = told.1 in absurd (cc)
reply-quit stand left Bad text told = let over : Over ≡ On = told.1 in absurd (cc)
reply-quit stand left (Lines is_wide) text told = let over : Over ≡ On = told.1 in absurd (cc)
reply-quit stand left (Do c) text told = ap Do (quit-over c told.1)

-- the last line
pub reply-last : (flow : Flow) (stand left : Stand) (r : Reading) (text : List ℕ) → Replies stand r text flow left → Says stand.given r stand.inputs text (λ now new rest. rest ≡ [])
reply-last On stand left r text told =
    subst (λ (v : List ℕ). Says stand.given r stand.inputs v (λ now new rest. rest ≡ [])) (append-nil text) (reply-on stand left r text [] (λ now new rest. rest ≡ []) told refl)
reply-last Over stand left r text told = reply-over stand left r text (λ now new rest. rest ≡ []) told

-- ## What was said

-- some of what may be said to a line
abbrev pub Begins : Stand → ℕ → List ℕ → List ℕ → Type 0
Begins stand n line text = (rest : List ℕ) × (flow : Flow) × (left : Stand) × says stand n line (text ++ rest) flow left

pub bad-fault : (stand : Stand) (n : ℕ) (line : List ℕ) (r : Reading) (a b : Option (List ℕ)) (p q : List ℕ) → r ≡ reading line → r ≡ Bad → Said a b p q [] → Wrote a b p q (Begins stand n line)
bad-fault stand n line r a b p q reads bad said = record {
  text = [];
  said = said;
  so = (
    with_feed (codes "bad command"),
    On,
    stand,
    subst (λ (x : Reading). Replies stand x (with_feed (codes "bad command")) On stand) (sym bad ∙ reads) (refl, refl, refl),
  );
}

-- a bench is where it was, with wide lines or narrow ones
told-laid : (m : Mode) (x : Telling) (given : Setup) (is_wide : Bool) (inputs : List Input) → m ≡ Plain → IsTold m x (laid is_wide given) inputs
told-laid m x given is_wide inputs plain = subst (λ (y : Mode). IsTold y x (laid is_wide given) inputs) (sym plain) tt

stands-laid : (stand : Stand) (is_wide : Bool) (old : OnCourse) → StandsPlain stand.given stand.given.log old stand.inputs
    → StandsPlain (laid is_wide stand.given) stand.given.log (obeyed.laid is_wide old) stand.inputs
stands-laid stand is_wide old s = (
  record {
    same = s.0.same;
    rows = s.0.rows;
    follows = s.0.follows;
    keeps = s.0.keeps;
    tells = told-laid old.mode old.told.told stand.given is_wide stand.inputs s.1;
    acts = s.0.acts;
    wide = refl;
  },
  s.1,
)

-- wide or narrow lines are asked for
pub lines-said : (stand : Stand) (n : ℕ) (line : List ℕ) (r : Reading) (is_wide : Bool) (old new : OnCourse) (a b : Option (List ℕ)) (p q : List ℕ)
    → r ≡ reading line → r ≡ Lines is_wide → new ≡ obeyed.laid is_wide old → StandsPlain stand.given stand.given.log old stand.inputs → Said a b p q (with_feed (codes "ok"))
    → (left : Stand) × StandsPlain left.given left.given.log new left.inputs × Wrote a b p q (λ text. says stand n line text On left)
lines-said stand n line r is_wide old new a b p q reads asks lies stands said =
    let left : Stand = record stand { given = laid is_wide stand.given } in (
      left,
      subst (λ (x : OnCourse). StandsPlain left.given left.given.log x left.inputs) (sym lies) (stands-laid stand is_wide old stands),
      record {
        text = with_feed (codes "ok");
        said = said;
        so = subst (λ (x : Reading). Replies stand x (with_feed (codes "ok")) On left) (sym asks ∙ reads) (refl, refl, refl);
      },
    )

pub lines-fault : (stand : Stand) (n : ℕ) (line : List ℕ) (r : Reading) (is_wide : Bool) (a b : Option (List ℕ)) (p q : List ℕ) → r ≡ reading line → r ≡ Lines is_wide → Said a b p q []
    → Wrote a b p q (Begins stand n line)
lines-fault stand n line r is_wide a b p q reads asks said =
    let left : Stand = record stand { given = laid is_wide stand.given } in
    record {
      text = [];
      said = said;
      so = (with_feed (codes "ok"), On, left, subst (λ (x : Reading). Replies stand x (with_feed (codes "ok")) On left) (sym asks ∙ reads) (refl, refl, refl));
    }

-- a session says nothing besides
plain-besides : (course : OnCourse) → course.mode ≡ Plain → besides_of course [] ≡ nothing_besides
plain-besides course plain = ap (λ (m : Mode). let b : Besides = record { tells = tells_in m; echo = [] } in b) plain

pub done-said : (stand : Stand) (n : ℕ) (line : List ℕ) (r : Reading) (c : Command) (flow : Flow) (old new : OnCourse) (refusal : Option Refusal) (a b : Option (List ℕ)) (p q : List ℕ)
    → r ≡ reading line → r ≡ Do c → flow ≡ flow_after c → old.mode ≡ Plain → new.mode ≡ old.mode
    → Done (Ok refusal) stand.given stand.given.log new (Obeys stand.given (besides_of old []) stand.inputs (task_of c)) a b p q
    → (left : Stand) × StandsPlain left.given left.given.log new left.inputs × Wrote a b p q (λ text. says stand n line text flow left)
done-said stand n line r c flow old new refusal a b p q reads asks after plain mode done = (
  record { given = stand.given; inputs = done.0 },
  (done.1, mode ∙ plain),
  record {
    text = done.2.text;
    said = done.2.said;
    so = subst (λ (x : Reading). Replies stand x done.2.text flow (record { given = stand.given; inputs = done.0 })) (sym asks ∙ reads) (
      plain-answers stand.given stand.inputs c done.2.text refusal done.0
          (subst (λ (x : Besides). Obeys stand.given x stand.inputs (task_of c) done.2.text refusal done.0) (plain-besides old plain) done.2.so),
      after,
      refl,
    );
  },
)

pub done-fault : (stand : Stand) (n : ℕ) (line : List ℕ) (r : Reading) (c : Command) (e : WriteError) (old new : OnCourse) (a b : Option (List ℕ)) (p q : List ℕ)
    → r ≡ reading line → r ≡ Do c → old.mode ≡ Plain → Done (Err e) stand.given stand.given.log new (Obeys stand.given (besides_of old []) stand.inputs (task_of c)) a b p q → Wrote a b p q (Begins stand n line)
done-fault stand n line r c e old new a b p q reads asks plain done = record {
  text = done.text;
  said = done.said;
  so = (
    done.so.0,
    flow_after c,
    record { given = stand.given; inputs = done.so.2 },
    subst (λ (x : Reading). Replies stand x (done.text ++ done.so.0) (flow_after c) (record { given = stand.given; inputs = done.so.2 })) (sym asks ∙ reads) (
      plain-answers stand.given stand.inputs c (done.text ++ done.so.0) done.so.1 done.so.2
          (subst (λ (x : Besides). Obeys stand.given x stand.inputs (task_of c) (done.text ++ done.so.0) done.so.1 done.so.2) (plain-besides old plain) done.so.3),
      refl,
      refl,
    ),
  );
}
