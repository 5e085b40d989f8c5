-- What a stream has written, and how it ends.
use Rattle.std.proofs.Common.{◌≡◌, ◌⊎◌, ℕ, zero, suc, ◌+◌, ◌<◌, ◌≤◌, List, [], ◌∷◌, ◌++◌, length, refl, sym, ap, ◌∙◌, append_assoc, arith, subst, inl, inr, OnOk, OnErr}
use Rattle.std.proofs.lemmas.List.{append-nil}
use Rattle.std.proofs.lemmas.Bool.{cases_eq}
use Rattle.std.specs.declared.option.Option.{Option}
use Rattle.std.specs.declared.result.Result.{Result}
use Rattle.std.specs.declared.result.Result.TheVariants.{Ok, Err}
use Rattle.std.specs.Io.KnownBytes.{Appends}
use Rattle.tsb_lines.specs.Writes.{AppendsFront}
use Rattle.tsb_lines.proofs.StreamLemmas.{appends-more}
use Rattle.tsb_lines.specs.Lines.{HasNoFeed, kept, without_return}
use Rattle.tsb_lines.proofs.KeptLemmas.{kept-more}
use Rattle.tsb_field_log.specs.declared.street.KnownRows.{KnownRows}
use Rattle.tsb_field_log.specs.Changes.{rows_of}
use Rattle.tsb_field_log.specs.Streets.{rows_in}
use Rattle.tsb_log_text.specs.ListText.{text_in}
use Rattle.tsb_log_text.specs.declared.form.RowForm.{RowForm}
use Rattle.tsb_field_log.specs.Wires.{form_of_wires}
use Rattle.tsb_field_log.specs.Pushed.{rows_before}
use Rattle.tsb_field_log.specs.Ticks.{row_in}
use Rattle.tsb_field_log.specs.declared.inputs.InputEvent.{InputEvent}
use Rattle.tsb_field_log.proofs.LawLemmas.{logs}
use Rattle.tsb_field_log.proofs.PushedLemmas.{order-last, rows-front}
use Rattle.tsb_log_text.proofs.WrittenLemmas.{append-in}
use Rattle.tsb_field_streams.specs.declared.error.FilterError.{FilterError}
use Rattle.tsb_field_streams.specs.declared.error.FilterError.TheVariants.{Write, LogTooLarge}
use Rattle.tsb_field_streams.specs.declared.filter.Filter.{Filter}
use Rattle.tsb_field_streams.specs.declared.filter.Summary.{Summary}
use Rattle.tsb_field_streams.specs.declared.stream.Stream.{Stream}
use Rattle.tsb_field_streams.specs.Filtering.{Given, Stand, next_after, one_more, summary_at, text_by, with_line, with_next, with_nexts}
use Rattle.tsb_field_streams.specs.Lines.{HasRead, all_of, ended, filtered}
use Rattle.tsb_field_streams.specs.Standing.{StandsAt, Takes}
use Rattle.tsb_field_streams.specs.Streaming.{Follows, WroteFront, Went, Sticks, Finished, Known, TookLast, known_log, whole_log}
use Rattle.tsb_field_streams.proofs.ReadLemmas.{all-comes, front-comes, kept-last, kept-line, read-fault, read-line, read-piece, sticks-more}

-- ## What is written

-- the log that is known begins the whole one
pub known-begins : (g : Given) (s : Stand) (f : Filter) → StandsAt g s f → (tail : List ℕ) × (whole_log g s ≡ known_log g s ++ tail)
known-begins g s f at =
    let rest = rows-front g.from g.wires s.events [] (order-last g.from 0 s.events at.street.ordered) in (
      text_by g rest.0,
      ap (λ (es : List InputEvent). text_by g (rows_of (row_in g.from g.wires es))) (sym (append-nil s.events)) ∙ ap (text_by g) rest.1
          ∙ append-in (form_of_wires g.wires) (rows_before g.from g.wires s.events) rest.0,
    )

-- what was written before is a prefix
pub wrote-before : (g : Given) (bytes : List ℕ) (stream : Stream) (old new : Option (List ℕ)) → Follows g bytes stream old new → WroteFront g bytes old new
wrote-before g bytes stream old new f =
    let tail = known-begins g f.stand stream.filter f.stands in
    record {
      front = f.read.front;
      behind = f.held;
      before = f.stand;
      count = 0;
      stand = f.stand;
      written = known_log g f.stand;
      rest = tail.0;
      whole = f.read.whole;
      comes = front-comes g bytes stream.number f.stand f.held f.read;
      taken = refl;
      grown = f.grown;
      begins = tail.1;
    }

-- and stays one, whatever is read
pub wrote-more : (g : Given) (bytes more : List ℕ) (old new : Option (List ℕ)) → WroteFront g bytes old new → WroteFront g (bytes ++ more) old new
wrote-more g bytes more old new w = record {
  front = w.front;
  behind = w.behind ++ more;
  before = w.before;
  count = w.count;
  stand = w.stand;
  written = w.written;
  rest = w.rest;
  whole = ap (λ (v : List ℕ). v ++ more) w.whole ∙ append_assoc w.front w.behind more;
  comes = w.comes;
  taken = w.taken;
  grown = w.grown;
  begins = w.begins;
}

-- the log that is known grows by the rows of a line
known-grows : (g : Given) (s t : Stand) (f : Filter) (form : RowForm) (rows : KnownRows) → StandsAt g t f → form ≡ f.form
    → rows_before g.from g.wires t.events ≡ rows_before g.from g.wires s.events ++ rows_in rows → known_log g t ≡ known_log g s ++ text_in form (rows_in rows)
known-grows g s t f form rows at same grown =
    ap (text_by g) grown ∙ append-in (form_of_wires g.wires) (rows_before g.from g.wires s.events) (rows_in rows)
    ∙ ap (λ (it : RowForm). known_log g s ++ text_in it (rows_in rows)) (sym (same ∙ at.form))

-- of a text after one that was written the first bytes have gone, and it begins a log
front-of : (g : Given) (bytes : List ℕ) (s : Stand) (count : ℕ) (t : Stand) (before text tail : List ℕ) (a b c : Option (List ℕ)) → filtered g bytes ≡ Ok s → with_nexts g count s ≡ Ok t
    → Appends a b before → AppendsFront b c text → whole_log g t ≡ (before ++ text) ++ tail → WroteFront g bytes a c
front-of g bytes s count t before text tail a b c comes taken grown front is = record {
  front = bytes;
  behind = [];
  before = s;
  count = count;
  stand = t;
  written = before ++ front.0;
  rest = front.1 ++ tail;
  whole = sym (append-nil bytes);
  comes = comes;
  taken = taken;
  grown = appends-more a b c before front.0 grown front.2;
  begins =
      is ∙ ap (λ (v : List ℕ). (before ++ v) ++ tail) front.3 ∙ ap (λ (v : List ℕ). v ++ tail) (sym (append_assoc before front.0 front.1))
      ∙ append_assoc (before ++ front.0) front.1 tail;
}

-- a write that fails has its own fault
pub write-fault : (r : Result (Unit {0}) FilterError) (e : FilterError) → r ≡ Err e → OnErr r (r ≡ Err Write) → e ≡ Write
write-fault (Ok u) e is fault = absurd (cc)
write-fault (Err d) e is fault = let same : Err e ≡ Err Write = sym is ∙ fault in cc

-- ## A line

-- the rows of a line that was taken are written, or the writer fails
rows-went : (r : Result (Unit {0}) FilterError) (g : Given) (bytes : List ℕ) (s t : Stand) (stream : Stream) (form : RowForm) (rows : KnownRows) (a b c : Option (List ℕ)) → form ≡ stream.filter.form
    → HasRead g bytes stream.number t [] → filtered g bytes ≡ Ok t → stream.line ≡ [] → StandsAt g t stream.filter → Appends a b (known_log g s)
    → rows_before g.from g.wires t.events ≡ rows_before g.from g.wires s.events ++ rows_in rows
    → OnOk r (Appends b c (text_in form (rows_in rows))) → AppendsFront b c (text_in form (rows_in rows)) → OnErr r (r ≡ Err Write) → Went r g bytes stream a c
rows-went (Ok u) g bytes s t stream form rows a b c same read comes empty stands grown more ok front fault = record {
  stand = t;
  held = [];
  read = read;
  kept = empty;
  stands = stands;
  grown = subst (λ (v : List ℕ). Appends a c v) (sym (known-grows g s t stream.filter form rows stands same more)) (appends-more a b c (known_log g s) (text_in form (rows_in rows)) grown ok);
}
rows-went (Err e) g bytes s t stream form rows a b c same read comes empty stands grown more ok front fault =
    let tail = known-begins g t stream.filter stands in (
      front-of g bytes t 0 t (known_log g s) (text_in form (rows_in rows)) tail.0 a b c comes refl grown front (tail.1 ∙ ap (λ (v : List ℕ). v ++ tail.0) (known-grows g s t stream.filter form rows stands same more)),
      inl (let is : e ≡ Write = cc in is),
    )

pub line-went : (r : Result (Unit {0}) FilterError) (g : Given) (bytes line : List ℕ) (old new : Stream) (form : RowForm) (rows : KnownRows) (a b c : Option (List ℕ)) → (f : Follows g bytes old a b) → form ≡ new.filter.form
    → line ≡ without_return old.line → Takes g f.stand (with_line g old.number f.stand line) (Ok rows) new.filter → new.line ≡ [] → new.number ≡ one_more old.number
    → OnOk r (Appends b c (text_in form (rows_in rows))) → AppendsFront b c (text_in form (rows_in rows)) → OnErr r (r ≡ Err Write) → Went r g (bytes ++ 10 ∷ []) new a c
line-went r g bytes line old new form rows a b c f formed is takes empty next ok front fault = goes (with_line g old.number f.stand line) refl takes
  where
    same : with_line g old.number f.stand line ≡ with_line g old.number f.stand (without_return f.held)
    same = ap (with_line g old.number f.stand) (is ∙ ap without_return f.kept) ∙ kept-line g old.number f.stand f.held

    goes : (x : Result Stand FilterError) → with_line g old.number f.stand line ≡ x → Takes g f.stand x (Ok rows) new.filter → Went r g (bytes ++ 10 ∷ []) new a c
    goes (Err e) k t = absurd t
    goes (Ok t) k stands =
        let read : HasRead g (bytes ++ 10 ∷ []) (one_more old.number) t [] = read-line g bytes old.number f.stand t f.held f.read (sym same ∙ k) in
        let here : HasRead g (bytes ++ 10 ∷ []) new.number t [] = subst (λ (n : ℕ). HasRead g (bytes ++ 10 ∷ []) n t []) (sym next) read in
        rows-went r g (bytes ++ 10 ∷ []) f.stand t new form rows a b c formed here (ap (filtered g) (here.whole ∙ append-nil here.front) ∙ front-comes g (bytes ++ 10 ∷ []) new.number t [] here)
        empty stands.0 f.grown stands.1 ok front fault

-- a line that has a fault
pub line-fault : (g : Given) (bytes line : List ℕ) (old : Stream) (filter : Filter) (e : FilterError) (a b : Option (List ℕ)) → (f : Follows g bytes old a b)
    → line ≡ without_return old.line → Takes g f.stand (with_line g old.number f.stand line) (Err e) filter
    → WroteFront g (bytes ++ 10 ∷ []) a b × ((e ≡ Write) ⊎ Sticks g (bytes ++ 10 ∷ []) e)
line-fault g bytes line old filter e a b f is takes =
    (wrote-more g bytes (10 ∷ []) a b (wrote-before g bytes old a b f), inr (goes (with_line g old.number f.stand line) refl takes))
  where
    same : with_line g old.number f.stand line ≡ with_line g old.number f.stand (without_return f.held)
    same = ap (with_line g old.number f.stand) (is ∙ ap without_return f.kept) ∙ kept-line g old.number f.stand f.held

    goes : (x : Result Stand FilterError) → with_line g old.number f.stand line ≡ x → Takes g f.stand x (Err e) filter → Sticks g (bytes ++ 10 ∷ []) e
    goes (Ok t) k takes = absurd takes
    goes (Err d) k takes = read-fault g bytes old.number f.stand f.held e f.read (sym same ∙ k ∙ ap Err (sym takes))

-- ## Pieces of lines

-- a piece that ends no line
pub piece-went : (g : Given) (bytes piece : List ℕ) (old new : Stream) (a c : Option (List ℕ)) → (f : Follows g bytes old a c) → HasNoFeed piece → new.filter ≡ old.filter → new.number ≡ old.number
    → new.line ≡ kept 1002 (old.line ++ piece) → Follows g (bytes ++ piece) new a c
piece-went g bytes piece old new a c f none same number is = record {
  stand = f.stand;
  held = f.held ++ piece;
  read = subst (λ (n : ℕ). HasRead g (bytes ++ piece) n f.stand (f.held ++ piece)) (sym number) (read-piece g bytes old.number f.stand f.held piece f.read none);
  kept = is ∙ ap (λ (v : List ℕ). kept 1002 (v ++ piece)) f.kept ∙ kept-more 1002 f.held piece;
  stands = subst (λ (filter : Filter). StandsAt g f.stand filter) (sym same) f.stands;
  grown = f.grown;
}

pub follows-same : (g : Given) (xs ys : List ℕ) (stream : Stream) (a c : Option (List ℕ)) → xs ≡ ys → Follows g xs stream a c → Follows g ys stream a c
follows-same g xs ys stream a c is f = subst (λ (v : List ℕ). Follows g v stream a c) is f

pub went-same : (r : Result (Unit {0}) FilterError) (g : Given) (xs ys : List ℕ) (stream : Stream) (a c : Option (List ℕ)) → xs ≡ ys → Went r g xs stream a c → Went r g ys stream a c
went-same r g xs ys stream a c is w = subst (λ (v : List ℕ). Went r g v stream a c) is w

-- a fault within some bytes is one within these and what follows them
pub line-broken : (g : Given) (before taken line next bytes : List ℕ) (e : FilterError) (a c : Option (List ℕ)) → bytes ≡ (taken ++ line) ++ next
    → WroteFront g ((before ++ taken) ++ line) a c × ((e ≡ Write) ⊎ Sticks g ((before ++ taken) ++ line) e)
    → WroteFront g (before ++ bytes) a c × ((e ≡ Write) ⊎ Sticks g (before ++ bytes) e)
line-broken g before taken line next bytes e a c cut w =
    let all : ((before ++ taken) ++ line) ++ next ≡ before ++ bytes = ap (λ (v : List ℕ). v ++ next) (append_assoc before taken line) ∙ append_assoc before (taken ++ line) next ∙ ap (λ (v : List ℕ). before ++ v) (sym cut) in (
      subst (λ (v : List ℕ). WroteFront g v a c) all (wrote-more g ((before ++ taken) ++ line) next a c w.0),
      elim w.1 [
        | inl write ↦ inl write
        | inr sticks ↦ inr (subst (λ (v : List ℕ). Sticks g v e) all (sticks-more g ((before ++ taken) ++ line) next e sticks))
      ],
    )

-- ## The end

-- what the last line comes to
pub record LastTaken (g : Given) (bytes : List ℕ) (old : Stream) (rows : KnownRows) (filter : Filter) (a b : Option (List ℕ)) : Type 0 where
  pub before : Stand
  pub stand : Stand
  pub comes : filtered g bytes ≡ Ok stand
  pub stands : StandsAt g stand filter
  pub grown : Appends a b (known_log g before)
  pub more : rows_before g.from g.wires stand.events ≡ rows_before g.from g.wires before.events ++ rows_in rows

pub last-taken : (g : Given) (bytes line : List ℕ) (old : Stream) (rows : KnownRows) (filter : Filter) (a b : Option (List ℕ)) → (f : Follows g bytes old a b) → line ≡ old.line
    → Takes g f.stand (with_line g old.number f.stand line) (Ok rows) filter → LastTaken g bytes old rows filter a b
last-taken g bytes line old rows filter a b f is takes = goes (with_line g old.number f.stand line) refl takes
  where
    same : with_line g old.number f.stand line ≡ with_line g old.number f.stand f.held
    same = ap (with_line g old.number f.stand) (is ∙ f.kept) ∙ kept-last g old.number f.stand f.held

    goes : (x : Result Stand FilterError) → with_line g old.number f.stand line ≡ x → Takes g f.stand x (Ok rows) filter → LastTaken g bytes old rows filter a b
    goes (Err e) k t = absurd t
    goes (Ok t) k stands = record {
      before = f.stand;
      stand = t;
      comes = all-comes g bytes old.number f.stand f.held (Ok t) f.read (sym same ∙ k);
      stands = stands.0;
      grown = f.grown;
      more = stands.1;
    }

pub last-fault : (g : Given) (bytes line : List ℕ) (old : Stream) (filter : Filter) (e : FilterError) (a b : Option (List ℕ)) → (f : Follows g bytes old a b) → line ≡ old.line
    → Takes g f.stand (with_line g old.number f.stand line) (Err e) filter → WroteFront g bytes a b × ((e ≡ Write) ⊎ (all_of g bytes ≡ Err e))
last-fault g bytes line old filter e a b f is takes = (wrote-before g bytes old a b f, inr (ap (ended g) (goes (with_line g old.number f.stand line) refl takes)))
  where
    same : with_line g old.number f.stand line ≡ with_line g old.number f.stand f.held
    same = ap (with_line g old.number f.stand) (is ∙ f.kept) ∙ kept-last g old.number f.stand f.held

    goes : (x : Result Stand FilterError) → with_line g old.number f.stand line ≡ x → Takes g f.stand x (Err e) filter → filtered g bytes ≡ Err e
    goes (Ok t) k takes = absurd takes
    goes (Err d) k takes = all-comes g bytes old.number f.stand f.held (Err e) f.read (sym same ∙ k ∙ ap Err (sym takes))

-- its rows are not written
pub last-unwritten : (g : Given) (bytes : List ℕ) (old : Stream) (form : RowForm) (rows : KnownRows) (filter : Filter) (e : FilterError) (a b c : Option (List ℕ)) → LastTaken g bytes old rows filter a b → form ≡ filter.form
    → AppendsFront b c (text_in form (rows_in rows)) → e ≡ Write → WroteFront g bytes a c × ((e ≡ Write) ⊎ (all_of g bytes ≡ Err e))
last-unwritten g bytes old form rows filter e a b c l same front is =
    let tail = known-begins g l.stand filter l.stands in (
      front-of g bytes l.stand 0 l.stand (known_log g l.before) (text_in form (rows_in rows)) tail.0 a b c l.comes refl l.grown front
          (tail.1 ∙ ap (λ (v : List ℕ). v ++ tail.0) (known-grows g l.before l.stand filter form rows l.stands same l.more)),
      inl is,
    )

-- all that is known by the lines is written
pub known-last : (g : Given) (bytes : List ℕ) (old : Stream) (form : RowForm) (rows : KnownRows) (filter : Filter) (a b c : Option (List ℕ)) → (l : LastTaken g bytes old rows filter a b) → form ≡ filter.form
    → Appends b c (text_in form (rows_in rows)) → Known g bytes l.stand 0 filter a c
known-last g bytes old form rows filter a b c l same ok = record {
  stand = l.stand;
  comes = l.comes;
  taken = refl;
  stands = l.stands;
  grown = subst (λ (v : List ℕ). Appends a c v) (sym (known-grows g l.before l.stand filter form rows l.stands same l.more)) (appends-more a b c (known_log g l.before) (text_in form (rows_in rows)) l.grown ok);
}

-- its rows are written, or the writer fails
pub last-took : (r : Result (Unit {0}) FilterError) (g : Given) (bytes : List ℕ) (old : Stream) (form : RowForm) (rows : KnownRows) (filter : Filter) (a b c : Option (List ℕ)) → LastTaken g bytes old rows filter a b → form ≡ filter.form
    → OnOk r (Appends b c (text_in form (rows_in rows))) → AppendsFront b c (text_in form (rows_in rows)) → OnErr r (r ≡ Err Write) → TookLast r g bytes filter a c
last-took (Ok u) g bytes old form rows filter a b c l same ok front fault = (l.stand, known-last g bytes old form rows filter a b c l same ok)
last-took (Err e) g bytes old form rows filter a b c l same ok front fault = last-unwritten g bytes old form rows filter e a b c l same front (write-fault (Err e) e refl fault)

-- ## The rows that are held

-- none is taken yet
pub none-taken : (g : Given) (bytes : List ℕ) (before : Stand) (count n : ℕ) (filter : Filter) (a c : Option (List ℕ)) → Known g bytes before 0 filter a c
    → ((s : Stand) → StandsAt g s filter → count ≡ length s.held) → n ≡ 0 → Known g bytes before n filter a c × (count ≡ length before.held)
none-taken g bytes before count n filter a c k counts is =
    let same : before ≡ k.stand = (let e : Ok before ≡ Ok k.stand = k.taken in cc) in
    (subst (λ (m : ℕ). Known g bytes before m filter a c) (sym is) k, counts k.stand k.stands ∙ ap (λ (s : Stand). length s.held) (sym same))

-- what was written is a prefix
known-wrote : (g : Given) (bytes : List ℕ) (before : Stand) (n : ℕ) (filter : Filter) (a c : Option (List ℕ)) → Known g bytes before n filter a c → WroteFront g bytes a c
known-wrote g bytes before n filter a c k =
    let tail = known-begins g k.stand filter k.stands in
    record {
      front = bytes;
      behind = [];
      before = before;
      count = n;
      stand = k.stand;
      written = known_log g k.stand;
      rest = tail.0;
      whole = sym (append-nil bytes);
      comes = k.comes;
      taken = k.taken;
      grown = k.grown;
      begins = tail.1;
    }

-- one more is taken
pub next-taken : (g : Given) (bytes : List ℕ) (before : Stand) (n : ℕ) (old new : Filter) (form : RowForm) (rows : KnownRows) (a b c : Option (List ℕ)) → (k : Known g bytes before n old a b) → form ≡ new.form
    → Takes g k.stand (with_next g k.stand) (Ok rows) new → Appends b c (text_in form (rows_in rows)) → Known g bytes before (n + 1) new a c
next-taken g bytes before n old new form rows a b c k same takes ok =
    let more : suc n ≡ n + 1 = omega arith in
    subst (λ (m : ℕ). Known g bytes before m new a c) more (goes (with_next g k.stand) refl takes)
  where
    goes : (x : Result Stand FilterError) → with_next g k.stand ≡ x → Takes g k.stand x (Ok rows) new → Known g bytes before (suc n) new a c
    goes (Err e) is t = absurd t
    goes (Ok t) is stands = record {
      stand = t;
      comes = k.comes;
      taken = ap (next_after g) k.taken ∙ is;
      stands = stands.0;
      grown = subst (λ (v : List ℕ). Appends a c v) (sym (known-grows g k.stand t new form rows stands.0 same stands.1)) (appends-more a b c (known_log g k.stand) (text_in form (rows_in rows)) k.grown ok);
    }

-- its rows are not written
pub next-unwritten : (g : Given) (bytes : List ℕ) (before : Stand) (n : ℕ) (old new : Filter) (form : RowForm) (rows : KnownRows) (e : FilterError) (a b c : Option (List ℕ)) → (k : Known g bytes before n old a b) → form ≡ new.form
    → Takes g k.stand (with_next g k.stand) (Ok rows) new → AppendsFront b c (text_in form (rows_in rows)) → e ≡ Write → WroteFront g bytes a c × ((e ≡ Write) ⊎ (all_of g bytes ≡ Err e))
next-unwritten g bytes before n old new form rows e a b c k same takes front write = (goes (with_next g k.stand) refl takes, inl write)
  where
    goes : (x : Result Stand FilterError) → with_next g k.stand ≡ x → Takes g k.stand x (Ok rows) new → WroteFront g bytes a c
    goes (Err d) is t = absurd t
    goes (Ok t) is stands =
        let tail = known-begins g t new stands.0 in
        front-of g bytes before (suc n) t (known_log g k.stand) (text_in form (rows_in rows)) tail.0 a b c k.comes (ap (next_after g) k.taken ∙ is) k.grown front
        (tail.1 ∙ ap (λ (v : List ℕ). v ++ tail.0) (known-grows g k.stand t new form rows stands.0 same stands.1))

-- a fault stays, whatever is held behind it
stuck : (g : Given) (s : Stand) (e : FilterError) (n m : ℕ) → with_nexts g n s ≡ Err e → n ≤ m → with_nexts g m s ≡ Err e
stuck g s e n zero is le = let none : n ≡ 0 = omega (arith, le) in subst (λ (k : ℕ). with_nexts g k s ≡ Err e) none is
stuck g s e n (suc m) is le = elim (cases_eq n (suc m)) [
  | inl same ↦ subst (λ (k : ℕ). with_nexts g k s ≡ Err e) same is
  | inr other ↦ ap (next_after g) (stuck g s e n m is (omega (arith, le, other)))
]

-- one that is held has a fault
pub next-fault : (g : Given) (bytes : List ℕ) (before : Stand) (n : ℕ) (old new : Filter) (e : FilterError) (a b : Option (List ℕ)) → (k : Known g bytes before n old a b)
    → Takes g k.stand (with_next g k.stand) (Err e) new → n < length before.held → WroteFront g bytes a b × ((e ≡ Write) ⊎ (all_of g bytes ≡ Err e))
next-fault g bytes before n old new e a b k takes lt = (known-wrote g bytes before n old a b k, inr (goes (with_next g k.stand) refl takes))
  where
    goes : (x : Result Stand FilterError) → with_next g k.stand ≡ x → Takes g k.stand x (Err e) new → all_of g bytes ≡ Err e
    goes (Ok t) is takes = absurd takes
    goes (Err d) is takes =
        let here : with_nexts g (suc n) before ≡ Err e = ap (next_after g) k.taken ∙ is ∙ ap Err (sym takes) in
        ap (ended g) k.comes ∙ stuck g before e (suc n) (length before.held) here (omega (arith, lt))

-- all are taken
pub all-taken : (g : Given) (bytes : List ℕ) (before : Stand) (count n : ℕ) (filter : Filter) (a c : Option (List ℕ)) → Known g bytes before n filter a c × (count ≡ length before.held) → count ≡ n
    → Known g bytes before (length before.held) filter a c
all-taken g bytes before count n filter a c k is = subst (λ (m : ℕ). Known g bytes before m filter a c) (sym is ∙ k.1) k.0

-- a fault of a row that is held, at the end
pub gave-fault : (g : Given) (bytes : List ℕ) (e : FilterError) (a c : Option (List ℕ)) → WroteFront g bytes a c × ((e ≡ Write) ⊎ (all_of g bytes ≡ Err e)) → Finished (Err e) g bytes a c
gave-fault g bytes e a c w = (w.0, elim w.1 [ inl write ↦ inl write | inr all ↦ inr (inl all) ])

-- all that is known is written
pub record AllKnown (g : Given) (bytes : List ℕ) (filter : Filter) (a c : Option (List ℕ)) : Type 0 where
  pub before : Stand
  pub count : ℕ
  pub stand : Stand
  pub first : filtered g bytes ≡ Ok before
  pub taken : with_nexts g count before ≡ Ok stand
  pub comes : all_of g bytes ≡ Ok stand
  pub stands : StandsAt g stand filter
  pub grown : Appends a c (known_log g stand)

pub all-known : (g : Given) (bytes : List ℕ) (before : Stand) (filter : Filter) (a c : Option (List ℕ)) → Known g bytes before (length before.held) filter a c → AllKnown g bytes filter a c
all-known g bytes before filter a c k = record {
  before = before;
  count = length before.held;
  stand = k.stand;
  first = k.comes;
  taken = k.taken;
  comes = ap (ended g) k.comes ∙ k.taken;
  stands = k.stands;
  grown = k.grown;
}

-- the log is too long
pub end-long : (g : Given) (bytes : List ℕ) (filter : Filter) (e : FilterError) (a c : Option (List ℕ)) → (k : AllKnown g bytes filter a c) → e ≡ LogTooLarge
    → 67108864 < length (whole_log g k.stand) → Finished (Err e) g bytes a c
end-long g bytes filter e a c k is long =
    let tail = known-begins g k.stand filter k.stands in (
      record {
        front = bytes;
        behind = [];
        before = k.before;
        count = k.count;
        stand = k.stand;
        written = known_log g k.stand;
        rest = tail.0;
        whole = sym (append-nil bytes);
        comes = k.first;
        taken = k.taken;
        grown = k.grown;
        begins = tail.1;
      },
      inr (inr (is, record { stand = k.stand; comes = k.comes; long = long })),
    )

-- the log is whole
whole-is : (g : Given) (s : Stand) (f : Filter) (form : RowForm) (rest : KnownRows) → StandsAt g s f → form ≡ f.form → rows_before g.from g.wires s.events ++ rows_in rest ≡ rows_of (row_in g.from g.wires s.events)
    → whole_log g s ≡ known_log g s ++ text_in form (rows_in rest)
whole-is g s f form rest at same is =
    ap (text_by g) (sym is) ∙ append-in (form_of_wires g.wires) (rows_before g.from g.wires s.events) (rows_in rest)
    ∙ ap (λ (it : RowForm). known_log g s ++ text_in it (rows_in rest)) (sym (same ∙ at.form))

-- its last rows are not written
pub end-unwritten : (g : Given) (bytes : List ℕ) (filter : Filter) (form : RowForm) (rest : KnownRows) (e : FilterError) (a b c : Option (List ℕ)) → (k : AllKnown g bytes filter a b) → form ≡ filter.form
    → rows_before g.from g.wires k.stand.events ++ rows_in rest ≡ rows_of (row_in g.from g.wires k.stand.events) → AppendsFront b c (text_in form (rows_in rest)) → e ≡ Write → Finished (Err e) g bytes a c
end-unwritten g bytes filter form rest e a b c k same whole front is =
    (front-of g bytes k.before k.count k.stand (known_log g k.stand) (text_in form (rows_in rest)) [] a b c k.first k.taken k.grown front (whole-is g k.stand filter form rest k.stands same whole ∙ sym (append-nil (known_log g k.stand ++ text_in form (rows_in rest)))), inl is)

grown-whole : (g : Given) (s : Stand) (f : Filter) (form : RowForm) (rest : KnownRows) (a b c : Option (List ℕ)) → StandsAt g s f → form ≡ f.form → rows_before g.from g.wires s.events ++ rows_in rest ≡ rows_of (row_in g.from g.wires s.events)
    → Appends a b (known_log g s) → Appends b c (text_in form (rows_in rest)) → Appends a c (whole_log g s)
grown-whole g s f form rest a b c at same whole grown ok = subst (λ (v : List ℕ). Appends a c v) (sym (whole-is g s f form rest at same whole)) (appends-more a b c (known_log g s) (text_in form (rows_in rest)) grown ok)

-- readers of logs take the whole one
pub end-whole : (g : Given) (bytes : List ℕ) (filter : Filter) (form : RowForm) (rest : KnownRows) (summary : Summary) (a b c : Option (List ℕ)) → (k : AllKnown g bytes filter a b) → form ≡ filter.form
    → length (whole_log g k.stand) ≤ 67108864 → rows_before g.from g.wires k.stand.events ++ rows_in rest ≡ rows_of (row_in g.from g.wires k.stand.events) → Appends b c (text_in form (rows_in rest))
    → summary ≡ summary_at g k.stand → Finished (Ok summary) g bytes a c
end-whole g bytes filter form rest summary a b c k same few whole ok is = (
  whole_log g k.stand,
  grown-whole g k.stand filter form rest a b c k.stands same whole k.grown ok,
  record {
    stand = k.stand;
    comes = k.comes;
    told = is;
    log = refl;
    taken = logs g.from g.wires k.stand.events few;
  },
)
