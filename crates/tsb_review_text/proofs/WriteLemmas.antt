-- What a writer has taken of a review, piece by piece.
use Rattle.std.proofs.Common.{◌≡◌, ◌∙◌, ℕ, ◌+◌, ◌-◌, ◌<◌, ◌≤◌, Bool, true, false, if◌then◌else◌, List, [], ◌∷◌, ◌++◌, append_assoc, length, drop, get_or, flat_map, refl, sym, ap, arith, subst, OnErr, OnOk, Some, None}
use Rattle.std.specs.declared.result.Result.{Result}
use Rattle.std.specs.declared.result.Result.TheVariants.{Ok, Err}
use Rattle.std.proofs.lemmas.List.{append-nil, at_drop_all, at_drop_more}
use Rattle.std.proofs.lemmas.List.Concat.{flat_map-append}
use Rattle.std.proofs.lemmas.List.Folds.{flat_map-map}
use Rattle.std.specs.Io.KnownBytes.{Appends}
use Rattle.tsb_lines.proofs.StreamLemmas.{Went, appends-more, appends-nothing, went-as, went-piece}
use Rattle.tsb_lines.specs.Writes.{AppendsFront}
use Rattle.tsb_lines.specs.declared.writes.WriteError.{WriteError}
use Rattle.tsb_lines.specs.Seen.{Seen}
use Rattle.tsb_plan.specs.Plan.{Plan}
use Rattle.tsb_types.specs.Lists.{run_from}
use Rattle.tsb_types.proofs.RunLemmas.{flat-run_from, flat-run_past}
use Rattle.tsb_review.specs.declared.advice.Advice.{Advice}
use Rattle.tsb_breaches.specs.declared.fault.RuleFault.{RuleFault}
use Rattle.tsb_breaches.specs.Breaches.{breaches, breaches_of, faults, found as found_at, is_at, shape as kind_of}
use Rattle.tsb_review.specs.declared.place.Place.{Place}
use Rattle.tsb_review.specs.declared.place.Shape.{Shape}
use Rattle.tsb_review.specs.Advices.{advices, findings, findings_of, found, holds, shape}
use Rattle.tsb_review.specs.Places.{firsts, place_of, places, places_beside, places_from, seconds, thirds}
use Rattle.tsb_review_text.specs.Lines.{breach_line, breaches_text, line_of, review_text}
use Rattle.tsb_review_text.specs.Written.{Wrote, breach_line_in, line_at, line_in, shape_of, text_beside, text_from, text_of}
use Rattle.tsb_review_text.specs.declared.review.Remark.{Remark}
use Rattle.tsb_review_text.specs.declared.review.Remark.TheVariants as remarks

-- ## The text, part by part

flat-same : {A B : Type 0} (f g : A → List B) → ((x : A) → f x ≡ g x) → (xs : List A) → flat_map f xs ≡ flat_map g xs
flat-same f g same [] = refl
flat-same f g same (x ∷ xs) = ap (λ ys. ys ++ flat_map f xs) (same x) ∙ ap (λ ys. g x ++ ys) (flat-same f g same xs)

flat-flat : {A B C : Type 0} (g : B → List C) (f : A → List B) (xs : List A) → flat_map g (flat_map f xs) ≡ flat_map (λ x. flat_map g (f x)) xs
flat-flat g f [] = refl
flat-flat g f (x ∷ xs) = flat_map-append g (f x) (flat_map f xs) ∙ ap (λ ys. flat_map g (f x) ++ ys) (flat-flat g f xs)

-- what is written of all places of a kind, number by number
by-places : (s : Shape) (line : Place → List ℕ) →
    flat_map line (places s) ≡ flat_map (λ i. flat_map (λ j. flat_map (λ k. line (place_of s i j k)) (run_from 1 (thirds s))) (run_from 1 (seconds s))) (run_from 1 (firsts s))
unfolding places places_from places_beside
by-places s line =
    let beside : ℕ → ℕ → List ℕ = λ i j. flat_map (λ k. line (place_of s i j k)) (run_from 1 (thirds s)) in
    flat-flat line (places_from s) (run_from 1 (firsts s))
    ∙ flat-same (λ i. flat_map line (places_from s i)) (λ i. flat_map (beside i) (run_from 1 (seconds s)))
    (λ i. flat-flat line (places_beside s i) (run_from 1 (seconds s))
    ∙ flat-same (λ j. flat_map line (places_beside s i j)) (beside i) (λ j. flat_map-map line (place_of s i j) (run_from 1 (thirds s))) (run_from 1 (seconds s)))
    (run_from 1 (firsts s))

-- the lines of a remark
remark-text : (plan : Plan) (r : Remark) → flat_map (line_at plan r) (places (shape_of r)) ≡ text_of plan r
unfolding text_of text_from text_beside
remark-text plan r = by-places (shape_of r) (line_at plan r)

-- the line of a place, where the advice holds of it
finding-line : (plan : Plan) (a : Advice) (place : Place) → flat_map (line_of plan) (found plan a place) ≡ line_at plan (remarks.Advice a) place
finding-line plan a place = go (holds plan a place)
  where
    go : (b : Bool) →
        flat_map (line_of plan) (if b then (record { advice = a; place = place }) ∷ [] else [])
        ≡ line_in plan (if b then Some (record { advice = a; place = place }) else None)
    go true = append-nil _
    go false = refl

-- the lines of an advice
advice-text : (plan : Plan) (a : Advice) → flat_map (line_of plan) (findings_of plan a) ≡ text_of plan (remarks.Advice a)
unfolding findings_of
advice-text plan a =
    flat-flat (line_of plan) (found plan a) (places (shape a))
    ∙ flat-same (λ place. flat_map (line_of plan) (found plan a place)) (line_at plan (remarks.Advice a)) (finding-line plan a) (places (shape a))
    ∙ remark-text plan (remarks.Advice a)

-- the text of a review, advice by advice
pub by-advices : (plan : Plan) → review_text plan ≡ flat_map (λ a. text_of plan (remarks.Advice a)) advices
unfolding review_text findings
by-advices plan =
    flat-flat (line_of plan) (findings_of plan) advices
    ∙ flat-same (λ a. flat_map (line_of plan) (findings_of plan a)) (λ a. text_of plan (remarks.Advice a)) (advice-text plan) advices

-- the line of a place, where there is a breach
breach-at : (plan : Plan) (f : RuleFault) (place : Place) → flat_map (breach_line plan) (found_at plan f place) ≡ line_at plan (remarks.Breach f) place
breach-at plan f place = go (is_at plan f place)
  where
    go : (b : Bool) →
        flat_map (breach_line plan) (if b then (record { fault = f; place = place }) ∷ [] else [])
        ≡ breach_line_in plan (if b then Some (record { fault = f; place = place }) else None)
    go true = append-nil _
    go false = refl

-- the lines of one way to break a rule
fault-text : (plan : Plan) (f : RuleFault) → flat_map (breach_line plan) (breaches_of plan f) ≡ text_of plan (remarks.Breach f)
unfolding breaches_of
fault-text plan f =
    flat-flat (breach_line plan) (found_at plan f) (places (kind_of f))
    ∙ flat-same (λ place. flat_map (breach_line plan) (found_at plan f place)) (line_at plan (remarks.Breach f)) (breach-at plan f) (places (kind_of f))
    ∙ remark-text plan (remarks.Breach f)

-- the text of all breaches, one way after the other
pub by-faults : (plan : Plan) → breaches_text plan ≡ flat_map (λ f. text_of plan (remarks.Breach f)) faults
unfolding breaches_text breaches
by-faults plan =
    flat-flat (breach_line plan) (breaches_of plan) faults
    ∙ flat-same (λ f. flat_map (breach_line plan) (breaches_of plan f)) (λ f. text_of plan (remarks.Breach f)) (fault-text plan) faults

-- ## What has gone out

-- all
pub wrote-all : (a b : Seen) (text : List ℕ) → Went a b text [] → Wrote (Ok tt) a b text
wrote-all a b text so =
    let same : text ≡ so.gone.gone = so.gone.whole ∙ append-nil so.gone.gone in
    record {
      whole = subst (λ (ts : List ℕ). Appends a.bytes b.bytes ts) (sym same) so.gone.grown;
      front = (so.gone.gone, [], so.gone.grown, so.gone.whole);
      blame = tt;
      well = so.well;
    }

-- the writer failed within a piece
pub wrote-front : (a b c : Seen) (text piece left : List ℕ) (e : WriteError) → Went a b text (piece ++ left) → AppendsFront b.bytes c.bytes piece → c.failed ≡ true → Wrote (Err e) a c text
wrote-front a b c text piece left e so front failed = record {
  whole = tt;
  front = (
    so.gone.gone ++ front.0,
    front.1 ++ left,
    appends-more a.bytes b.bytes c.bytes so.gone.gone front.0 so.gone.grown front.2,
    so.gone.whole ∙ ap (λ (ts : List ℕ). so.gone.gone ++ (ts ++ left)) front.3 ∙ ap (λ (ts : List ℕ). so.gone.gone ++ ts) (append_assoc front.0 front.1 left)
        ∙ sym (append_assoc so.gone.gone front.0 (front.1 ++ left)),
  );
  blame = failed;
  well = tt;
}

-- a text that is what was to be written
pub wrote-said : (r : Result (Unit {0}) WriteError) (a b : Seen) (bytes text : List ℕ) → bytes ≡ text → OnOk r (Appends a.bytes b.bytes bytes) → AppendsFront a.bytes b.bytes bytes
    → OnErr r (b.failed ≡ true) → OnOk r (b.failed ≡ a.failed) → Wrote r a b text
wrote-said r a b bytes text same whole front blame well =
    subst (λ (ts : List ℕ). Wrote r a b ts) same (record { whole = whole; front = front; blame = blame; well = well })

-- ## Over the numbers from 1 on

-- nothing has gone out yet
pub start-run : (f : ℕ → List ℕ) (a : Seen) (text : List ℕ) (n end : ℕ) → text ≡ flat_map f (run_from 1 n) → end ≡ n + 1 →
    Went a a text (flat_map f (run_from 1 (end - 1)))
start-run f a text n end is ends =
    let e : end - 1 ≡ n = omega (arith, ends) in
    record {
      gone = record { gone = []; grown = appends-nothing a.bytes; whole = is ∙ ap (λ (m : ℕ). flat_map f (run_from 1 m)) (sym e) };
      well = refl;
    }

-- one number more
pub next-run : (f : ℕ → List ℕ) (a b c : Seen) (text : List ℕ) (k end : ℕ) → k < end → Went a b text (flat_map f (run_from k (end - k)))
    → Appends b.bytes c.bytes (f k) → c.failed ≡ b.failed → Went a c text (flat_map f (run_from (k + 1) (end - (k + 1))))
next-run f a b c text k end below so added well =
    went-piece a b c text (f k) (flat_map f (run_from (k + 1) (end - (k + 1)))) (went-as a b text _ _ (flat-run_from f k end below) so) added well

-- the writer failed at one
pub fail-run : (f : ℕ → List ℕ) (a b c : Seen) (text : List ℕ) (k end : ℕ) (e : WriteError) → k < end → Went a b text (flat_map f (run_from k (end - k)))
    → AppendsFront b.bytes c.bytes (f k) → c.failed ≡ true → Wrote (Err e) a c text
fail-run f a b c text k end e below so front failed =
    wrote-front a b c text (f k) (flat_map f (run_from (k + 1) (end - (k + 1)))) e (went-as a b text _ _ (flat-run_from f k end below) so) front failed

-- all is written
pub end-run : (f : ℕ → List ℕ) (a b : Seen) (text : List ℕ) (k end : ℕ) → end ≤ k →
    Went a b text (flat_map f (run_from k (end - k))) → Wrote (Ok tt) a b text
end-run f a b text k end over so = wrote-all a b text (went-as a b text _ _ (flat-run_past f k end over) so)

-- ## Over a list

left-of : {A : Type 0} (f : A → List ℕ) (xs : List A) (k : ℕ) (d : A) → k < length xs → flat_map f (drop k xs) ≡ f (get_or xs k d) ++ flat_map f (drop (k + 1) xs)
left-of f xs k d below = at_drop_more (flat_map f) xs k d below

pub start-list : {A : Type 0} (f : A → List ℕ) (xs : List A) (a : Seen) (text : List ℕ) → text ≡ flat_map f xs → Went a a text (flat_map f (drop 0 xs))
start-list f xs a text is = record { gone = record { gone = []; grown = appends-nothing a.bytes; whole = is }; well = refl }

pub next-list : {A : Type 0} (f : A → List ℕ) (xs : List A) (d : A) (a b c : Seen) (text : List ℕ) (k : ℕ) → k < length xs → Went a b text (flat_map f (drop k xs))
    → Appends b.bytes c.bytes (f (get_or xs k d)) → c.failed ≡ b.failed → Went a c text (flat_map f (drop (k + 1) xs))
next-list f xs d a b c text k below so added well =
    went-piece a b c text (f (get_or xs k d)) (flat_map f (drop (k + 1) xs)) (went-as a b text _ _ (left-of f xs k d below) so) added well

pub fail-list : {A : Type 0} (f : A → List ℕ) (xs : List A) (d : A) (a b c : Seen) (text : List ℕ) (k : ℕ) (e : WriteError) → k < length xs
    → Went a b text (flat_map f (drop k xs)) → AppendsFront b.bytes c.bytes (f (get_or xs k d)) → c.failed ≡ true → Wrote (Err e) a c text
fail-list f xs d a b c text k e below so front failed =
    wrote-front a b c text (f (get_or xs k d)) (flat_map f (drop (k + 1) xs)) e (went-as a b text _ _ (left-of f xs k d below) so) front failed

pub end-list : {A : Type 0} (f : A → List ℕ) (xs : List A) (a b : Seen) (text : List ℕ) (k : ℕ) → length xs ≤ k →
    Went a b text (flat_map f (drop k xs)) → Wrote (Ok tt) a b text
end-list f xs a b text k over so = wrote-all a b text (went-as a b text _ _ (at_drop_all (flat_map f) xs k over) so)
