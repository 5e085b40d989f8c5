use Rattle.std.proofs.Common.{◌≡◌, ◌∙◌, List, [], ◌∷◌, ◌++◌, true, false, Bool, take, if◌then◌else◌, ap, sym, refl, append-nil, Result, Ok, Err, rules}
use Rattle.std.specs.Result.{OnErr}
use Rattle.tsb_field_display.specs.declared.shown.Shown.{Shown}
use Rattle.tsb_field_display.specs.declared.replay.Replay.{Replay}
use Rattle.tsb_field_display.specs.Remaining.{before_tick, shows_last}
use Rattle.tsb_field_display.proofs.ReplayLemmas.{cut, kept-further, last-further}
use Rattle.tsb_field_display.proofs.replay.Replay.push.Goals as goal
use Rattle.tsb_field_display.proofs.replay.Replay.push.Goals.{then-not-shows_last+in_ok-push, else-not-shows_last}

on_err : {A E : Type 0} (r : Result A E) (P : Type 0) → P → OnErr r P
on_err (Ok a) P p = tt
on_err (Err e) P p = p

-- one that is not shown is kept, and one that is shown is not
kept : (shows : Bool) (cut : List Shown) (last : Shown) → shows_last cut last.signals ≡ shows →
    (if shows then cut else cut ++ last ∷ []) ≡ cut ++ (if shows_last cut last.signals then [] else last ∷ [])
kept true cut last e = rw e (sym (append-nil cut))
kept false cut last e = rw e refl

pub returns-in_err-push-clause-err : goal.returns-in_err-push-clause-err
returns-in_err-push-clause-err c lines held =
    let count = c.count_before-count.ensures in
    let same = c.deref.ensures.value in
    on_err c.from_residual.result _
    (c.in_err-push.ensures.items ∙ c.truncate.ensures.items
    ∙ ap (λ (ls : List Shown). take c.count_before-count.result ls) (sym same)
    ∙ cut lines c.deref.result.now c.args.shown.tick c.count_before-count.result (same ∙ held.changes) count.within count.above count.below
    ∙ ap (λ (ls : List Shown). before_tick c.args.shown.tick ls) same)

pub returns-clause-ok : goal.returns-clause-ok
returns-clause-ok c lines held =
    let count = c.count_before-count.ensures in
    let same = c.deref.ensures.value in
    let is_cut : c.truncate.new.self.items ≡ before_tick c.args.shown.tick c.args.self.now.changes.items =
    c.truncate.ensures.items
    ∙ ap (λ (ls : List Shown). take c.count_before-count.result ls) (sym same)
    ∙ cut lines c.deref.result.now c.args.shown.tick c.count_before-count.result (same ∙ held.changes) count.within count.above count.below
    ∙ ap (λ (ls : List Shown). before_tick c.args.shown.tick ls) same in
    let shows : shows_last c.truncate.new.self.items c.args.shown.signals ≡ c.shows_last.result =
    ap (λ (ls : List Shown). shows_last ls c.args.shown.signals) (sym c.deref-2.ensures.value) ∙ sym c.shows_last.ensures in
    elim c.if-not-shows_last.branch [
      | then-not-shows_last+in_ok-push w ↦ record {
        changes = kept-further lines _ c.truncate.new.self.items _ c.args.shown held.changes is_cut
            (ap (λ (h : Replay). h.changes.items) w.self-is ∙ w.in_ok-push.ensures.items
            ∙ kept false c.truncate.new.self.items c.args.shown (shows ∙ w.if-not-shows_last.true));
        last = sym (last-further lines c.args.shown);
      }
      | else-not-shows_last w ↦ record {
        changes = kept-further lines _ c.truncate.new.self.items _ c.args.shown held.changes is_cut
            (ap (λ (h : Replay). h.changes.items) w.self-is
            ∙ kept true c.truncate.new.self.items c.args.shown (shows ∙ w.if-not-shows_last.false));
        last = sym (last-further lines c.args.shown);
      }
    ]

pub returns-in_err-push-clause-last : goal.returns-in_err-push-clause-last
returns-in_err-push-clause-last c = search rules fits 100
