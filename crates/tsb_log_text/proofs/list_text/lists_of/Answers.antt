use Rattle.std.proofs.Common.{◌≡◌, ◌∙◌, ℕ, List, Some, Bor, option_map, rules, sym}
use Rattle.tsb_log_text.specs.RowLists.{own_list, parts, words_left}
use Rattle.tsb_log_text.proofs.SpelledLemmas.{lists-read, words-left}
use Rattle.tsb_log_text.proofs.list_text.lists_of.Goals as goal

pub returns-then-is_some : goal.returns-then-is_some
returns-then-is_some c =
    let one : own_list 86 64 (parts 32 c.args.text.now) ≡ Some (c.in_ok-vehicles.vehicles, words_left (option_map (λ (text : Bor (List ℕ)). text.now) c.in_ok-vehicles.rest)) =
    rw c.in_ok-vehicles.was at c.own_list.ensures.read in
    let two : own_list 80 16 (words_left (option_map (λ (text : Bor (List ℕ)). text.now) c.in_ok-vehicles.rest))
    ≡ Some (c.in_ok-pedestrians.pedestrians, words_left (option_map (λ (text : Bor (List ℕ)). text.now) c.in_ok-pedestrians.rest)) =
    rw c.in_ok-pedestrians.was at c.own_list-2.ensures.read in
    let three : own_list 69 8 (words_left (option_map (λ (text : Bor (List ℕ)). text.now) c.in_ok-pedestrians.rest))
    ≡ Some (c.in_ok-preempts.preempts, words_left (option_map (λ (text : Bor (List ℕ)). text.now) c.in_ok-preempts.rest)) =
    rw c.in_ok-preempts.was at c.own_list-3.ensures.read in
    sym (lists-read c.args.text.now c.in_ok-vehicles.vehicles c.in_ok-pedestrians.pedestrians _ _ _ one two three
    ∙ words-left (λ (text : Bor (List ℕ)). text.now) c.in_ok-vehicles.vehicles c.in_ok-pedestrians.pedestrians c.in_ok-preempts.preempts c.in_ok-preempts.rest (search rules))
