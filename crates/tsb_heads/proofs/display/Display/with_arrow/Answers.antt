use Rattle.std.proofs.Common.{◌≢◌, true, false, refl, arith, ◌∙◌}
use Rattle.std.proofs.lemmas.Bool.{false≢true}
use Rattle.tsb_objects.specs.tsb_types.Sets.{has_number}
use Rattle.tsb_heads.proofs.ApartLemmas.{apart-with}
use Rattle.tsb_heads.proofs.display.Display.with_arrow.Goals as goal

pub returns-clause-apart : goal.returns-clause-apart
returns-clause-apart c = record {
  red_yellow = c.requires.apart.red_yellow;
  red_green = c.requires.apart.red_green;
  yellow_green = c.requires.apart.yellow_green;
  wait_clear = c.requires.apart.wait_clear;
  wait_walk = c.requires.apart.wait_walk;
  clear_walk = c.requires.apart.clear_walk;
  overlap_red_yellow = apart-with (has_number c.args.self.overlap_red) (has_number c.args.self.overlap_yellow) (has_number c.put.result) (has_number c.put-2.result) c.args.o false false
      c.requires.apart.overlap_red_yellow c.put.ensures.set c.put-2.ensures.set c.put.ensures.others c.put-2.ensures.others (λ lit. refl);
  overlap_red_green = apart-with (has_number c.args.self.overlap_red) (has_number c.args.self.overlap_green) (has_number c.put.result) (has_number c.put-3.result) c.args.o false false
      c.requires.apart.overlap_red_green c.put.ensures.set c.put-3.ensures.set c.put.ensures.others c.put-3.ensures.others (λ lit. refl);
  overlap_yellow_green = apart-with (has_number c.args.self.overlap_yellow) (has_number c.args.self.overlap_green) (has_number c.put-2.result) (has_number c.put-3.result) c.args.o false false
      c.requires.apart.overlap_yellow_green c.put-2.ensures.set c.put-3.ensures.set c.put-2.ensures.others c.put-3.ensures.others (λ lit. refl);
  overlap_red_arrow = apart-with (has_number c.args.self.overlap_red) (has_number c.args.self.overlap_arrow) (has_number c.put.result) (has_number c.put-4.result) c.args.o false true
      c.requires.apart.overlap_red_arrow c.put.ensures.set c.put-4.ensures.set c.put.ensures.others c.put-4.ensures.others (λ lit. absurd (false≢true lit));
  overlap_yellow_arrow = apart-with (has_number c.args.self.overlap_yellow) (has_number c.args.self.overlap_arrow) (has_number c.put-2.result) (has_number c.put-4.result) c.args.o false true
      c.requires.apart.overlap_yellow_arrow c.put-2.ensures.set c.put-4.ensures.set c.put-2.ensures.others c.put-4.ensures.others (λ lit. absurd (false≢true lit));
  overlap_green_arrow = apart-with (has_number c.args.self.overlap_green) (has_number c.args.self.overlap_arrow) (has_number c.put-3.result) (has_number c.put-4.result) c.args.o false true
      c.requires.apart.overlap_green_arrow c.put-3.ensures.set c.put-4.ensures.set c.put-3.ensures.others c.put-4.ensures.others (λ lit. absurd (false≢true lit));
}

pub returns-clause-few : goal.returns-clause-few
returns-clause-few c = λ few o above.
    let was = few o above in
    let other : o ≢ c.args.o = grind (arith, above, c.put.ensures.within) in
    record {
      red = c.put.ensures.others o other ∙ was.red;
      yellow = c.put-2.ensures.others o other ∙ was.yellow;
      green = c.put-3.ensures.others o other ∙ was.green;
      arrow = c.put-4.ensures.others o other ∙ was.arrow;
    }
