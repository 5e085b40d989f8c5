use Rattle.std.proofs.Common.{◌∙◌, refl, sym, ap, arith}
use Rattle.tsb_field_log.specs.Wires.{form_of_wires}
use Rattle.tsb_field_streams.proofs.FilterLemmas.{none_known}
use Rattle.tsb_field_streams.proofs.filter.Filter.new.Goals as goal

pub returns : goal.returns
returns c =
    λ g read device wires used taken none most.
    record {
      reading = read;
      device = device;
      wires = wires;
      columns = refl;
      times = sym read.times;
      zoned = refl;
      counted = refl;
      first = refl;
      last = refl;
      gaps = refl;
      devices = refl;
      strays = refl;
      used = used;
      others = refl;
      unwired = refl;
      passed = refl;
      found = refl;
      street = taken;
      behind = omega arith;
      form = c.form_of_wires.ensures ∙ ap form_of_wires (sym wires);
      bytes = sym (none_known g);
      few = omega arith;
      held = none;
      most = most;
      latest = refl;
    }
