-- The examples.
use Rattle.examples.specs.Examples.{Examples}
use Rattle.examples.proofs.Opening.{accepted, all_permitted}
use Rattle.examples.proofs.Costs.{all_by_planes, all_by_sweep, dearer, as_dear}
use Rattle.examples.proofs.Once.{first_step, third_corners, third_neighbour, refused_closed, right_angle, folding, second_step}
use Rattle.examples.proofs.Twice.{still_closed, flat, all_refused, no_step, no_redo, dropped, gone_back, beyond}
use Rattle.examples.proofs.Flaws.{no_ring, unmet, side_twice}

pub examples : Examples
examples =
    record {
      accepted = accepted;
      all_permitted = all_permitted;
      all_by_planes = all_by_planes;
      all_by_sweep = all_by_sweep;
      first_step = first_step;
      third_corners = third_corners;
      third_neighbour = third_neighbour;
      not_closed = refused_closed;
      right_angle = right_angle;
      folding = folding;
      dearer = dearer;
      as_dear = as_dear;
      second_step = second_step;
      still_closed = still_closed;
      flat = flat;
      all_refused = all_refused;
      no_step = no_step;
      no_redo = no_redo;
      dropped = dropped;
      gone_back = gone_back;
      beyond = beyond;
      no_ring = no_ring;
      unmet = unmet;
      side_twice = side_twice;
    }
