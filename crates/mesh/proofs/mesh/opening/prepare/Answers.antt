use Rattle.std.proofs.Common.{ℕ, ◌≤◌, List, length, vec_items, vec_capacity, sym, ap, subst}
use Rattle.judging.proofs.Floods.{carried}
use Rattle.mesh.specs.Opened.{Tabled, AllLive}
use Rattle.mesh.proofs.Openings.{tabled}
use Rattle.mesh.proofs.mesh.opening.prepare.Goals as goal

pub all_live-requires : goal.all_live-requires
all_live-requires c =
    let g = c.args.gathering.now in
    let t = c.in_ok-counts.field-0 in
    record {
      tabled = carried (λ (cs : List ℕ) (n : ℕ). Tabled cs n (vec_items t.twin) (vec_items t.out)) c.corners.ensures.value (ap length c.positions-n.ensures.value) (tabled g t c.in_ok-counts.ensures.surveyed);
    }

pub returns : goal.returns
returns c =
    let g = c.args.gathering.now in
    let many = ap length c.positions-n.ensures.value in
    let log = c.in_ok-log.ensures in
    record {
      outcome =
          record {
            judged = c.in_ok-counts.ensures.surveyed.0;
            edges_live = carried (λ (cs : List ℕ) (n : ℕ). AllLive cs n c.in_ok-edges.edges) (sym c.corners.ensures.value) (sym many) c.in_ok-edges.ensures.live;
            log_empty = log.empty;
            log_room = subst (λ (n : ℕ). n ≤ vec_capacity c.in_ok-log.log) many log.room;
          };
    }
