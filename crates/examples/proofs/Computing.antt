-- What computed tests of the examples look through.
use native.Mathlib.Decide.{dec_le}
use Rattle.surface.specs.Surface.{next}
use Rattle.surface.specs.Collapse.{collapse, rename, falls}
use Rattle.surface.specs.Euler.{count, total, any, leads, joined, edges, euler}
use Rattle.surface.specs.Read.{read}
use Rattle.mesh.specs.Stages.{stage}
use Rattle.gauge.specs.Near.{has, placed, near}
use Rattle.planes.specs.Quadrics.{plus, at_point, square_of, quadric}
use Rattle.planes.specs.Accounts.{quadric_at, gathered}
use Rattle.sweep.specs.Sweeps.{holds, moves as sweeps, size}
use Rattle.sweep.specs.Prices.{over}
use Rattle.ledger.specs.Book.{account_at}
use Rattle.examples.specs.Octahedron.{positions, corners}
use Rattle.examples.specs.Flawed.{three, alone, sheet, double}
use Rattle.examples.proofs.Every.{every}
use Rattle.examples.proofs.Sided.{sided, along}
use Rattle.examples.proofs.Sealing.{walks, side_fine, pair_fine, used, seals}
use Rattle.examples.proofs.Linking.{four, links, shares, threes}
use Rattle.examples.proofs.Turning.{moves, keeps}
use Rattle.examples.proofs.Permitting.{last, across, met, seamless, allows}
use Rattle.examples.proofs.Standing.{clashes, tight}
use Rattle.examples.proofs.Stepping.{ahead, passes, foremost}
use Rattle.examples.proofs.Reaching.{reaches}
use Rattle.examples.proofs.Ringless.{starts}

unfoldable pub surfaces : Unit {0}
unfolding next collapse rename falls count total any leads joined edges euler read stage has positions corners three alone sheet double
surfaces = tt

unfoldable pub tests : Unit {0}
unfolding surfaces every sided along walks side_fine pair_fine used seals four links shares threes moves keeps last across met seamless allows clashes tight reaches starts
tests = tt

unfoldable pub prices : Unit {0}
unfolding tests placed near plus at_point square_of quadric quadric_at gathered holds sweeps size over account_at ahead passes foremost dec_le
prices = tt
