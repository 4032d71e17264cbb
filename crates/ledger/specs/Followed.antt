-- What a collapse does to the triangle list and the account as they stand.
use Rattle.std.specs.Prelude.{◌≡◌, ℕ}
use Rattle.surface.specs.Collapse.{collapse}
use Rattle.gauge.specs.Accounts.{changed}
use Rattle.gauge.specs.declared.Gauge.{Ghosts}
use Rattle.ledger.specs.Book.{Book, surface_now, account_now}
use Rattle.ledger.specs.Ledger.{noted, placed_at}

pub record Followed {G C E S : Type 0} (m : Ghosts G C E S) (s : S) (b : Book) (u w : ℕ) : Type 0 where
  -- u is collapsed to w, and its entry merged into that of w
  pub surface_next : surface_now (noted b u w) ≡ collapse (surface_now b) u w
  pub account_next : account_now m s (noted b u w) ≡ changed (m.merged s) m.blank u w (account_now m s b)
  -- back at the position before, the triangle list and the account are what they were
  pub surface_back : surface_now (placed_at (noted b u w) b.position) ≡ surface_now b
  pub account_back : account_now m s (placed_at (noted b u w) b.position) ≡ account_now m s b
  -- and that account is got by parting u and w in the one after
  pub account_parted : changed (m.parted s) m.blank u w (account_now m s (noted b u w)) ≡ account_now m s b
