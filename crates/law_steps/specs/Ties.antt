-- What has become of a link from a server's own entries on, or later ones, while the server runs and is In as itself.
use Rattle.law_steps.specs.Imports.{Both, Cell, Command, LinkRow, Setting, StaysSo, World, has_proposed, is_alone_on, server_state, state_after}
use Rattle.std.specs.Prelude.{◌≡◌, ◌⊎◌, List, true, ℕ}

-- of one that was in Both: nothing has touched it, or the server holds it alone
abbrev pub StaysInBoth : Setting → (n : ℕ) → (prefix more : List Command) → Cell → LinkRow → Type 0
StaysInBoth setting n prefix more cell row =
    StaysSo cell row (state_after setting.servers prefix) (state_after setting.servers more) ⊎ (is_alone_on (state_after setting.servers more) n cell ≡ true)

-- the link is in Both by a Caught for which the server has started the ballot, and of which it doesn't know yet: it stands after the
-- server's last entry, and nothing has touched the link since
pub record HasOwnCaught (setting : Setting) (w : World) (n : ℕ) (prefix more : List Command) (cell : Cell) : Type 0 where
  pub at : prefix ≡ (w.servers n).log.applied
  pub proposed : has_proposed (server_state setting w n) (w.servers n).own cell ≡ true
  pub now : LinkRow
  pub both : now.state ≡ Both
  pub since : StaysSo cell now (state_after setting.servers prefix) (state_after setting.servers more)

-- of one that it held alone: it does so still, or there is such a Caught
abbrev pub StaysAloneOrCaught : Setting → World → (n : ℕ) → (prefix more : List Command) → Cell → Type 0
StaysAloneOrCaught setting w n prefix more cell = (is_alone_on (state_after setting.servers more) n cell ≡ true) ⊎ HasOwnCaught setting w n prefix more cell
