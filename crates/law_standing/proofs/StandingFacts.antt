-- What holds of every world that a schedule leads to.
use Rattle.law_standing.proofs.Imports.{◌+◌, ◌<◌, ◌≡◌, ◌≢◌, ◌≤◌, ◌⊎◌, Accept, Accepted, Ask, Ballot, Bool, Chosen, Command, Idle, In, IsChosen, IsEnd}
use Rattle.law_standing.proofs.Imports.{IsMajority, IsRising, IsRisingFrom, Learnt, Letter, List, None, Option, Phase, Prepare, Promise, Refuse, Report}
use Rattle.law_standing.proofs.Imports.{Setting, Some, Standing, Started, Told, Vote, World, is_in, is_within, last_place, length, number, promised_at}
use Rattle.law_standing.proofs.Imports.{promised_from, rank, rank_of, reported_at, sent, to_propose, true, ℕ, ⊤}

-- 0 while the server has promised nothing at the place, else one more than the ballot's number
abbrev pub promised : World → ℕ → ℕ → ℕ
promised w s p = rank (promised_at (w.devices s) p)

abbrev pub HasPromised : World → ℕ → ℕ → Ballot → Type 0
HasPromised w s p b = number b + 1 ≤ promised w s p

-- the server promised the ballot or a higher one from some place on, whichever it is
abbrev pub HasPledged : World → ℕ → Ballot → Type 0
HasPledged w s b = (p : ℕ) → number b + 1 ≤ rank (promised_from (w.devices s) p)

-- an acceptance that reached the server's device is a vote
abbrev pub HasVoted : World → ℕ → ℕ → Ballot → Command → Type 0
HasVoted w s p b v = In (Vote p b v) (w.devices s)

-- below ballot b the server's votes at the place rank at most r, 0 for no vote. Together with HasPromised this stays so
abbrev pub IsGreatestBelow : World → ℕ → ℕ → ℕ → Ballot → Type 0
IsGreatestBelow w s p r b = (d : Ballot) (u : Command) → HasVoted w s p d u → number d < number b → number d < r

-- some server cast each vote that is reported
abbrev pub AreCast : World → List Report → Type 0
AreCast w reported = (r : Report) → In r reported → (s : ℕ) × HasVoted w s r.0 r.1 r.2

-- the server that started the ballot asked for votes
abbrev pub Asked : World → ℕ → Ballot → Command → Type 0
Asked w p b v = In (sent b.server (Accept p b v)) w.letters

-- the server that started the ballot asked for promises from the place on
abbrev pub Prepared : World → ℕ → Ballot → Type 0
Prepared w from b = In (sent b.server (Prepare from b)) w.letters

-- a majority has promised past c, and whoever of it voted in c voted for v: nothing but v can ever be chosen in c
abbrev pub IsShut : Setting → World → ℕ → ℕ → Command → Type 0
IsShut o w p c v =
    (who : ℕ → Bool) × IsMajority o.servers who
    × ((s : ℕ) → who s ≡ true → (c + 2 ≤ promised w s p) × ((d : Ballot) (u : Command) → HasVoted w s p d u → number d ≡ c → u ≡ v))

abbrev pub IsSafe : Setting → World → ℕ → Ballot → Command → Type 0
IsSafe o w p b v = (c : ℕ) → c < number b → IsShut o w p c v

-- what a promise says: the ballot was started; it covers every place from its own on; what it lists was voted, by rising place; it
-- tells all, or up to the last place listed, where the list is full; and so far the server's votes of lower ballots rank at most as
-- listed
pub record IsPromise (most : ℕ) (w : World) (s from : ℕ) (b : Ballot) (until : Option ℕ) (told : List Report) : Type 0 where
  pub started : HasPledged w b.server b
  pub covers : (p : ℕ) → from ≤ p → HasPromised w s p b
  pub voted : (r : Report) → In r told → HasVoted w s r.0 r.1 r.2
  pub rising : IsRisingFrom from told
  pub short : length told ≤ most
  pub ends : IsEnd until (last_place from told) (length told) most
  pub below : (p : ℕ) → from ≤ p → is_within until p ≡ true → IsGreatestBelow w s p (rank_of (reported_at told p)) b

-- what a letter that was sent says
abbrev pub IsBacked : Setting → World → ℕ → Letter → Type 0
IsBacked o w s (Prepare from b) = (s ≡ b.server) × HasPledged w b.server b × (b.server < 256)
IsBacked o w s (Promise from b until told) = IsPromise o.most w s from b until told
IsBacked o w s (Accept p b v) = (s ≡ b.server) × HasPledged w b.server b × (b.server < 256) × IsSafe o w p b v
IsBacked o w s (Accepted p b) = (v : Command) × HasVoted w s p b v
IsBacked o w s (Refuse p b m) = ⊤
IsBacked o w s (Chosen p v) = IsChosen o.servers w p v

-- the ballot is the server's own, and was started
abbrev pub Owns : World → ℕ → Ballot → Type 0
Owns w s b = (b.server ≡ s) × (s < 256) × HasPledged w s b

-- what those who were heard promised, and what they told
abbrev pub HasHeard : World → Told → List Bool → Type 0
HasHeard w told heard = (k : ℕ) → is_in heard k ≡ true
    → ((p : ℕ) → told.from ≤ p → HasPromised w k p told.ballot)
    × ((p : ℕ) → told.from ≤ p → is_within told.until p ≡ true → IsGreatestBelow w k p (rank_of (reported_at told.reported p)) told.ballot)

-- at each place of its range, whatever the ballot may propose there is safe
abbrev pub IsSafeInRange : Setting → World → Told → Type 0
IsSafeInRange o w told = (p : ℕ) → told.from ≤ p → is_within told.until p ≡ true → (want : Command)
    → IsSafe o w p told.ballot (to_propose want (reported_at told.reported p))

-- the votes that were asked for last, and those who gave theirs
abbrev pub HasAsked : World → Ballot → Option Ask → Type 0
HasAsked w b None = ⊤
HasAsked w b (Some ask) = Asked w ask.place b ask.command × ((k : ℕ) → is_in ask.heard k ≡ true → HasVoted w k ask.place b ask.command)

-- what a proposer knows; a stopped one knows nothing
abbrev pub Knows : Setting → World → ℕ → Option Phase → Type 0
Knows o w s None = ⊤
Knows o w s (Some Idle) = ⊤
Knows o w s (Some (Started told heard)) = Owns w s told.ballot × HasHeard w told heard × AreCast w told.reported
Knows o w s (Some (Standing told stands asked)) =
    Owns w s told.ballot × IsSafeInRange o w told × AreCast w told.reported × HasAsked w told.ballot asked

abbrev pub IsUpTo : Option Ask → ℕ → Type 0
IsUpTo None p = ⊥
IsUpTo (Some ask) p = p ≤ ask.place

-- a ballot has asked for no vote before it stands, so none of its own is reported to it; then it asks inside its range alone, and for
-- no place behind the last
abbrev pub AsksOnly : World → Option Phase → Type 0
AsksOnly w None = ⊤
AsksOnly w (Some Idle) = ⊤
AsksOnly w (Some (Started told heard)) = (p : ℕ) (d : Ballot) (v : Command) → Asked w p d v → number d ≢ number told.ballot
AsksOnly w (Some (Standing told stands asked)) = (p : ℕ) (d : Ballot) (v : Command) → Asked w p d v → number d ≡ number told.ballot
    → (told.from ≤ p) × (is_within told.until p ≡ true) × IsUpTo asked p

pub record Sound (o : Setting) (w : World) : Type 0 where
  pub backed : (s : ℕ) (l : Letter) → In (sent s l) w.letters → IsBacked o w s l
  pub knows : (s : ℕ) → Knows o w s (w.proposers s)
  pub asks_only : (s : ℕ) → AsksOnly w (w.proposers s)
  pub asked : (s p : ℕ) (b : Ballot) (v : Command) → HasVoted w s p b v → Asked w p b v
  pub newest : (s : ℕ) → IsRising (w.devices s)
  pub once : (f g : ℕ) (b d : Ballot) → Prepared w f b → Prepared w g d → number b ≡ number d → f ≡ g
  pub one : (p : ℕ) (b d : Ballot) (v u : Command) → Asked w p b v → Asked w p d u → number b ≡ number d → v ≡ u
  pub learnt : (s p : ℕ) (v : Command) → In (Learnt p v) (w.devices s) → IsChosen o.servers w p v

-- the later of two worlds: promises only rise, nothing that was sent or voted is lost, and no vote is cast below a promise
pub record IsLater (w v : World) : Type 0 where
  pub rises : (s p : ℕ) → promised w s p ≤ promised v s p
  pub pledges : (s p : ℕ) → rank (promised_from (w.devices s) p) ≤ rank (promised_from (v.devices s) p)
  pub letters : (s : ℕ) (l : Letter) → In (sent s l) w.letters → In (sent s l) v.letters
  pub votes : (s p : ℕ) (b : Ballot) (c : Command) → HasVoted w s p b c → HasVoted v s p b c
  pub fresh : (s p : ℕ) (d : Ballot) (u : Command) → HasVoted v s p d u → HasVoted w s p d u ⊎ (promised w s p ≤ number d + 1)
