-- What holds of every world that a schedule leads to.
use Rattle.law_agreement.proofs.Imports.{◌+◌, ◌<◌, ◌≡◌, ◌≢◌, ◌≤◌, ◌⊎◌, Accept, Accepted, Ballot, Bool, Chosen, Collecting, Command, In, IsChosen, IsMajority}
use Rattle.law_agreement.proofs.Imports.{None, Option, Pax, Phase, Promise, Some, Vote, Voting, World, is_in, number, rank, rank_of, sent, true, vote, ℕ, ⊤}

-- 0 while the server has promised nothing at the place, else one more than the ballot's number
abbrev pub promised : World → ℕ → ℕ → ℕ
promised w s p = rank (w.acceptors s p).promised

abbrev pub HasPromised : World → ℕ → ℕ → Ballot → Type 0
HasPromised w s p b = number b + 1 ≤ promised w s p

-- below ballot b the server's votes at the place rank at most r, 0 for no vote. Together with HasPromised this stays so
abbrev pub IsGreatestBelow : World → ℕ → ℕ → ℕ → Ballot → Type 0
IsGreatestBelow w s p r b = (d : Ballot) (u : Command) → In (vote s p d u) w.votes → number d < number b → number d < r

abbrev pub HasCast : World → ℕ → ℕ → Option (Ballot × Command) → Type 0
HasCast w s p None = ⊤
HasCast w s p (Some x) = In (vote s p x.0 x.1) w.votes

abbrev pub SomeoneCast : World → ℕ → Option (Ballot × Command) → Type 0
SomeoneCast w p None = ⊤
SomeoneCast w p (Some x) = (s : ℕ) × In (vote s p x.0 x.1) w.votes

-- the server that started the ballot asked for votes
abbrev pub Asked : World → ℕ → Ballot → Command → Type 0
Asked w p b v = In (sent b.server (Accept p b v)) w.letters

-- a majority has promised past c, and whoever of it voted in c voted for v: nothing but v can ever be chosen in c
abbrev pub IsShut : ℕ → World → ℕ → ℕ → Command → Type 0
IsShut n w p c v =
    (who : ℕ → Bool) × IsMajority n who
    × ((s : ℕ) → who s ≡ true → (c + 2 ≤ promised w s p) × ((d : Ballot) (u : Command) → In (vote s p d u) w.votes → number d ≡ c → u ≡ v))

abbrev pub IsSafe : ℕ → World → ℕ → Ballot → Command → Type 0
IsSafe n w p b v = (c : ℕ) → c < number b → IsShut n w p c v

-- what a letter that was sent says
abbrev pub IsBacked : ℕ → World → ℕ → Pax → Type 0
IsBacked n w from (Promise p b a) = HasPromised w from p b × IsGreatestBelow w from p (rank_of a) b × HasCast w from p a
IsBacked n w from (Accept p b v) = (from ≡ b.server) × HasPromised w from p b × (b.server < 256) × IsSafe n w p b v
IsBacked n w from (Accepted p b) = (v : Command) × In (vote from p b v) w.votes
IsBacked n w from (Chosen p v) = IsChosen n w p v
IsBacked n w from _ = ⊤

-- what a proposer knows; a stopped one knows nothing
abbrev pub Knows : World → ℕ → Option Phase → Type 0
Knows w s (Some (Collecting p b want heard best)) =
    (b.server ≡ s) × (s < 256) × HasPromised w s p b × ((k : ℕ) → is_in heard k ≡ true → HasPromised w k p b × IsGreatestBelow w k p (rank_of best) b)
    × SomeoneCast w p best
Knows w s (Some (Voting p b v heard)) = Asked w p b v × ((k : ℕ) → is_in heard k ≡ true → In (vote k p b v) w.votes)
Knows w s _ = ⊤

-- while a proposer collects, its ballot has asked for no vote
abbrev pub HasNotAsked : World → Option Phase → Type 0
HasNotAsked w (Some (Collecting p b want heard best)) = (d : Ballot) (v : Command) → Asked w p d v → number d ≢ number b
HasNotAsked w _ = ⊤

pub record Holds (n : ℕ) (w : World) : Type 0 where
  pub backed : (from : ℕ) (l : Pax) → In (sent from l) w.letters → IsBacked n w from l
  pub knows : (s : ℕ) → Knows w s (w.proposers s)
  pub not_asked : (s : ℕ) → HasNotAsked w (w.proposers s)
  pub asked : (s p : ℕ) (b : Ballot) (v : Command) → In (vote s p b v) w.votes → Asked w p b v
  pub voted : (s p : ℕ) (b : Ballot) (v : Command) → In (vote s p b v) w.votes → HasPromised w s p b × (number b < rank_of (w.acceptors s p).accepted)
  pub accepted : (s p : ℕ) → HasCast w s p (w.acceptors s p).accepted
  pub one : (p : ℕ) (b d : Ballot) (v u : Command) → Asked w p b v → Asked w p d u → number b ≡ number d → v ≡ u
  pub learnt : (s p : ℕ) (v : Command) → w.known s p ≡ Some v → IsChosen n w p v

-- the later of two worlds: promises only rise, nothing that was sent or cast is lost, and no vote is cast below a promise
pub record IsLater (w v : World) : Type 0 where
  pub rises : (s p : ℕ) → promised w s p ≤ promised v s p
  pub letters : (from : ℕ) (l : Pax) → In (sent from l) w.letters → In (sent from l) v.letters
  pub votes : (x : Vote) → In x w.votes → In x v.votes
  pub fresh : (s p : ℕ) (d : Ballot) (u : Command) → In (vote s p d u) v.votes → In (vote s p d u) w.votes ⊎ (promised w s p ≤ number d + 1)
