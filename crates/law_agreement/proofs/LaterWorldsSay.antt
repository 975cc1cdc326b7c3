-- What a world's letters and proposers say stays true in every later world.
use Rattle.law_agreement.proofs.Imports.{Accept, Accepted, Ballot, Chosen, Collecting, Command, IsChosen, None, Option, Pax, Phase, Promise, Some, Voting}
use Rattle.law_agreement.proofs.Imports.{World, arith, ℕ}
use Rattle.law_agreement.proofs.ScheduleFacts.{HasPromised, IsGreatestBelow, HasCast, SomeoneCast, IsShut, IsBacked, Knows, IsLater}

pub later_promised : (w v : World) → IsLater w v → (s p : ℕ) (b : Ballot) → HasPromised w s p b → HasPromised v s p b
later_promised w v l s p b h = let r = l.rises s p in omega arith

pub later_greatest : (w v : World) → IsLater w v → (s p r : ℕ) (b : Ballot) → HasPromised w s p b → IsGreatestBelow w s p r b → IsGreatestBelow v s p r b
later_greatest w v l s p r b h g = grind (arith, l.fresh)

pub later_cast : (w v : World) → IsLater w v → (s p : ℕ) (a : Option (Ballot × Command)) → HasCast w s p a → HasCast v s p a
later_cast w v l s p None h = h
later_cast w v l s p (Some x) h = l.votes _ h

pub later_someone : (w v : World) → IsLater w v → (p : ℕ) (a : Option (Ballot × Command)) → SomeoneCast w p a → SomeoneCast v p a
later_someone w v l p None h = h
later_someone w v l p (Some x) h = (h.0, l.votes _ h.1)

pub later_shut : (n : ℕ) (w v : World) → IsLater w v → (p c : ℕ) (x : Command) → IsShut n w p c x → IsShut n v p c x
later_shut n w v l p c x h = (h.0, h.1, grind (arith, l.fresh, l.rises))

pub later_chosen : (n : ℕ) (w v : World) → IsLater w v → (p : ℕ) (x : Command) → IsChosen n w p x → IsChosen n v p x
later_chosen n w v l p x h = (h.0, h.1, h.2, λ s i. l.votes _ (h.3 s i))

pub later_backed : (n : ℕ) (w v : World) → IsLater w v → (from : ℕ) (x : Pax) → IsBacked n w from x → IsBacked n v from x
later_backed n w v l from (Promise p b a) h = (later_promised w v l from p b h.0, later_greatest w v l from p _ b h.0 h.1, later_cast w v l from p a h.2)
later_backed n w v l from (Accept p b x) h = (h.0, later_promised w v l from p b h.1, h.2, λ c lt. later_shut n w v l p c x (h.3 c lt))
later_backed n w v l from (Accepted p b) h = (h.0, l.votes _ h.1)
later_backed n w v l from (Chosen p x) h = later_chosen n w v l p x h
later_backed n w v l from _ h = h

pub later_knows : (w v : World) → IsLater w v → (s : ℕ) (q : Option Phase) → Knows w s q → Knows v s q
later_knows w v l s (Some (Collecting p b want heard best)) h = (
  h.0,
  h.1,
  later_promised w v l s p b h.2,
  λ k i. (later_promised w v l k p b (h.3 k i).0, later_greatest w v l k p _ b (h.3 k i).0 (h.3 k i).1),
  later_someone w v l p best h.4,
)
later_knows w v l s (Some (Voting p b x heard)) h = (l.letters _ _ h.0, λ k i. l.votes _ (h.1 k i))
later_knows w v l s _ h = h
