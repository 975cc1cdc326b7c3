-- What a world's letters and proposers say stays true in every later world.
use Rattle.law_standing.proofs.Imports.{Accept, Accepted, Ask, Ballot, Bool, Chosen, Command, Idle, IsChosen, Letter, List, None, Option, Phase, Prepare}
use Rattle.law_standing.proofs.Imports.{Promise, Refuse, Report, Setting, Some, Standing, Started, Told, World, arith, inl, inr, ℕ}
use Rattle.law_standing.proofs.StandingFacts.{HasPromised, HasPledged, IsGreatestBelow, AreCast, IsShut, IsPromise, IsBacked, Owns, HasHeard, IsSafeInRange}
use Rattle.law_standing.proofs.StandingFacts.{HasAsked, Knows, IsLater}

pub later_promised : (w v : World) → IsLater w v → (s p : ℕ) (b : Ballot) → HasPromised w s p b → HasPromised v s p b
later_promised w v l s p b h = let r = l.rises s p in omega arith

pub later_pledged : (w v : World) → IsLater w v → (s : ℕ) (b : Ballot) → HasPledged w s b → HasPledged v s b
later_pledged w v l s b h p = let old = h p in let r = l.pledges s p in omega arith

pub later_greatest : (w v : World) → IsLater w v → (s p r : ℕ) (b : Ballot) → HasPromised w s p b → IsGreatestBelow w s p r b → IsGreatestBelow v s p r b
later_greatest w v l s p r b h g d u i low = elim (l.fresh s p d u i) [ inl old ↦ g d u old low | inr up ↦ absurd (omega arith) ]

pub later_cast : (w v : World) → IsLater w v → (reported : List Report) → AreCast w reported → AreCast v reported
later_cast w v l reported h r i = let cast = h r i in (cast.0, l.votes cast.0 r.0 r.1 r.2 cast.1)

pub later_shut : (o : Setting) (w v : World) → IsLater w v → (p c : ℕ) (x : Command) → IsShut o w p c x → IsShut o v p c x
later_shut o w v l p c x h = (
  h.0,
  h.1,
  λ s i. let g = h.2 s i in let up = g.0 in (
    let r = l.rises s p in omega arith,
    λ d u k at. elim (l.fresh s p d u k) [ inl old ↦ g.1 d u old at | inr low ↦ absurd (omega arith) ],
  ),
)

pub later_chosen : (o : Setting) (w v : World) → IsLater w v → (p : ℕ) (x : Command) → IsChosen o.servers w p x → IsChosen o.servers v p x
later_chosen o w v l p x h = (h.0, h.1, h.2, λ s i. l.votes s p h.0 x (h.3 s i))

later_promise : (most : ℕ) (w v : World) → IsLater w v → (s from : ℕ) (b : Ballot) (until : Option ℕ) (told : List Report)
    → IsPromise most w s from b until told → IsPromise most v s from b until told
later_promise most w v l s from b until told h = record {
  started = later_pledged w v l b.server b h.started;
  covers = λ p low. later_promised w v l s p b (h.covers p low);
  voted = λ r i. l.votes s r.0 r.1 r.2 (h.voted r i);
  rising = h.rising;
  short = h.short;
  ends = h.ends;
  below = λ p low within. later_greatest w v l s p _ b (h.covers p low) (h.below p low within);
}

pub later_backed : (o : Setting) (w v : World) → IsLater w v → (s : ℕ) (x : Letter) → IsBacked o w s x → IsBacked o v s x
later_backed o w v l s (Prepare from b) h = (h.0, later_pledged w v l b.server b h.1, h.2)
later_backed o w v l s (Promise from b until told) h = later_promise o.most w v l s from b until told h
later_backed o w v l s (Accept p b x) h = (h.0, later_pledged w v l b.server b h.1, h.2, λ c lt. later_shut o w v l p c x (h.3 c lt))
later_backed o w v l s (Accepted p b) h = (h.0, l.votes s p b h.0 h.1)
later_backed o w v l s (Refuse p b m) h = h
later_backed o w v l s (Chosen p x) h = later_chosen o w v l p x h

pub later_owns : (w v : World) → IsLater w v → (s : ℕ) (b : Ballot) → Owns w s b → Owns v s b
later_owns w v l s b h = (h.0, h.1, later_pledged w v l s b h.2)

pub later_heard : (w v : World) → IsLater w v → (told : Told) (heard : List Bool) → HasHeard w told heard → HasHeard v told heard
later_heard w v l told heard h k i = let old = h k i in (
  λ p low. later_promised w v l k p told.ballot (old.0 p low),
  λ p low within. later_greatest w v l k p _ told.ballot (old.0 p low) (old.1 p low within),
)

pub later_safe : (o : Setting) (w v : World) → IsLater w v → (told : Told) → IsSafeInRange o w told → IsSafeInRange o v told
later_safe o w v l told h p low within want c lt = later_shut o w v l p c _ (h p low within want c lt)

pub later_asked : (w v : World) → IsLater w v → (b : Ballot) (asked : Option Ask) → HasAsked w b asked → HasAsked v b asked
later_asked w v l b None h = h
later_asked w v l b (Some ask) h = (l.letters _ _ h.0, λ k i. l.votes k ask.place b ask.command (h.1 k i))

pub later_knows : (o : Setting) (w v : World) → IsLater w v → (s : ℕ) (q : Option Phase) → Knows o w s q → Knows o v s q
later_knows o w v l s None h = h
later_knows o w v l s (Some Idle) h = h
later_knows o w v l s (Some (Started told heard)) h =
    (later_owns w v l s told.ballot h.0, later_heard w v l told heard h.1, later_cast w v l told.reported h.2)
later_knows o w v l s (Some (Standing told stands asked)) h = (
  later_owns w v l s told.ballot h.0,
  later_safe o w v l told h.1,
  later_cast w v l told.reported h.2,
  later_asked w v l told.ballot asked h.3,
)
