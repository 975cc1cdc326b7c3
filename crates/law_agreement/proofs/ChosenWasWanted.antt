-- What is chosen stays chosen, and some server wanted it.
use Rattle.law_agreement.proofs.Imports.{[], ◌++◌, ◌∷◌, ◌≡◌, ◌≤◌, Ballot, Bool, Collecting, Command, Event, In, IsChosen, IsWanted, List, None, Option, Phase}
use Rattle.law_agreement.proofs.Imports.{Some, Starts, Vote, Voting, World, begin, happens, in_cons, in_nil, in_there, inl, inr, nobody, put, refl, run}
use Rattle.law_agreement.proofs.Imports.{subst, to_propose, ℕ, ⊤}
use Rattle.law_agreement.proofs.ScheduleFacts.{SomeoneCast, Asked, Holds}
use Rattle.law_agreement.proofs.MovesKeepFacts.{at_put, Origin, HasOrigin, IsMove, Casts, Sends, Turns, Asks, keeps}
use Rattle.law_agreement.proofs.SchedulesKeepFacts.{moves, happens_holds, run_holds, begin_holds, meets}

-- what is chosen stays chosen

vote_stays : (n : ℕ) (e : Event) (w v : World) → IsMove n e w v → (x : Vote) → In x w.votes → In x v.votes
vote_stays n e w _ (Casts s p b y up a) x i = in_there _ _ _ i
vote_stays n e w _ _ x i = i

stays : (n : ℕ) (w : World) (p : ℕ) (v : Command) → n ≤ 256 → Holds n w → (es : List Event) → IsChosen n w p v → IsChosen n (run n es w) p v
stays n w p v small h [] k = k
stays n w p v small h (e ∷ es) k = stays n (happens n w e) p v small (happens_holds n w small h e) es
    (keeps n e (λ w. IsChosen n w p v) (λ w u h k m. (k.0, k.1, k.2, λ s i. vote_stays n e w u m _ (k.3 s i))) w _ (moves n w small h e) k)

pub run-append : (n : ℕ) (w : World) (es fs : List Event) → run n (es ++ fs) w ≡ run n fs (run n es w)
run-append n w [] fs = refl
run-append n w (e ∷ es) fs = run-append n (happens n w e) es fs

pub lasting : (n : ℕ) (early late : List Event) (p : ℕ) (v : Command) → n ≤ 256 → IsChosen n (run n early begin) p v
    → IsChosen n (run n (early ++ late) begin) p v
lasting n early late p v small k =
    rw (run-append n begin early late) (stays n (run n early begin) p v small (run_holds n begin small (begin_holds n) early) late k)

-- what is chosen was wanted, for any fact Good of what each start wants

pub record IsGood (Good : ℕ → Command → Type 0) (w : World) : Type 0 where
  pub asks : (p : ℕ) (b : Ballot) (v : Command) → Asked w p b v → Good p v
  pub wants : (s p : ℕ) (b : Ballot) (want : Command) (who : List Bool) (best : Option (Ballot × Command))
      → w.proposers s ≡ Some (Collecting p b want who best) → Good p want

abbrev StartsGood : (ℕ → Command → Type 0) → Event → Type 0
StartsGood Good (Starts s p round want end) = Good p want
StartsGood Good _ = ⊤

abbrev Wants : (ℕ → Command → Type 0) → Option Phase → Type 0
Wants Good (Some (Collecting p b want who best)) = Good p want
Wants Good _ = ⊤

wants_all : (Good : ℕ → Command → Type 0) (q : Option Phase) → Wants Good q
    → (p : ℕ) (b : Ballot) (want : Command) (who : List Bool) (best : Option (Ballot × Command)) → q ≡ Some (Collecting p b want who best) → Good p want
wants_all Good q h p b want who best e = subst (Wants Good) e h

wants_at : (Good : ℕ → Command → Type 0) (w : World) → IsGood Good w → (s : ℕ) → (q : Option Phase) → w.proposers s ≡ q → Wants Good q
wants_at Good w g s (Some (Collecting p b want who best)) e = g.wants s p b want who best e
wants_at Good w g s _ e = tt

of_origin : (Good : ℕ → Command → Type 0) (e : Event) (w : World) → StartsGood Good e → IsGood Good w → (s p : ℕ) (want : Command)
    → Origin e w s p want → Good p want
of_origin Good e w start g s p want (inl from) = subst (StartsGood Good) from.2 start
of_origin Good e w start g s p want (inr from) = g.wants s p from.0 want from.1 from.2 from.3

turns : (Good : ℕ → Command → Type 0) (e : Event) (w : World) → StartsGood Good e → IsGood Good w → (s : ℕ) (q : Option Phase)
    → HasOrigin e w s q → Wants Good q
turns Good e w start g s (Some (Collecting p b want who best)) from = of_origin Good e w start g s p want from
turns Good e w start g s _ from = tt

proposes : (n : ℕ) (Good : ℕ → Command → Type 0) (w : World) → Holds n w → IsGood Good w → (p : ℕ) (want : Command) (best : Option (Ballot × Command))
    → Good p want → SomeoneCast w p best → Good p (to_propose want best)
proposes n Good w h g p want None good by = good
proposes n Good w h g p want (Some x) good by = g.asks p x.0 x.1 (h.asked _ _ _ _ by.1)

turn_good : (Good : ℕ → Command → Type 0) (w : World) → IsGood Good w → (s : ℕ) (q : Option Phase) → Wants Good q → (j : ℕ) → Wants Good (put w.proposers s q j)
turn_good Good w g s q h = at_put (λ j q. Wants Good q) w.proposers s q h (λ j _. wants_at Good w g j _ refl)

good_move : (n : ℕ) (Good : ℕ → Command → Type 0) (e : Event) → StartsGood Good e → (w v : World) → Holds n w → IsGood Good w → IsMove n e w v → IsGood Good v
good_move n Good e start w _ h g (Sends s l mute fact) =
    record { asks = λ p b v i. elim (in_cons _ _ _ i) [ inl e ↦ absurd (mute p b v (cc)) | inr old ↦ g.asks p b v old ]; wants = g.wants }
good_move n Good e start w _ h g (Turns s q k unasked from) =
    record { asks = g.asks; wants = λ j. wants_all Good _ (turn_good Good w g s q (turns Good e w start g s q from) j) }
good_move n Good e start w _ h g (Asks s p b want who best k unasked safe from) = record {
  asks = λ j d u i. let good = proposes n Good w h g p want best (of_origin Good e w start g s p want from) k.4 in
      elim (in_cons _ _ _ i) [ inl new ↦ let a : j ≡ p = cc in let b : u ≡ to_propose want best = cc in rw (a, b) good | inr old ↦ g.asks j d u old ];
  wants = λ j. wants_all Good _ (turn_good Good w g s (Some (Voting p b (to_propose want best) nobody)) tt j);
}
good_move n Good e start w _ h g _ = record { asks = g.asks; wants = g.wants }

abbrev AllGood : (ℕ → Command → Type 0) → List Event → Type 0
AllGood Good [] = ⊤
AllGood Good (e ∷ es) = StartsGood Good e × AllGood Good es

run_good : (n : ℕ) (Good : ℕ → Command → Type 0) (w : World) → n ≤ 256 → Holds n w → IsGood Good w → (es : List Event)
    → AllGood Good es → IsGood Good (run n es w)
run_good n Good w small h g [] all = g
run_good n Good w small h g (e ∷ es) all = run_good n Good (happens n w e) small (happens_holds n w small h e)
    (keeps n e (IsGood Good) (good_move n Good e all.0) w _ (moves n w small h e) g) es all.1

more_good : (P Q : ℕ → Command → Type 0) → ((p : ℕ) (v : Command) → P p v → Q p v) → (es : List Event) → AllGood P es → AllGood Q es
more_good P Q f [] h = tt
more_good P Q f (Starts s p round want end ∷ es) h = (f p want h.0, more_good P Q f es h.1)
more_good P Q f (_ ∷ es) h = (tt, more_good P Q f es h.1)

all_wanted : (es : List Event) → AllGood (IsWanted es) es
all_wanted [] = tt
all_wanted (Starts s p round want end ∷ es) = (inl (refl, refl), more_good (IsWanted es) _ (λ p v h. inr h) es (all_wanted es))
all_wanted (_ ∷ es) = (tt, all_wanted es)

pub wanted : (n : ℕ) (es : List Event) (p : ℕ) (v : Command) → n ≤ 256 → IsChosen n (run n es begin) p v → IsWanted es p v
wanted n es p v small k =
    let h = run_holds n begin small (begin_holds n) es in
    let g = run_good n (IsWanted es) begin small (begin_holds n)
    (record { asks = λ p b v i. absurd (in_nil _ i); wants = λ s p b want who best e. absurd (cc) }) es (all_wanted es) in
    let voter = meets n k.1 k.1 k.2 k.2 in
    g.asks p k.0 v (h.asked _ _ _ _ (k.3 voter.0 voter.2))
