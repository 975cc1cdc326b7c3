-- What is chosen stays chosen, and some server wanted it.
use Rattle.law_standing.proofs.Imports.{[], ◌++◌, ◌∷◌, ◌≡◌, Ballot, Boots, Command, Event, Fits, Handed, IsChosen, IsWanted, List, None, Option, Proposes}
use Rattle.law_standing.proofs.Imports.{Setting, Some, Starts, Stops, Told, World, begin, happens, in_cons, in_nil, inl, inr, majorities_meet, refl}
use Rattle.law_standing.proofs.Imports.{reported_at, reported_in, run, subst, to_propose, ℕ, ⊤}
use Rattle.law_standing.proofs.StandingFacts.{HasVoted, AreCast, Asked, Sound}
use Rattle.law_standing.proofs.StandingMovesKeepFacts.{IsMove, Keeps, Sends, Turns, Asks, keep_later, keeps}
use Rattle.law_standing.proofs.StandingSchedulesKeepFacts.{moves, happens_sound, run_sound, begin_sound}

-- what is chosen stays chosen

vote_stays : (o : Setting) (e : Event) (w v : World) → IsMove o e w v → (s p : ℕ) (b : Ballot) (c : Command) → HasVoted w s p b c → HasVoted v s p b c
vote_stays o e w v (Keeps t records g) s p b c i = (keep_later o w t records g).votes s p b c i
vote_stays o e w v (Sends t l quiet fresh fact) s p b c i = i
vote_stays o e w v (Turns t q k only) s p b c i = i
vote_stays o e w v (Asks t told stands asked q want k only may from) s p b c i = i

stays : (o : Setting) (w : World) (p : ℕ) (v : Command) → Fits o → Sound o w → (es : List Event) → IsChosen o.servers w p v
    → IsChosen o.servers (run o es w) p v
stays o w p v fit h [] k = k
stays o w p v fit h (e ∷ es) k = stays o (happens o w e) p v fit (happens_sound o w fit h e) es
    (keeps o e (λ w. IsChosen o.servers w p v) (λ w u h k m. (k.0, k.1, k.2, λ s i. vote_stays o e w u m s p k.0 v (k.3 s i))) w _
    (moves o w fit h e) k)

run-append : (o : Setting) (w : World) (es fs : List Event) → run o (es ++ fs) w ≡ run o fs (run o es w)
run-append o w [] fs = refl
run-append o w (e ∷ es) fs = run-append o (happens o w e) es fs

pub lasting : (o : Setting) (early late : List Event) (p : ℕ) (v : Command) → Fits o → IsChosen o.servers (run o early begin) p v
    → IsChosen o.servers (run o (early ++ late) begin) p v
lasting o early late p v fit k =
    rw (run-append o begin early late) (stays o (run o early begin) p v fit (run_sound o begin fit (begin_sound o) early) late k)

-- what is chosen was wanted, for any fact Good of what each proposal wants

abbrev IsGood : (ℕ → Command → Type 0) → World → Type 0
IsGood Good w = (p : ℕ) (b : Ballot) (v : Command) → Asked w p b v → Good p v

abbrev WantsGood : (ℕ → Command → Type 0) → Event → Type 0
WantsGood Good (Starts s from round end) = ⊤
WantsGood Good (Proposes s p want) = Good p want
WantsGood Good (Handed which to end) = ⊤
WantsGood Good (Stops s) = ⊤
WantsGood Good (Boots s end) = ⊤

proposes : (o : Setting) (Good : ℕ → Command → Type 0) (w : World) → Sound o w → IsGood Good w → (told : Told) → AreCast w told.reported
    → (p : ℕ) (want : Command) → Good p want → Good p (to_propose want (reported_at told.reported p))
proposes o Good w h g told cast p want good = by (reported_at told.reported p) refl
  where
    by : (best : Option (Ballot × Command)) → reported_at told.reported p ≡ best → Good p (to_propose want best)
    by None e = good
    by (Some y) e = let by_one = cast _ (reported_in told.reported p y e) in g p y.0 y.1 (h.asked by_one.0 p y.0 y.1 by_one.1)

good_move : (o : Setting) (Good : ℕ → Command → Type 0) (e : Event) → WantsGood Good e → (w v : World) → Sound o w → IsGood Good w
    → IsMove o e w v → IsGood Good v
good_move o Good e start w v h g (Keeps s records grown) = g
good_move o Good e start w v h g (Sends s l quiet fresh fact) = λ p b v i. elim (in_cons _ _ _ i) [ inl e ↦ absurd (quiet p b v (cc)) | inr old ↦ g p b v old ]
good_move o Good e start w v h g (Turns s q k only) = g
good_move o Good e start w v h g (Asks s told stands asked p want k only may from) = λ j d u i.
    let good = proposes o Good w h g told k.2 p want (subst (WantsGood Good) from start) in
    elim (in_cons _ _ _ i) [
      | inl new ↦ let at : j ≡ p = cc in let is : u ≡ to_propose want (reported_at told.reported p) = cc in rw (at, is) good
      | inr old ↦ g j d u old
    ]

abbrev AllGood : (ℕ → Command → Type 0) → List Event → Type 0
AllGood Good [] = ⊤
AllGood Good (e ∷ es) = WantsGood Good e × AllGood Good es

run_good : (o : Setting) (Good : ℕ → Command → Type 0) (w : World) → Fits o → Sound o w → IsGood Good w → (es : List Event)
    → AllGood Good es → IsGood Good (run o es w)
run_good o Good w fit h g [] all = g
run_good o Good w fit h g (e ∷ es) all = run_good o Good (happens o w e) fit (happens_sound o w fit h e)
    (keeps o e (IsGood Good) (good_move o Good e all.0) w _ (moves o w fit h e) g) es all.1

more_good : (P Q : ℕ → Command → Type 0) → ((p : ℕ) (v : Command) → P p v → Q p v) → (es : List Event) → AllGood P es → AllGood Q es
more_good P Q f [] h = tt
more_good P Q f (Starts s from round end ∷ es) h = (tt, more_good P Q f es h.1)
more_good P Q f (Proposes s p want ∷ es) h = (f p want h.0, more_good P Q f es h.1)
more_good P Q f (Handed which to end ∷ es) h = (tt, more_good P Q f es h.1)
more_good P Q f (Stops s ∷ es) h = (tt, more_good P Q f es h.1)
more_good P Q f (Boots s end ∷ es) h = (tt, more_good P Q f es h.1)

all_wanted : (es : List Event) → AllGood (IsWanted es) es
all_wanted [] = tt
all_wanted (Starts s from round end ∷ es) = (tt, all_wanted es)
all_wanted (Proposes s p want ∷ es) = (inl (refl, refl), more_good (IsWanted es) _ (λ p v h. inr h) es (all_wanted es))
all_wanted (Handed which to end ∷ es) = (tt, all_wanted es)
all_wanted (Stops s ∷ es) = (tt, all_wanted es)
all_wanted (Boots s end ∷ es) = (tt, all_wanted es)

pub wanted : (o : Setting) (es : List Event) (p : ℕ) (v : Command) → Fits o → IsChosen o.servers (run o es begin) p v → IsWanted es p v
wanted o es p v fit k =
    let h = run_sound o begin fit (begin_sound o) es in
    let g = run_good o (IsWanted es) begin fit (begin_sound o) (λ p b v i. absurd (in_nil _ i)) es (all_wanted es) in
    let voter = majorities_meet o.servers k.1 k.1 k.2 k.2 in
    g p k.0 v (h.asked voter.0 p k.0 v (k.3 voter.0 voter.2))
