-- The moves that an event is made of: each keeps what holds.
use Rattle.law_agreement.proofs.Imports.{◌+◌, ◌<◌, ◌∙◌, ◌∷◌, ◌≡◌, ◌≢◌, ◌≤◌, ◌⊎◌, Accept, Acceptor, Ballot, Bool, Collecting, Command, End, Event, In}
use Rattle.law_agreement.proofs.Imports.{IsChosen, List, None, Option, Pax, Phase, Some, Starts, Vote, Voting, World, accept, ap, arith, cast, false, get_or}
use Rattle.law_agreement.proofs.Imports.{in_cons, in_here, in_there, inl, inr, is_in, keep, learn, nobody, number, put, put_at_cases, put_cases, raise, rank}
use Rattle.law_agreement.proofs.Imports.{refl, replicate, send, sent, subst, suc, sym, to_propose, true, turn, vote, zero, ℕ, ⊤}
use Rattle.law_agreement.proofs.ScheduleFacts.{promised, Asked, IsSafe, IsBacked, Knows, HasNotAsked, Holds, IsLater}
use Rattle.law_agreement.proofs.LaterWorldsSay.{later_cast, later_backed, later_knows, later_chosen}

-- what holds of the new value at k, and of each other one, holds of each after `put`
pub at_put : {A : Type 0} (P : ℕ → A → Type 0) (f : ℕ → A) (k : ℕ) (x : A) → P k x → ((j : ℕ) → j ≢ k → P j (f j)) → (j : ℕ) → P j (put f k x j)
at_put P f k x new old j = elim (put_cases f k x j) [ inl c ↦ rw (c.1, c.0) new | inr c ↦ rw c.1 (old j c.0) ]

-- a durable promise

pub keep_later : (w : World) (s p : ℕ) (a : Acceptor) → promised w s p ≤ rank a.promised → IsLater w (keep w s p a)
keep_later w s p a h = record { rises = grind (arith, put_at_cases); letters = λ f x i. i; votes = λ x i. i; fresh = λ s p d u i. inl i }

pub keep_holds : (n : ℕ) (w : World) → Holds n w → (s p : ℕ) (a : Acceptor) → promised w s p ≤ rank a.promised → a.accepted ≡ (w.acceptors s p).accepted
    → Holds n (keep w s p a)
keep_holds n w h s p a up e =
    let l = keep_later w s p a up in
    record {
      backed = λ f x i. later_backed n w _ l f x (h.backed f x i);
      knows = λ i. later_knows w _ l i _ (h.knows i);
      not_asked = h.not_asked;
      asked = h.asked;
      voted = λ i j d u x. let old = h.voted i j d u x in grind (arith, put_at_cases);
      accepted = λ i j. elim (put_at_cases w.acceptors s p a i j) [ inl c ↦ rw (c.2, e, c.0, c.1) (h.accepted s p) | inr c ↦ rw c.1 (h.accepted i j) ];
      one = h.one;
      learnt = λ i j v e. later_chosen n w _ l j v (h.learnt i j v e);
    }

-- a durable acceptance

abbrev pub cast_in : World → ℕ → ℕ → Ballot → Command → World
cast_in w s p b v = cast (keep w s p (accept b v)) (vote s p b v)

pub cast_later : (w : World) (s p : ℕ) (b : Ballot) (v : Command) → promised w s p ≤ number b + 1 → IsLater w (cast_in w s p b v)
cast_later w s p b v h =
    record { rises = grind (arith, put_at_cases); letters = λ f x i. i; votes = grind (arith, in_there {X = Vote}); fresh = grind (arith, in_cons {X = Vote}) }

pub cast_holds : (n : ℕ) (w : World) → Holds n w → (s p : ℕ) (b : Ballot) (v : Command) → promised w s p ≤ number b + 1 → Asked w p b v
    → Holds n (cast_in w s p b v)
cast_holds n w h s p b v up asked =
    let l = cast_later w s p b v up in
    record {
      backed = λ f x i. later_backed n w _ l f x (h.backed f x i);
      knows = λ i. later_knows w _ l i _ (h.knows i);
      not_asked = h.not_asked;
      asked = λ i j d u x. elim (in_cons _ _ _ x) [
        | inl new ↦ let p_is : j ≡ p = cc in let b_is : d ≡ b = cc in let v_is : u ≡ v = cc in
            rw (p_is, b_is, v_is) asked
        | inr old ↦ h.asked i j d u old
      ];
      voted = grind (arith, in_cons {X = Vote}, put_at_cases, h.voted);
      accepted = λ i j. elim (put_at_cases w.acceptors s p (accept b v) i j) [
        | inl c ↦ rw (c.2, c.0, c.1) (in_here _ _)
        | inr c ↦ rw c.1 (later_cast w _ l i j _ (h.accepted i j))
      ];
      one = h.one;
      learnt = λ i j u e. later_chosen n w _ l j u (h.learnt i j u e);
    }

-- a letter that asks for no vote

abbrev pub IsMute : Pax → Type 0
IsMute l = (p : ℕ) (b : Ballot) (v : Command) → l ≡ Accept p b v → ⊥

sent_later : (w : World) (s : ℕ) (l : Pax) → IsLater w (send w s l)
sent_later w s l = record { rises = λ s p. omega arith; letters = λ f x i. in_there _ _ _ i; votes = λ x i. i; fresh = λ s p d u i. inl i }

turned_later : (w : World) (s : ℕ) (l : Pax) (q : Option Phase) → IsLater w (turn (send w s l) s q)
turned_later w s l q = record { rises = λ s p. omega arith; letters = λ f x i. in_there _ _ _ i; votes = λ x i. i; fresh = λ s p d u i. inl i }

backed_one_more : (n : ℕ) (w : World) → Holds n w → (s : ℕ) (l : Pax) → IsBacked n w s l → (f : ℕ) (x : Pax)
    → In (sent f x) (sent s l ∷ w.letters) → IsBacked n w f x
backed_one_more n w h s l fact f x i =
    elim (in_cons (sent f x) (sent s l) w.letters i) [ inl e ↦ let of : f ≡ s = cc in let is : x ≡ l = cc in rw (of, is) fact | inr old ↦ h.backed f x old ]

-- a mute letter asks for nothing
asked_before : (w : World) (s : ℕ) (l : Pax) → IsMute l → (p : ℕ) (d : Ballot) (v : Command) → Asked (send w s l) p d v → Asked w p d v
asked_before w s l mute p d v i = elim (in_cons _ _ _ i) [ inl e ↦ absurd (mute p d v (cc)) | inr old ↦ old ]

not_asked_still : (w : World) (s : ℕ) (l : Pax) → IsMute l → (q : Option Phase) → HasNotAsked w q → HasNotAsked (send w s l) q
not_asked_still w s l mute (Some (Collecting p b want who best)) h = λ d v i. h d v (asked_before w s l mute p d v i)
not_asked_still w s l mute _ h = h

pub send_holds : (n : ℕ) (w : World) → Holds n w → (s : ℕ) (l : Pax) → IsMute l → IsBacked n w s l → Holds n (send w s l)
send_holds n w h s l mute fact = record {
  backed = λ f x i. later_backed n w _ (sent_later w s l) f x (backed_one_more n w h s l fact f x i);
  knows = λ i. later_knows w _ (sent_later w s l) i _ (h.knows i);
  not_asked = λ i. not_asked_still w s l mute _ (h.not_asked i);
  asked = λ i j d u x. in_there _ _ _ (h.asked i j d u x);
  voted = h.voted;
  accepted = h.accepted;
  one = λ p b d v u i j. h.one p b d v u (asked_before w s l mute p b v i) (asked_before w s l mute p d u j);
  learnt = h.learnt;
}

-- a proposer that turns to something else, or is gone

pub turn_holds : (n : ℕ) (w : World) → Holds n w → (s : ℕ) (q : Option Phase) → Knows w s q → HasNotAsked w q → Holds n (turn w s q)
turn_holds n w h s q knows unasked = record {
  backed = h.backed;
  knows = at_put (λ i q. Knows w i q) w.proposers s q knows (λ i _. h.knows i);
  not_asked = at_put (λ i q. HasNotAsked w q) w.proposers s q unasked (λ i _. h.not_asked i);
  asked = h.asked;
  voted = h.voted;
  accepted = h.accepted;
  one = h.one;
  learnt = h.learnt;
}

-- a chosen command that becomes known, and an incarnation that is raised

pub learn_holds : (n : ℕ) (w : World) → Holds n w → (s p : ℕ) (v : Command) → IsChosen n w p v → Holds n (learn w s p v)
learn_holds n w h s p v fact = record {
  backed = h.backed;
  knows = h.knows;
  not_asked = h.not_asked;
  asked = h.asked;
  voted = h.voted;
  accepted = h.accepted;
  one = h.one;
  learnt = λ i j u e. elim (put_at_cases w.known s p (Some v) i j) [
    | inl c ↦ let is : u ≡ v = cc in rw (c.1, is) fact
    | inr c ↦ h.learnt i j u (sym c.1 ∙ e)
  ];
}

pub raise_holds : (n : ℕ) (w : World) → Holds n w → (s : ℕ) → Holds n (raise w s)
raise_holds n w h s = record {
  backed = h.backed;
  knows = h.knows;
  not_asked = h.not_asked;
  asked = h.asked;
  voted = h.voted;
  accepted = h.accepted;
  one = h.one;
  learnt = h.learnt;
}

-- the promise that completes a majority: the ballot asks for votes

-- two ballots of one number are of one server
pub one_server : (a b : Ballot) → a.server < 256 → b.server < 256 → number a ≡ number b → a.server ≡ b.server
unfolding number
one_server a b h k e = omega arith

none_in : (m k : ℕ) → get_or (replicate m false) k false ≡ false
none_in zero k = refl
none_in (suc m) zero = refl
none_in (suc m) (suc k) = none_in m k

pub not_in_nobody : (k : ℕ) → is_in nobody k ≡ true → ⊥
unfolding nobody
not_in_nobody k e = let f = none_in 256 k in cc

-- whoever else collects does so for another ballot
other_ballot : (w : World) (p : ℕ) (b : Ballot) (v : Command) (s j : ℕ) (r q : Option Phase) → b.server ≡ s → b.server < 256 → j ≢ s → Knows w j q
    → HasNotAsked w q → HasNotAsked (turn (send w s (Accept p b v)) s r) q
other_ballot w p b v s j r (Some (Collecting place ballot want who best)) e lt away k h = λ d u i same. elim (in_cons _ _ _ i) [
  | inl new ↦ let own = k.0 in let low = k.1 in let is : d ≡ b = cc in let o = one_server b ballot lt (omega arith) (ap number (sym is) ∙ same) in
      absurd (omega arith)
  | inr old ↦ h d u old same
]
other_ballot w p b v s j r _ e lt away k h = h

-- the ballot that asks asked for nothing else
asked_once : (w : World) (s p : ℕ) (b : Ballot) (v : Command) → HasNotAsked w (Some (Collecting p b v nobody None))
    → ((q : ℕ) (b d : Ballot) (v u : Command) → Asked w q b v → Asked w q d u → number b ≡ number d → v ≡ u)
    → (q : ℕ) (c d : Ballot) (x u : Command) → Asked (send w s (Accept p b v)) q c x → Asked (send w s (Accept p b v)) q d u → number c ≡ number d → x ≡ u
asked_once w s p b v unasked one q c d x u i j e = elim (in_cons _ _ _ i) [
  | inl new ↦ elim (in_cons _ _ _ j) [
    | inl too ↦ cc
    | inr old ↦ let q_is : q ≡ p = cc in let c_is : c ≡ b = cc in absurd (unasked d u (subst (λ q. Asked w q d u) q_is old) (sym e ∙ ap number c_is))
  ]
  | inr before ↦ elim (in_cons _ _ _ j) [
    | inl new ↦ let q_is : q ≡ p = cc in let d_is : d ≡ b = cc in absurd (unasked c x (subst (λ q. Asked w q c x) q_is before) (e ∙ ap number d_is))
    | inr old ↦ one q c d x u before old e
  ]
]

pub asks_hold : (n : ℕ) (w : World) → Holds n w → (s p : ℕ) (b : Ballot) (want : Command) (who : List Bool) (best : Option (Ballot × Command)) (v : Command)
    → Knows w s (Some (Collecting p b want who best)) → HasNotAsked w (Some (Collecting p b want who best)) → IsSafe n w p b v
    → Holds n (turn (send w s (Accept p b v)) s (Some (Voting p b v nobody)))
asks_hold n w h s p b want who best v k unasked safe =
    let voting : Option Phase = Some (Voting p b v nobody) in
    let after = turn (send w s (Accept p b v)) s voting in
    let l = turned_later w s (Accept p b v) voting in
    let is_s : b.server ≡ s = k.0 in
    let low : b.server < 256 = (let f = k.1 in omega arith) in
    let fact : IsBacked n w s (Accept p b v) = (sym is_s, k.2, low, safe) in
    let own : Asked after p b v = subst (λ f. In (sent f (Accept p b v)) (sent s (Accept p b v) ∷ w.letters)) (sym is_s) (in_here _ _) in
    record {
      backed = λ f x i. later_backed n w _ l f x (backed_one_more n w h s (Accept p b v) fact f x i);
      knows = at_put (λ i q. Knows after i q) w.proposers s voting (own, λ k i. absurd (not_in_nobody k i)) (λ i _. later_knows w _ l i _ (h.knows i));
      not_asked = at_put (λ i q. HasNotAsked after q) w.proposers s voting tt
          (λ i away. other_ballot w p b v s i voting _ is_s low away (h.knows i) (h.not_asked i));
      asked = λ i j d u x. in_there _ _ _ (h.asked i j d u x);
      voted = h.voted;
      accepted = h.accepted;
      one = asked_once w s p b v unasked h.one;
      learnt = λ i j u e. later_chosen n w _ l j u (h.learnt i j u e);
    }

-- where a collecting proposer's wanted command comes from: the event starts it, or the proposer wanted it before
abbrev pub Origin : Event → World → ℕ → ℕ → Command → Type 0
Origin e w s p want =
    ((round : ℕ) × (end : End) × (e ≡ Starts s p round want end))
    ⊎ ((b : Ballot) × (who : List Bool) × (best : Option (Ballot × Command)) × (w.proposers s ≡ Some (Collecting p b want who best)))

abbrev pub HasOrigin : Event → World → ℕ → Option Phase → Type 0
HasOrigin e w s (Some (Collecting p b want who best)) = Origin e w s p want
HasOrigin e w s _ = ⊤

-- all that can change at once, each with what it rests on. To keep another fact over every schedule, keep it at each of these
pub data IsMove (n : ℕ) (e : Event) (w : World) : World → Type 0 where
  Promises : (s p : ℕ) → (a : Acceptor) → promised w s p ≤ rank a.promised → a.accepted ≡ (w.acceptors s p).accepted → IsMove n e w (keep w s p a)
  Casts : (s p : ℕ) → (b : Ballot) → (v : Command) → promised w s p ≤ number b + 1 → Asked w p b v → IsMove n e w (cast_in w s p b v)
  Sends : (s : ℕ) → (l : Pax) → IsMute l → IsBacked n w s l → IsMove n e w (send w s l)
  Turns : (s : ℕ) → (q : Option Phase) → Knows w s q → HasNotAsked w q → HasOrigin e w s q → IsMove n e w (turn w s q)
  Asks : (s p : ℕ) → (b : Ballot) → (want : Command) → (who : List Bool) → (best : Option (Ballot × Command)) → Knows w s (Some (Collecting p b want who best))
      → HasNotAsked w (Some (Collecting p b want who best)) → IsSafe n w p b (to_propose want best) → Origin e w s p want
      → IsMove n e w (turn (send w s (Accept p b (to_propose want best))) s (Some (Voting p b (to_propose want best) nobody)))
  Learns : (s p : ℕ) → (v : Command) → IsChosen n w p v → IsMove n e w (learn w s p v)
  Raises : (s : ℕ) → IsMove n e w (raise w s)

pub move_holds : (n : ℕ) (e : Event) (w v : World) → Holds n w → IsMove n e w v → Holds n v
move_holds n e w v h (Promises s p a up same) = keep_holds n w h s p a up same
move_holds n e w v h (Casts s p b x up i) = cast_holds n w h s p b x up i
move_holds n e w v h (Sends s l mute fact) = send_holds n w h s l mute fact
move_holds n e w v h (Turns s q k unasked from) = turn_holds n w h s q k unasked
move_holds n e w v h (Asks s p b want who best k unasked safe from) = asks_hold n w h s p b want who best _ k unasked safe
move_holds n e w v h (Learns s p x fact) = learn_holds n w h s p x fact
move_holds n e w v h (Raises s) = raise_holds n w h s

pub data Leads (n : ℕ) (e : Event) : World → World → Type 0 where
  Still : {w : World} → Leads n e w w
  Steps : {w u v : World} → Holds n w → IsMove n e w u → Leads n e u v → Leads n e w v

-- a move, and what follows from where it leads
pub goes : (n : ℕ) (e : Event) (w u v : World) → Holds n w → IsMove n e w u → (Holds n u → Leads n e u v) → Leads n e w v
goes n e w u v h m rest = Steps h m (rest (move_holds n e w u h m))

pub last : (n : ℕ) (e : Event) (w u : World) → Holds n w → IsMove n e w u → Leads n e w u
last n e w u h m = Steps h m Still

pub keeps : (n : ℕ) (e : Event) (P : World → Type 0) → ((w v : World) → Holds n w → P w → IsMove n e w v → P v) → (w v : World) → Leads n e w v → P w → P v
keeps n e P each w v Still k = k
keeps n e P each w v (Steps {u = u} h m rest) k = keeps n e P each u v rest (each w u h k m)
