-- The moves that an event is made of: each keeps what holds.
use Rattle.law_standing.proofs.Imports.{◌+◌, ◌<◌, ◌∙◌, ◌∷◌, ◌≡◌, ◌≢◌, ◌≤◌, ◌⊎◌, Accept, Ask, Ballot, Bool, Command, Event, Idle, In, Inc, IsChosen, IsFit}
use Rattle.law_standing.proofs.Imports.{IsRising, Letter, List, None, Option, Phase, Prepare, PromiseFrom, Proposes, Setting, Some, Standing, Started}
use Rattle.law_standing.proofs.Imports.{StateRecord, Told, World, ap, arith, asking, at_put, committed, committed_in, in_committed, in_cons, in_here}
use Rattle.law_standing.proofs.Imports.{in_there, inl, inr, is_behind, is_within, keep, nat_tests, not_in_nobody, number, one_server, pledge_rises}
use Rattle.law_standing.proofs.Imports.{promised_at, promised_from, promised_rises, rank, reported_at, rising_committed, send, sent, subst, sym, to_propose}
use Rattle.law_standing.proofs.Imports.{true, turn, ℕ, ⊤}
use Rattle.spec_paxos.specs.standing.Kept.{Accepted, Chosen}
use Rattle.law_standing.proofs.StandingFacts.{promised, HasPledged, HasVoted, Asked, Prepared, IsSafe, IsBacked, Knows, IsUpTo, AsksOnly, Sound, IsLater}
use Rattle.law_standing.proofs.LaterStandingWorlds.{later_backed, later_owns, later_cast, later_safe, later_knows, later_chosen}

-- ### What a state device keeps

-- what a record may be that is added to a state device
abbrev pub MayAdd : Setting → World → ℕ → StateRecord → Type 0
MayAdd o w s (Inc inc) = ⊤
MayAdd o w s (PromiseFrom p b) = ⊤
MayAdd o w s (Accepted p b v) = (promised w s p ≤ number b + 1) × Asked w p b v
MayAdd o w s (Chosen p v) = IsChosen o.servers w p v

-- the records that a server's device has, and may have more
pub record IsGrown (o : Setting) (w : World) (s : ℕ) (records : List StateRecord) : Type 0 where
  pub rises : (p : ℕ) → promised w s p ≤ rank (promised_at records p)
  pub pledges : (p : ℕ) → rank (promised_from (w.devices s) p) ≤ rank (promised_from records p)
  pub stays : (x : StateRecord) → In x (w.devices s) → In x records
  pub adds : (x : StateRecord) → In x records → In x (w.devices s) ⊎ MayAdd o w s x
  pub newest : IsRising records

pub same_grown : (o : Setting) (w : World) → Sound o w → (s : ℕ) → IsGrown o w s (w.devices s)
same_grown o w h s =
    record { rises = λ p. omega arith; pledges = λ p. omega arith; stays = λ x i. i; adds = λ x i. inl i; newest = h.newest s }

is_fit : (o : Setting) (w : World) (s : ℕ) (x : StateRecord) → MayAdd o w s x → IsFit (w.devices s) x
is_fit o w s (Inc inc) may = tt
is_fit o w s (PromiseFrom p b) may = tt
is_fit o w s (Accepted p b v) may = may.0
is_fit o w s (Chosen p v) may = tt

pub commit_grown : (o : Setting) (w : World) → Sound o w → (s : ℕ) (x : StateRecord) → MayAdd o w s x → IsGrown o w s (committed (w.devices s) x)
commit_grown o w h s x may = record {
  rises = promised_rises (w.devices s) x;
  pledges = pledge_rises (w.devices s) x;
  stays = λ y i. in_committed y (w.devices s) x i;
  adds = λ y i. elim (committed_in y (w.devices s) x i) [ inl old ↦ inl old | inr e ↦ inr (subst (MayAdd o w s) (sym e) may) ];
  newest = rising_committed (w.devices s) x (h.newest s) (is_fit o w s x may);
}

pub keep_later : (o : Setting) (w : World) (s : ℕ) (records : List StateRecord) → IsGrown o w s records → IsLater w (keep w s records)
keep_later o w s records g = record {
  rises = at_put (λ i r. (p : ℕ) → promised w i p ≤ rank (promised_at r p)) w.devices s records g.rises (λ i _ p. omega arith);
  pledges = at_put (λ i r. (p : ℕ) → rank (promised_from (w.devices i) p) ≤ rank (promised_from r p)) w.devices s records g.pledges (λ i _ p. omega arith);
  letters = λ i l x. x;
  votes = at_put (λ i r. (p : ℕ) (b : Ballot) (c : Command) → HasVoted w i p b c → In (Accepted p b c) r) w.devices s records (λ p b c x. g.stays _ x)
      (λ i _ p b c x. x);
  fresh = at_put
      (λ i r. (p : ℕ) (d : Ballot) (u : Command) → In (Accepted p d u) r → HasVoted w i p d u ⊎ (promised w i p ≤ number d + 1)) w.devices s records
      (λ p d u x. elim (g.adds _ x) [ inl old ↦ inl old | inr new ↦ inr new.0 ]) (λ i _ p d u x. inl x);
}

pub keep_sound : (o : Setting) (w : World) → Sound o w → (s : ℕ) (records : List StateRecord) → IsGrown o w s records → Sound o (keep w s records)
keep_sound o w h s records g =
    let l = keep_later o w s records g in
    record {
      backed = λ f x i. later_backed o w _ l f x (h.backed f x i);
      knows = λ i. later_knows o w _ l i _ (h.knows i);
      asks_only = h.asks_only;
      asked = at_put (λ i r. (p : ℕ) (b : Ballot) (v : Command) → In (Accepted p b v) r → Asked w p b v) w.devices s records
          (λ p b v x. elim (g.adds _ x) [ inl old ↦ h.asked s p b v old | inr new ↦ new.1 ]) (λ i _ p b v x. h.asked i p b v x);
      newest = at_put (λ i r. IsRising r) w.devices s records g.newest (λ i _. h.newest i);
      once = h.once;
      one = h.one;
      learnt = at_put (λ i r. (p : ℕ) (v : Command) → In (Chosen p v) r → IsChosen o.servers (keep w s records) p v) w.devices s records
          (λ p v x. later_chosen o w _ l p v (elim (g.adds _ x) [ inl old ↦ h.learnt s p v old | inr new ↦ new ]))
          (λ i _ p v x. later_chosen o w _ l p v (h.learnt i p v x));
    }

-- ### A letter that asks for no vote

abbrev pub IsMute : Letter → Type 0
IsMute l = (p : ℕ) (b : Ballot) (v : Command) → l ≡ Accept p b v → ⊥

turned_later : (w : World) (s : ℕ) (l : Letter) (q : Option Phase) → IsLater w (turn (send w s l) s q)
turned_later w s l q = record {
  rises = λ i p. omega arith;
  pledges = λ i p. omega arith;
  letters = λ f x i. in_there _ _ _ i;
  votes = λ i p b c x. x;
  fresh = λ i p d u x. inl x;
}

sent_later : (w : World) (s : ℕ) (l : Letter) → IsLater w (send w s l)
sent_later w s l = record {
  rises = λ i p. omega arith;
  pledges = λ i p. omega arith;
  letters = λ f x i. in_there _ _ _ i;
  votes = λ i p b c x. x;
  fresh = λ i p d u x. inl x;
}

backed_one_more : (o : Setting) (w : World) → Sound o w → (s : ℕ) (l : Letter) → IsBacked o w s l → (f : ℕ) (x : Letter)
    → In (sent f x) (sent s l ∷ w.letters) → IsBacked o w f x
backed_one_more o w h s l fact f x i =
    elim (in_cons (sent f x) (sent s l) w.letters i) [ inl e ↦ let of : f ≡ s = cc in let is : x ≡ l = cc in rw (of, is) fact | inr old ↦ h.backed f x old ]

-- a mute letter asks for nothing
asked_before : (w : World) (s : ℕ) (l : Letter) → IsMute l → (p : ℕ) (d : Ballot) (v : Command) → Asked (send w s l) p d v → Asked w p d v
asked_before w s l quiet p d v i = elim (in_cons _ _ _ i) [ inl e ↦ absurd (quiet p d v (cc)) | inr old ↦ old ]

asks_still : (w : World) (s : ℕ) (l : Letter) → IsMute l → (q : Option Phase) → AsksOnly w q → AsksOnly (send w s l) q
asks_still w s l quiet None h = h
asks_still w s l quiet (Some Idle) h = h
asks_still w s l quiet (Some (Started told heard)) h = λ p d v i. h p d v (asked_before w s l quiet p d v i)
asks_still w s l quiet (Some (Standing told stands asked)) h = λ p d v i same. h p d v (asked_before w s l quiet p d v i) same

-- a letter that asks for promises does so in a ballot that asked for none
abbrev pub IsFresh : World → Letter → Type 0
IsFresh w (Prepare from b) = (f : ℕ) (d : Ballot) → Prepared w f d → number d ≢ number b
IsFresh w _ = ⊤

started_once : (o : Setting) (w : World) → Sound o w → (s : ℕ) (l : Letter) → IsFresh w l → (f g : ℕ) (b d : Ballot) → Prepared (send w s l) f b
    → Prepared (send w s l) g d → number b ≡ number d → f ≡ g
started_once o w h s l fresh f g b d i j e = elim (in_cons _ _ _ i) [
  | inl new ↦ elim (in_cons _ _ _ j) [
    | inl too ↦ cc
    | inr old ↦ let is : l ≡ Prepare f b = cc in absurd (subst (IsFresh w) is fresh g d old (sym e))
  ]
  | inr before ↦ elim (in_cons _ _ _ j) [
    | inl new ↦ let is : l ≡ Prepare g d = cc in absurd (subst (IsFresh w) is fresh f b before e)
    | inr old ↦ h.once f g b d before old e
  ]
]

pub send_sound : (o : Setting) (w : World) → Sound o w → (s : ℕ) (l : Letter) → IsMute l → IsFresh w l → IsBacked o w s l → Sound o (send w s l)
send_sound o w h s l quiet fresh fact = record {
  backed = λ f x i. later_backed o w _ (sent_later w s l) f x (backed_one_more o w h s l fact f x i);
  knows = λ i. later_knows o w _ (sent_later w s l) i _ (h.knows i);
  asks_only = λ i. asks_still w s l quiet _ (h.asks_only i);
  asked = λ i p b v x. in_there _ _ _ (h.asked i p b v x);
  newest = h.newest;
  once = started_once o w h s l fresh;
  one = λ p b d v u i j. h.one p b d v u (asked_before w s l quiet p b v i) (asked_before w s l quiet p d u j);
  learnt = h.learnt;
}

-- ### A proposer that turns to something else, or is gone

turn_later : (w : World) (s : ℕ) (q : Option Phase) → IsLater w (turn w s q)
turn_later w s q = record {
  rises = λ i p. omega arith;
  pledges = λ i p. omega arith;
  letters = λ f x i. i;
  votes = λ i p b c x. x;
  fresh = λ i p d u x. inl x;
}

pub turn_sound : (o : Setting) (w : World) → Sound o w → (s : ℕ) (q : Option Phase) → Knows o w s q → AsksOnly w q → Sound o (turn w s q)
turn_sound o w h s q knows only = record {
  backed = λ f x i. later_backed o w _ (turn_later w s q) f x (h.backed f x i);
  knows = at_put (λ i q. Knows o w i q) w.proposers s q knows (λ i _. h.knows i);
  asks_only = at_put (λ i q. AsksOnly w q) w.proposers s q only (λ i _. h.asks_only i);
  asked = h.asked;
  newest = h.newest;
  once = h.once;
  one = h.one;
  learnt = h.learnt;
}

-- ### A standing ballot asks for votes

-- whoever else asks, or will ask, does so in another ballot
other_ballot : (o : Setting) (w : World) (p : ℕ) (b : Ballot) (v : Command) (s j : ℕ) (q : Option Phase)
    → b.server ≡ s → b.server < 256 → j ≢ s → Knows o w j q
    → AsksOnly w q → AsksOnly (send w s (Accept p b v)) q
other_ballot o w p b v s j None own low away k h = h
other_ballot o w p b v s j (Some Idle) own low away k h = h
other_ballot o w p b v s j (Some (Started told heard)) own low away k h = λ r d u i same. elim (in_cons _ _ _ i) [
  | inl new ↦ let theirs = k.0.0 in let under = k.0.1 in let is : d ≡ b = cc in
      let o = one_server b told.ballot low (omega arith) (ap number (sym is) ∙ same) in absurd (omega arith)
  | inr old ↦ h r d u old same
]
other_ballot o w p b v s j (Some (Standing told stands asked)) own low away k h = λ r d u i same. elim (in_cons _ _ _ i) [
  | inl new ↦ let theirs = k.0.0 in let under = k.0.1 in let is : d ≡ b = cc in
      let o = one_server b told.ballot low (omega arith) (ap number (sym is) ∙ same) in absurd (omega arith)
  | inr old ↦ h r d u old same
]

up_to_behind : (asked : Option Ask) (p q : ℕ) → is_behind asked p ≡ true → IsUpTo asked q → q < p
up_to_behind None p q e h = absurd h
up_to_behind (Some ask) p q e h = let less : ask.place < p = grind (arith, nat_tests) in omega arith

-- behind the last place the ballot has asked for nothing
not_yet : (w : World) (told : Told) (stands : Bool) (asked : Option Ask) (p : ℕ) → is_behind asked p ≡ true
    → AsksOnly w (Some (Standing told stands asked)) → (d : Ballot) (u : Command) → Asked w p d u → number d ≢ number told.ballot
not_yet w told stands asked p behind only d u i same =
    let less = up_to_behind asked p p behind (only p d u i same).2 in omega arith

-- the ballot that asks asked for nothing else at the place
asked_once : (w : World) (s p : ℕ) (b : Ballot) (v : Command) → ((d : Ballot) (u : Command) → Asked w p d u → number d ≢ number b)
    → ((q : ℕ) (c d : Ballot) (x u : Command) → Asked w q c x → Asked w q d u → number c ≡ number d → x ≡ u)
    → (q : ℕ) (c d : Ballot) (x u : Command) → Asked (send w s (Accept p b v)) q c x → Asked (send w s (Accept p b v)) q d u → number c ≡ number d → x ≡ u
asked_once w s p b v quiet one q c d x u i j e = elim (in_cons _ _ _ i) [
  | inl new ↦ elim (in_cons _ _ _ j) [
    | inl too ↦ cc
    | inr old ↦ let q_is : q ≡ p = cc in let c_is : c ≡ b = cc in absurd (quiet d u (subst (λ q. Asked w q d u) q_is old) (sym e ∙ ap number c_is))
  ]
  | inr before ↦ elim (in_cons _ _ _ j) [
    | inl new ↦ let q_is : q ≡ p = cc in let d_is : d ≡ b = cc in absurd (quiet c x (subst (λ q. Asked w q c x) q_is before) (e ∙ ap number d_is))
    | inr old ↦ one q c d x u before old e
  ]
]

-- the place is in the range of a standing ballot, and behind the last one that it asked for
pub record MayAsk (told : Told) (asked : Option Ask) (p : ℕ) : Type 0 where
  pub from : told.from ≤ p
  pub within : is_within told.until p ≡ true
  pub behind : is_behind asked p ≡ true

pub asks_sound : (o : Setting) (w : World) → Sound o w → (s : ℕ) (told : Told) (stands : Bool) (asked : Option Ask) (p : ℕ) (v : Command)
    → Knows o w s (Some (Standing told stands asked)) → AsksOnly w (Some (Standing told stands asked)) → MayAsk told asked p → IsSafe o w p told.ballot v
    → Sound o (turn (send w s (Accept p told.ballot v)) s (Some (Standing told true (Some (asking p v)))))
asks_sound o w h s told stands asked p v k only may safe =
    let b : Ballot = told.ballot in
    let now : Option Phase = Some (Standing told true (Some (asking p v))) in
    let after : World = turn (send w s (Accept p b v)) s now in
    let l = turned_later w s (Accept p b v) now in
    let is_s : b.server ≡ s = k.0.0 in
    let low : b.server < 256 = (let under = k.0.1 in omega arith) in
    let fact : IsBacked o w s (Accept p b v) = (sym is_s, subst (λ j. HasPledged w j b) (sym is_s) k.0.2, low, safe) in
    let own : Asked after p b v = subst (λ f. In (sent f (Accept p b v)) (sent s (Accept p b v) ∷ w.letters)) (sym is_s) (in_here _ _) in
    record {
      backed = λ f x i. later_backed o w _ l f x (backed_one_more o w h s (Accept p b v) fact f x i);
      knows = at_put (λ i q. Knows o after i q) w.proposers s now
          (later_owns w after l s b k.0, later_safe o w after l told k.1, later_cast w after l told.reported k.2, (own, λ j i. absurd (not_in_nobody j i)))
          (λ i _. later_knows o w _ l i _ (h.knows i));
      asks_only = at_put (λ i q. AsksOnly after q) w.proposers s now (λ q d u i same. elim (in_cons _ _ _ i) [
        | inl new ↦ let at : q ≡ p = cc in rw at (may.from, may.within, omega arith)
        | inr old ↦ let range = only q d u old same in (range.0, range.1, let less = up_to_behind asked p q may.behind range.2 in omega arith)
      ]) (λ i away. other_ballot o w p b v s i _ is_s low away (h.knows i) (h.asks_only i));
      asked = λ i j d u x. in_there _ _ _ (h.asked i j d u x);
      newest = h.newest;
      once = started_once o w h s (Accept p b v) tt;
      one = asked_once w s p b v (not_yet w told stands asked p may.behind only) h.one;
      learnt = λ i j u x. later_chosen o w _ l j u (h.learnt i j u x);
    }

-- ### All moves

-- all that can change at once, each with what it rests on. To keep another fact over every schedule, keep it at each of these
pub data IsMove (o : Setting) (e : Event) (w : World) : World → Type 0 where
  Keeps : (s : ℕ) → (records : List StateRecord) → IsGrown o w s records → IsMove o e w (keep w s records)
  Sends : (s : ℕ) → (l : Letter) → IsMute l → IsFresh w l → IsBacked o w s l → IsMove o e w (send w s l)
  Turns : (s : ℕ) → (q : Option Phase) → Knows o w s q → AsksOnly w q → IsMove o e w (turn w s q)
  Asks : (s : ℕ) → (told : Told) → (stands : Bool) → (asked : Option Ask) → (p : ℕ) → (want : Command) → Knows o w s (Some (Standing told stands asked))
      → AsksOnly w (Some (Standing told stands asked)) → MayAsk told asked p → e ≡ Proposes s p want
      → IsMove o e w (turn (send w s (Accept p told.ballot (to_propose want (reported_at told.reported p)))) s
      (Some (Standing told true (Some (asking p (to_propose want (reported_at told.reported p)))))))

pub move_sound : (o : Setting) (e : Event) (w v : World) → Sound o w → IsMove o e w v → Sound o v
move_sound o e w v h (Keeps s records g) = keep_sound o w h s records g
move_sound o e w v h (Sends s l quiet fresh fact) = send_sound o w h s l quiet fresh fact
move_sound o e w v h (Turns s q k only) = turn_sound o w h s q k only
move_sound o e w v h (Asks s told stands asked p want k only may from) =
    asks_sound o w h s told stands asked p _ k only may (k.1 p may.from may.within want)

pub data Leads (o : Setting) (e : Event) : World → World → Type 0 where
  Still : {w : World} → Leads o e w w
  Steps : {w u v : World} → Sound o w → IsMove o e w u → Leads o e u v → Leads o e w v

-- a move, and what follows from where it leads
pub goes : (o : Setting) (e : Event) (w u v : World) → Sound o w → IsMove o e w u → (Sound o u → Leads o e u v) → Leads o e w v
goes o e w u v h m rest = Steps h m (rest (move_sound o e w u h m))

pub last : (o : Setting) (e : Event) (w u : World) → Sound o w → IsMove o e w u → Leads o e w u
last o e w u h m = Steps h m Still

pub keeps : (o : Setting) (e : Event) (P : World → Type 0) → ((w v : World) → Sound o w → P w → IsMove o e w v → P v)
    → (w v : World) → Leads o e w v → P w → P v
keeps o e P each w v Still k = k
keeps o e P each w v (Steps {u = u} h m rest) k = keeps o e P each u v rest (each w u h k m)
