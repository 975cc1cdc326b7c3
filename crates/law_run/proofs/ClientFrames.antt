-- What a client's step has to show so that servers and clients stay tied to the plain machine.
use Rattle.law_run.proofs.Imports.{[], ◌+◌, ◌<◌, ◌∙◌, ◌≡◌, ◌≢◌, ◌≤◌, ◌⊎◌, Actor, Body, Bool, Cell, Chain, Client, DiskRow, EndKnownAt, Event, Finished, Heard}
use Rattle.law_run.proofs.Imports.{In, IsOpen, Known, Letter, Line, List, Pending, Plain, Post, Reaction, Record, Setting, Some, Turned, World, all_put_apart}
use Rattle.law_run.proofs.Imports.{ap, arith, at, cell_cmp, chain_in, change_by, chosen_state, client_sender, content_where, counted, disk_of, done_to, false}
use Rattle.law_run.proofs.Imports.{flat_map, freezes, has_content_where, in-append, inl, inr, is_ask, is_clients, kept, letters_of, look_of, make_of, makes}
use Rattle.law_run.proofs.Imports.{map, nat_cmp, open_of, open_write, owns_of, reacts, refl, said, seen, stamped, subst, sym, takes, true, true_false}
use Rattle.law_run.proofs.Imports.{turned_asks, write_asked, ℕ}
use Rattle.law_run.specs.WritesGoOn.{IsMindful, held_in, is_held, Seat}
use Rattle.law_run.specs.MachineTies.{HasCounted, Is_followed, Is_counted, Follow}
use Rattle.law_run.proofs.ChosenDisks.{rows_in, disks_now}
use Rattle.law_run.proofs.SnapshotsTaken.{no_freezes}
use Rattle.law_run.proofs.ReadsLookWhereSent.{is_looked, no_look, one_client}
use Rattle.law_run.proofs.DisksMade.{drop_all}
use Rattle.law_run.proofs.ListMembers.{all_empty}
use Rattle.law_run.proofs.ContentChanges.{no_takes}
use Rattle.law_run.proofs.RunScenes.{Followed}
use Rattle.petal_msg.specs.declared.body.Body.TheVariants as body
use Rattle.petal_msg.specs.declared.letter.Actor.TheVariants as actor
use Rattle.petal_msg.specs.declared.operation.Ending.TheVariants as ending

-- ### What clients send has no data

ask_data : (said : Body) → is_ask said ≡ true → is_looked said ≡ false
ask_data (body.Data seq bytes) e = let f : false ≡ true = e in absurd cc
ask_data (body.NotHere seq) e = let f : false ≡ true = e in absurd cc
ask_data _ e = refl

-- ### What a client's step has to show

-- the client goes on with another request or with none, and the machine with it
pub record TurnFollow (w : World) (m k : Plain) (c : ℕ) (client : Client) : Type 0 where
  pub disks : k.disks ≡ m.disks
  pub mindful : IsMindful k
  pub others : (j : ℕ) → j ≢ c → open_of k.opened j ≡ open_of m.opened j
  pub seat : Seat (write_asked c client.asked) (open_of k.opened c)
  pub helds : (seq : ℕ) → IsOpen client seq → (IsOpen (w.clients c) seq × (is_held m c ≡ true → is_held k c ≡ true)) ⊎ ((w.clients c).seq < seq)

-- a client's step, at a state from what is chosen on: the world and the machine before it, and the records after it
pub record ClientStep : Type 0 where
  pub told : Followed
  pub open told use *
  pub c : ℕ
  pub stamp : ℕ
  pub later : List Record

module _ (this : ClientStep) where
  abbrev setting : Setting
  setting = this.setting

  abbrev lines : List Line
  lines = this.setting.lines

  abbrev rows : List DiskRow
  rows = rows_in this.setting this.w

  abbrev client : Client
  client = this.w.clients this.c

  -- what the client may have done
  abbrev pub Turn : Bool → Reaction → Type 0
  Turn in_call reacted = Turned (Heard this.w (actor.Client this.c)) this.setting.servers lines this.c client in_call reacted

  abbrev pub after_turn : Reaction → World
  after_turn reacted = (reacts this.w this.c this.stamp reacted).world

  -- what is told of the letters that it sends
  abbrev pub look_here : (reacted : Reaction) → Letter → List Event
  look_here reacted letter = look_of this.setting this.w (after_turn reacted) (actor.Client this.c) this.later letter letter.body

  pub no_looks : (in_call : Bool) (reacted : Reaction) → Turn in_call reacted
      → flat_map (look_here reacted) (reacts this.w this.c this.stamp reacted).letters ≡ []
  no_looks in_call reacted turned =
      all_empty (look_here reacted) (stamped this.stamp (letters_of (client_sender this.c reacted.client) 0 reacted.posts))
      (λ letter h. let s = said (client_sender this.c reacted.client) this.stamp 0 reacted.posts letter h in
      no_look this.setting this.w (after_turn reacted) (actor.Client this.c) this.later letter letter.body
      (ap is_looked s.body ∙ ask_data s.post.body (turned_asks _ this.setting.servers lines this.c client in_call reacted turned s.post s.there)))

  pub unwritten : (in_call : Bool) (reacted : Reaction) → Turn in_call reacted → (post : Post) → In post reacted.posts
      → (seq : ℕ) → post.body ≢ body.Written seq
  unwritten in_call reacted turned post h seq e =
      true_false (turned_asks _ this.setting.servers lines this.c client in_call reacted turned post h) (ap is_ask e)

  -- no content changes, and nothing is chosen
  pub nothing_taken : (reacted : Reaction) → takes (change_by this.setting this.w (after_turn reacted)) ≡ Some []
  nothing_taken reacted = no_takes (change_by this.setting this.w (after_turn reacted)) (λ row h b has.
      let at = (disks_now this.setting this.w this.along.firm).at row h in (
        sym (ap (λ o. has_content_where (chosen_state this.setting this.w) (counted this.setting this.w) o row.epoch b) at) ∙ has,
        sym (ap (λ o. content_where (chosen_state this.setting this.w) (counted this.setting this.w) o row.epoch b) at),
      ))

  pub nothing_made : (reacted : Reaction) → makes (change_by this.setting this.w (after_turn reacted)) ≡ []
  nothing_made reacted = ap (map make_of) (drop_all rows)

  pub nothing_frozen : (reacted : Reaction) → freezes (change_by this.setting this.w (after_turn reacted)) ≡ []
  nothing_frozen reacted = no_freezes rows rows (λ row h. (disks_now this.setting this.w this.along.firm).at row h)

  -- ### The frame

  -- a reply was to a request of a number that the client had reached
  reply_old : (letter : Letter) (from to : Actor) (seq : ℕ) → EndKnownAt this.setting (seen this.ground.lives this.w) seq letter.rev from to
      → to ≡ actor.Client this.c → seq ≤ client.seq
  reply_old letter (actor.Server n) (actor.Client c) seq known e = subst (λ i. seq ≤ (this.w.clients i).seq) (one_client e) known.old
  reply_old letter (actor.Server n) (actor.Server k) seq known e = absurd known
  reply_old letter (actor.Client c) to seq known e = absurd known

  written_old : (letter : Letter) (seq : ℕ) → In letter this.w.sent → letter.to ≡ actor.Client this.c → letter.body ≡ body.Written seq → seq ≤ client.seq
  written_old letter seq h to says =
      reply_old letter letter.from letter.to seq
      (subst (λ (b : Body). Known this.setting (seen this.ground.lives this.w) letter.from letter.to letter.rev b) says
      (this.ground.asking.letters letter h)) to

  finished_old : (n : ℕ) (last : Finished) → at nat_cmp (owns_of this.w n).pairs.finished this.c ≡ Some last → last.seq ≤ client.seq
  finished_old n last is =
      let bound = this.ground.asking.finished n this.c in
      let top : done_to (at nat_cmp (owns_of this.w n).pairs.finished this.c) ≡ last.seq + 1 = ap done_to is in
      omega arith

  module _ (k : Plain) (reacted : Reaction) (turn : TurnFollow this.w this.m k this.c reacted.client) where
    -- what was held is held, for the request that is still open
    held_still : (seq : ℕ) → seq ≤ client.seq → IsOpen reacted.client seq → (IsOpen client seq → is_held this.m this.c ≡ true) → is_held k this.c ≡ true
    held_still seq le still held = elim (turn.helds seq still) [ inl same ↦ same.1 (held same.0) | inr new ↦ absurd (omega arith) ]

    letters : (letter : Letter) (j seq : ℕ) → In letter this.w.sent → letter.to ≡ actor.Client j → letter.body ≡ body.Written seq
        → IsOpen ((after_turn reacted).clients j) seq → is_held k j ≡ true
    letters letter j seq h to says = all_put_apart this.w.clients this.c reacted.client (λ i x. letter.to ≡ actor.Client i → IsOpen x seq → is_held k i ≡ true)
        (λ i ne to still. ap held_in (turn.others i ne) ∙ this.follow.letters letter i seq h to says still)
        (λ to still. held_still seq (written_old letter seq h to says) still (this.follow.letters letter this.c seq h to says)) j to

    finished : (n j : ℕ) (last : Finished) → (this.w.servers n).life.running ≡ true → at nat_cmp (owns_of this.w n).pairs.finished j ≡ Some last
        → last.ending ≡ ending.Written → IsOpen ((after_turn reacted).clients j) last.seq → is_held k j ≡ true
    finished n j last on is how =
        all_put_apart this.w.clients this.c reacted.client
        (λ i x. at nat_cmp (owns_of this.w n).pairs.finished i ≡ Some last → IsOpen x last.seq → is_held k i ≡ true)
        (λ i ne is still. ap held_in (turn.others i ne) ∙ this.follow.finished n i last on is how still)
        (λ is still. held_still last.seq (finished_old n last is) still (this.follow.finished n this.c last on is how)) j is

    pending : (n : ℕ) (cell : Cell) (op : Pending) → (this.w.servers n).life.running ≡ true → at cell_cmp (owns_of this.w n).pairs.pending cell ≡ Some op
        → is_clients op.kind ≡ true → HasCounted this.setting this.w n cell op (chain_in (kept this.setting this.w n).chains cell)
        → IsOpen ((after_turn reacted).clients op.client) op.seq → is_held k op.client ≡ true
    pending n cell op on is clients counted still =
        all_put_apart this.w.clients this.c reacted.client
        (λ i x. op.client ≡ i → IsOpen x op.seq → is_held k i ≡ true)
        (λ i ne e open_now. ap held_in (turn.others i ne)
        ∙ subst (λ j. is_held this.m j ≡ true) e
        (this.follow.pending n cell op on is clients counted (subst (λ j. IsOpen (this.w.clients j) op.seq) (sym e) open_now)))
        (λ e open_now.
        let old : op.seq ≤ client.seq = subst (λ j. op.seq ≤ (this.w.clients j).seq) e (this.ground.asking.pending n cell op is clients).known.sent.old in
        held_still op.seq old open_now (λ was. subst (λ j. is_held this.m j ≡ true) e
        (this.follow.pending n cell op on is clients counted (subst (λ j. IsOpen (this.w.clients j) op.seq) (sym e) was))))
        op.client refl still

    -- the servers' part is as before, and so is what is chosen
    counted_back : (n : ℕ) (cell : Cell) (op : Pending) (chain : Chain) → HasCounted this.setting (after_turn reacted) n cell op chain
        → HasCounted this.setting this.w n cell op chain
    counted_back n cell op chain (Is_followed row linked both shared put same) = Is_followed row linked both shared put same
    counted_back n cell op chain (Is_counted put here) = Is_counted put here

    pub turn_follow : ((post : Post) → In post reacted.posts → (seq : ℕ) → post.body ≢ body.Written seq)
        → Follow this.setting rows (after_turn reacted) k
    turn_follow unwritten = record {
      stores = record {
        known = λ row h.
            let own = this.follow.stores.known row h in
            record { disk = own.disk; is = ap (λ ds. disk_of ds row.name) turn.disks ∙ own.is; same = own.same; snapshots = own.snapshots };
        unknown = λ name none. ap (λ ds. disk_of ds name) turn.disks ∙ this.follow.stores.unknown name none;
        mindful = turn.mindful;
      };
      seats = all_put_apart this.w.clients this.c reacted.client (λ j x. Seat (write_asked j x.asked) (open_of k.opened j))
          (λ j ne. subst (Seat (open_write this.w j)) (sym (turn.others j ne)) (this.follow.seats j)) turn.seat;
      letters = λ letter j seq h to says still. elim (in-append letter _ this.w.sent h) [
        | inl new ↦ let s =
            said (client_sender this.c reacted.client) this.stamp 0 reacted.posts letter new in absurd (unwritten s.post s.there seq (sym s.body ∙ says))
        | inr old ↦ letters letter j seq old to says still
      ];
      pending = λ n cell op on is clients counted still. pending n cell op on is clients (counted_back n cell op _ counted) still;
      finished = finished;
    }
