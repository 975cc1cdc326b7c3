-- A read that was told that the new map has nothing, and is answered under the old one: whoever answers has what was frozen.
use Rattle.law_run.proofs.Imports.{[], if◌then◌else◌, ◌&&◌, ◌||◌, ◌∙◌, ◌∷◌, ◌≡◌, ◌≤◌, Acted, Actor, AreStepsFrom, Blank, Bool, By_read, Cell, Did, Firm}
use Rattle.law_run.proofs.Imports.{Handled, In, IsPrefix, IsRead, IsReadable, IsSteady, JobResult, Letter, List, MayActor, None, NotThere, Not_here, Record}
use Rattle.law_run.proofs.Imports.{Serving, Setting, Shows, Some, State, Step, World, acts, ap, arith, begins_to_leave, both_true, by_bool, by_test, bytes_of}
use Rattle.law_run.proofs.Imports.{chain_in, chain_that_counts, chosen_log, chosen_state, data_among, entry_at, epoch_at, in_former, inl, inr, leaving}
use Rattle.law_run.proofs.Imports.{length, letters_of, log_below, log_rev, none_some, not, old_data, one_post, own_place, own_plain, own_steady, owns_of}
use Rattle.law_run.proofs.Imports.{prefix_itself, prefix_on, reads_old, refl, said, sender, server_serves, server_state, server_step, serves_sent, stage_at}
use Rattle.law_run.proofs.Imports.{stage_facts, stamped, step, stepped, subject_of, subst, sym, true, true_false, turns, ℕ}
use Rattle.law_run.specs.MachineTies.{Ground}
use Rattle.law_run.proofs.EntryAtEpoch.{AreUpTo}
use Rattle.law_run.proofs.ReadsLookWhereSent.{Accepts, AreGrounded, ground_now, is_looked, who_accepts}
use Rattle.law_run.proofs.ContentsAsked.{known_read, own_up_to, reader_serves, reads_old_is}
use Rattle.law_run.proofs.DataLetters.{mute_data, notice_unended, unended_data}
use Rattle.law_run.proofs.RunScenes.{Grounded}
use Rattle.law_run.proofs.SearchesFindData.{IsAmong, in_data, some_data}
use Rattle.petal_msg.specs.declared.body.Body.TheVariants as body
use Rattle.petal_msg.specs.declared.letter.Actor.TheVariants as actor

-- ### What a step sends with data

-- a server that sent data could read the cell
pub record IsShown (setting : Setting) (u : World) (y : ℕ) (letter : Letter) (seq : ℕ) (bytes : List ℕ) : Type 0 where
  pub runs : (u.servers y).life.running ≡ true
  pub client : ℕ
  pub cell : Cell
  pub epoch : ℕ
  pub readable : IsReadable (Handled u y) (own_place setting u y) (owns_of u y) client seq cell epoch
  pub to : letter.to ≡ actor.Client client
  pub rev : letter.rev ≡ (server_state setting u y).rev
  pub is : bytes ≡ bytes_of (entry_at (chain_in (owns_of u y).store.chains cell) epoch)

pub same_seq : {a b : ℕ} {xs ys : List ℕ} → body.Data a xs ≡ body.Data b ys → a ≡ b
same_seq e = cc

pub same_data : {a b : ℕ} {xs ys : List ℕ} → body.Data a xs ≡ body.Data b ys → xs ≡ ys
same_data e = cc

module _ (g : Grounded) (steady : IsSteady g.state) (y stamp : ℕ) (letter : Letter) (seq : ℕ) (bytes : List ℕ) (says : letter.body ≡ body.Data seq bytes) where
  open g use {setting, w as u}

  abbrev S : Type 0
  S = IsShown setting u y letter seq bytes

  job_shows : (done : JobResult) → Did (Handled u y) (own_place setting u y) (owns_of u y) done → (u.servers y).life.running ≡ true
      → In letter (stamped stamp (letters_of (sender (own_place setting u y)) 0 done.posts)) → S
  job_shows _ (By_read _ (Shows client seq' cell epoch readable there)) runs h =
      let s = said (sender (own_place setting u y)) stamp 0 _ letter h in
      let p = one_post _ _ s.post s.there in
      let same : body.Data seq' (bytes_of (entry_at (chain_in (owns_of u y).store.chains cell) epoch)) ≡ body.Data seq bytes = sym p.1 ∙ sym s.body ∙ says in
      record {
        runs = runs;
        client = client;
        cell = cell;
        epoch = epoch;
        readable = subst (λ q. IsReadable (Handled u y) (own_place setting u y) (owns_of u y) client q cell epoch) (same_seq same) readable;
        to = s.to ∙ p.0;
        rev = s.rev;
        is = sym (same_data same);
      }
  job_shows _ (By_read _ (Not_here client seq' cell epoch readable comes none)) runs h =
      let s = said (sender (own_place setting u y)) stamp 0 _ letter h in
      let p = one_post _ _ s.post s.there in
      let same : body.NotHere seq' ≡ body.Data seq bytes = sym p.1 ∙ sym s.body ∙ says in
      absurd cc
  job_shows done d runs h =
      let s = said (sender (own_place setting u y)) stamp 0 done.posts letter h in
      true_false (ap is_looked (sym s.body ∙ says)) (mute_data (Handled u y) (own_place setting u y) (owns_of u y) done d (λ of_read. of_read) s.post s.there)

  pub shows : (what : Step) (acted : Acted) → Serving setting u y what acted → In letter (stamped stamp acted.letters) → S
  shows what acted serving h = elim (serves_sent setting u y stamp what acted serving letter h) [
    | inl job ↦ job_shows job.done job.did job.runs (subst (λ (a : Acted). In letter (stamped stamp a.letters)) job.acted_is h)
    | inr apart ↦ true_false (ap is_looked says) (unended_data letter.body (notice_unended (subject_of letter.body) apart))
  ]

-- ### Data of an old map

-- these are the bytes that were frozen, of the cell that the client's line reads by these entries
pub record IsOld (setting : Setting) (u : World) (client seq rev : ℕ) (bytes : List ℕ) : Type 0 where
  pub y : ℕ
  pub at : length (u.servers y).log.applied ≡ rev
  pub told : Bool
  pub cell : Cell
  pub epoch : ℕ
  pub read : IsRead (server_state setting u y) setting.lines client seq told cell epoch
  pub leaves : stage_at (server_state setting u y) cell ≡ 3
  pub frozen : u.frozen cell ≡ Some (chain_in (owns_of u y).store.chains cell)
  pub early : AreUpTo (chain_in (owns_of u y).store.chains cell) (epoch_at (server_state setting u y) cell)
  pub is : bytes ≡ bytes_of (entry_at (chain_in (owns_of u y).store.chains cell) epoch)

pub shown_old : (g : Grounded) (y : ℕ) (letter : Letter) (seq : ℕ) (bytes : List ℕ) (s : IsShown g.setting g.w y letter seq bytes)
    → reads_old g.setting g.w (actor.Server y) ≡ true → IsOld g.setting g.w s.client seq letter.rev bytes
shown_old g y letter seq bytes s old =
    let leaving_so = sym (reads_old_is g y s.client seq s.cell s.epoch s.readable.asked) ∙ old in
    let three = (stage_facts g.setting.servers (g.w.servers y).log.applied (own_plain g.setting g.w g.firm y) s.cell).leaves leaving_so in
    let known = known_read g y s.client seq s.cell s.epoch s.readable.asked in
    record {
      y = y;
      at = sym (log_rev g.setting.servers (g.w.servers y).log.applied) ∙ sym s.rev;
      told = known.told;
      cell = s.cell;
      epoch = s.epoch;
      read = known.read;
      leaves = three;
      frozen = g.ground.moves.still.own y (g.w.servers y).log.applied s.cell s.runs (prefix_itself _) (g.firm.servers y) s.readable.seated three
          (reader_serves g y s.cell s.readable.readable);
      early = own_up_to g y s.cell s.runs s.readable.seated;
      is = s.is;
    }

-- ### Steps on the way

-- what was frozen stays so
abbrev pub StayFrozen : Setting → World → World → Type 0
StayFrozen setting v u = (cell : Cell) → 3 ≤ stage_at (chosen_state setting v) cell → u.frozen cell ≡ v.frozen cell

module _ (setting : Setting) (state : State) (steady : IsSteady state) where
  -- by a step
  frozen_on : (u : World) (who : Actor) (what : Step) (stamp : ℕ) → Firm setting u → Firm setting (step who what setting u stamp).world
      → IsPrefix (chosen_log setting u) (chosen_log setting (step who what setting u stamp).world)
      → StayFrozen setting u (step who what setting u stamp).world
  unfolding step
  frozen_on u (actor.Client c) what stamp firm next grows cell left = refl
  frozen_on u (actor.Server n) what stamp firm next grows cell left =
      let v = (acts setting u n what stamp (server_step what (server_state setting u n) n (u.servers n))).world in
      by_test (λ o. o ≡ u.frozen cell) (begins_to_leave setting u v cell) (chain_that_counts setting v cell) (u.frozen cell)
      (λ t.
      let both = both_true (leaving (chosen_state setting v) cell) (not (leaving (chosen_state setting u) cell)) t in
      let now = (stage_facts setting.servers (chosen_log setting v) next.plain cell).leaves both.0 in
      let up = (log_below setting.servers (chosen_log setting u) (chosen_log setting v) next.plain grows).stages cell in
      let was = (stage_facts setting.servers (chosen_log setting u) firm.plain cell).left (omega arith) in
      true_false both.1 (ap not was))
      (λ f. refl)

  -- what was found, at a world on the way
  pub record IsFoundAt (v : World) (told : NotThere) (given : ℕ × List ℕ) : Type 0 where
    pub u : World
    pub firm : Firm setting u
    pub grows : IsPrefix (chosen_log setting v) (chosen_log setting u)
    pub stays : StayFrozen setting v u
    pub client : ℕ
    pub to : told.letter.to ≡ actor.Client client
    pub old : IsOld setting u client told.seq told.letter.rev given.1
    pub accepts : Accepts setting.lines told.letter told.seq given.0

  module _ (v : World) (told : NotThere) (given : ℕ × List ℕ) where
    abbrev F : Type 0
    F = IsFoundAt v told given

    -- in this step
    step_found : (u : World) (who : Actor) (what : Step) (stamp : ℕ) (later : List Record) → Ground setting state u
        → AreGrounded setting state (step who what setting u stamp).world later → AreStepsFrom setting (step who what setting u stamp).world later
        → MayActor who what setting u → IsPrefix (chosen_log setting v) (chosen_log setting u) → StayFrozen setting v u
        → reads_old setting u who ≡ true
        → IsAmong told later (step who what setting u stamp).letters given → F
    unfolding step In
    step_found u (actor.Client c) what stamp later ground grounded legal may grows stays old a = true_false old refl
    step_found u (actor.Server y) Blank stamp later ground grounded legal may grows stays old a = absurd a.there
    step_found u (actor.Server y) what stamp later ground grounded legal may grows stays old a =
        let acted = server_step what (server_state setting u y) y (u.servers y) in
        let next = (acts setting u y what stamp acted).world in
        let firm = ground.ready.firm in
        let serving = server_serves setting u ground.ready.rests firm y (own_steady setting u firm y) stamp what refl may.1
        (ground_now setting state next later grounded).ready.firm in
        let g : Grounded = record { setting = setting; state = state; w = u; firm = firm; ground = ground } in
        let s = shows g steady y stamp a.letter told.seq given.1 a.has.says what acted serving a.there in
        let ok = who_accepts setting state next later grounded legal a.letter told.seq given.1 given.0
        (in_former a.letter (stamped stamp acted.letters) u.sent a.there) a.has.says a.has.accepts in
        record {
          u = u;
          firm = firm;
          grows = grows;
          stays = stays;
          client = s.client;
          to = a.has.to ∙ s.to;
          old = subst (λ r. IsOld setting u s.client told.seq r given.1) (sym a.has.rev) (shown_old g y a.letter told.seq given.1 s old);
          accepts = record { client = ok.client; to = a.has.to ∙ ok.to; line = ok.line; is = ok.is; number_is = ok.number_is };
        }

    -- in one of these
    pub found : (u : World) (records : List Record) (turned : Bool) → AreGrounded setting state u records → AreStepsFrom setting u records
        → IsPrefix (chosen_log setting v) (chosen_log setting u) → StayFrozen setting v u
        → old_data setting u records told turned ≡ Some given → F
    found u [] turned grounded legal grows stays e = none_some refl e
    found u (own ∷ later) turned grounded legal grows stays e =
        let next = (stepped setting u own).world in
        let follows = legal.0 in
        elim (some_data (if turned && reads_old setting u own.actor then data_among told later own.sent else None)
        (old_data setting next later told (turned || turns told.letter u own next)) given e) [
          | inl now ↦ by_bool (turned && reads_old setting u own.actor)
              (λ t.
              let both = both_true turned (reads_old setting u own.actor) t in
              let is : data_among told later own.sent ≡ Some given =
              sym (ap (λ b. if b then data_among told later own.sent else None) t) ∙ now in
              step_found u own.actor own.step own.stamp later grounded.0 grounded.2 legal.1 follows.may.may grows stays both.1
              (in_data told later _ given (sym (ap (data_among told later) follows.sent) ∙ is)))
              (λ f. none_some (ap (λ b. if b then data_among told later own.sent else None) f) now)
          | inr on ↦ found next later _ grounded.2 legal.1 (prefix_on _ _ _ grows grounded.1)
              (λ cell left.
              let up = (log_below setting.servers (chosen_log setting v) (chosen_log setting u) grounded.0.ready.firm.plain grows).stages cell in
              frozen_on u own.actor own.step own.stamp grounded.0.ready.firm (ground_now setting state next later grounded.2).ready.firm grounded.1 cell
              (omega arith) ∙ stays cell left)
              on
        ]
