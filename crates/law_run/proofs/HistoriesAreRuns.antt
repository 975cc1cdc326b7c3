-- Every legal history is a run of the plain machine.
use Rattle.law_run.proofs.Imports.{[], ◌++◌, ◌∙◌, ◌∷◌, ◌≡◌, Actor, AreHeld, AreSteps, AreStepsFrom, At, Blank, Call, Command, DiskRow, Event, Follows}
use Rattle.law_run.proofs.Imports.{HasProperTuples, In, IsMoment, IsPrefix, IsRunOf, IsSound, Law, Letter, List, MayActor, Obeys, Option, Plain, Record, Run}
use Rattle.law_run.proofs.Imports.{Script, Setting, SnapshotsStay, Some, State, Step, World, acts, always_empty, ap, append-nil, append_assoc, at-empty}
use Rattle.law_run.proofs.Imports.{at_moment, before_part, begins, blank, cell_cmp, change_by, chosen_log, client_state, client_step, client_turns}
use Rattle.law_run.proofs.Imports.{copies_after, covered_after, ends, events_at, events_from, events_of, events_with, firm_in, firm_then, flat_map}
use Rattle.law_run.proofs.Imports.{follows_in, freezes, grown_then, history_agrees, history_grows, is_call, joined, longer, look_of, machine_after, makes}
use Rattle.law_run.proofs.Imports.{marks_first, nat_cmp, next_line, none_chosen, none_some, open_write, out_has_stopped, own_steady, prefix_legal, reacts}
use Rattle.law_run.proofs.Imports.{refl, replay, reports_hold, requests_after, rule_after, run_of, server_serves, server_state, server_step, setting_in}
use Rattle.law_run.proofs.Imports.{setting_of, start, state_after, step, stepped, stepped_in, subst, sym, takes, ℕ}
use Rattle.spec_history.specs.Events.{ended}
use Rattle.law_jobs.proofs.Runs.{after}
use Rattle.law_run.specs.MachineTies.{Follow, Ground}
use Rattle.law_run.proofs.ChosenDisks.{Along, rows_in}
use Rattle.law_run.proofs.ClientFrames.{ClientStep}
use Rattle.law_run.proofs.ClientSteps.{begins_by, turn_told}
use Rattle.law_run.proofs.LogSteps.{step_kind}
use Rattle.law_run.proofs.ReadsLookWhereSent.{AreGrounded}
use Rattle.law_run.proofs.NothingUnderWayAtBallots.{caught_up_after, equal_after, waiting_after}
use Rattle.law_run.proofs.Machine.{Obeys-append, replay-append}
use Rattle.law_run.proofs.ServerStepsAllowed.{step_told}
use Rattle.law_run.proofs.BlanksTellNothing.{blank_follow, blank_told}
use Rattle.law_run.proofs.EventsOfServerSteps.{IsMiddle, ServesAt}
use Rattle.law_run.proofs.SnapshotsNeverChange.{contents_still}
use Rattle.law_run.proofs.GroundInHistories.{along_at, footed_on, footing_after, grown_at}
use Rattle.law_run.proofs.RunScenes.{Followed}
use Rattle.petal_msg.specs.declared.letter.Actor.TheVariants as actor

-- ### Steps, where the chosen logs are prefixes of one

module _ (script : Script) (sound : IsSound script) (whole : List Command) (all : HasProperTuples (setting_of script).servers whole) where
  abbrev setting : Setting
  setting = setting_of script

  abbrev state : State
  state = state_after setting.servers whole

  -- what is told is allowed, and keeps the machine tied to the world
  pub record Tells (m : Plain) (next : World) (told_now : Option (List Event)) : Type 0 where
    pub es : List Event
    pub is : told_now ≡ Some es
    pub may : Obeys m es
    pub follows : Follow setting (rows_in setting next) next (replay m es)

  server_begins : (what : Step) (n : ℕ) (next : World) → begins what (actor.Server n) next ≡ []
  server_begins (Call line) n next = refl
  server_begins _ n next = refl

  client_begins : (c : ℕ) (what : Step) (next : World) → begins what (actor.Client c) next ≡ begins_by c (is_call what) next
  client_begins c (Call line) next = refl
  client_begins c _ next = refl

  module _ (w : World) (m : Plain) (along : Along setting state w) (ground : Ground setting state w)
      (follow : Follow setting (rows_in setting w) w m)
      (stamp : ℕ) (later : List Record) where
    -- of the world after the step: what is chosen there, and that the ground holds from there on
    record Onwards (v : World) : Type 0 where
      after : Along setting state v
      grows : IsPrefix (chosen_log setting w) (chosen_log setting v)
      now : Ground setting state v
      middle : IsMiddle setting w v now.records now.good.visits
      grounds : AreGrounded setting state v later
      legal : AreStepsFrom setting v later

    abbrev so_far : Followed
    so_far = record { setting = setting; state = state; w = w; m = m; along = along; ground = ground; follow = follow }

    -- what is told of a letter that was sent
    abbrev look_told : Actor → World → Letter → List Event
    look_told who v letter = look_of setting w v who later letter letter.body

    -- a step of an actor, with the letters that it sent and the answer that it gave
    step_tells : (who : Actor) (what : Step) → MayActor who what setting w → Onwards (step who what setting w stamp).world
        → Tells m (step who what setting w stamp).world
        (events_with (begins what who (step who what setting w stamp).world) (takes (change_by setting w (step who what setting w stamp).world))
        (makes (change_by setting w (step who what setting w stamp).world) ++ freezes (change_by setting w (step who what setting w stamp).world)
        ++ flat_map (look_told who (step who what setting w stamp).world) (step who what setting w stamp).letters)
        (ends who w (step who what setting w stamp).answer))
    unfolding step
    step_tells (actor.Server n) Blank may next = record {
      es = [];
      is = blank_told setting w n stamp along.firm;
      may = tt;
      follows = blank_follow setting w n stamp m may.1.rests follow;
    }
    step_tells (actor.Server n) what may next =
        let acted = server_step what (server_state setting w n) n (w.servers n) in
        let v = (acts setting w n what stamp acted).world in
        let at : ServesAt =
        record {
          told = so_far;
          n = n;
          within = may.0;
          stamp = stamp;
          what = what;
          unblanked = refl;
          later = later;
        } in
        let serving = server_serves setting w ground.ready.rests along.firm n
        (own_steady setting w along.firm n) stamp what refl may.1 next.after.firm in
        let t = step_told at sound.numbered acted serving (record {
          next = next.after;
          onward = next.now;
          grows = next.grows;
          grown = grown_at script sound whole all w v next.after.firm next.grows;
          middle = next.middle;
        }) (step_kind (server_state setting w n) n (w.servers n) what)
        (record { grounds = next.grounds; legal = next.legal }) in
        record {
          es = t.es;
          is = ap (λ b. events_with b (takes (change_by setting w v))
              (makes (change_by setting w v) ++ freezes (change_by setting w v)
              ++ flat_map (look_told (actor.Server n) v) (acts setting w n what stamp acted).letters) (Some []))
              (server_begins what n v) ∙ t.is;
          may = t.may;
          follows = t.follows;
        }
    step_tells (actor.Client c) what may next =
        let reacted = client_step what (client_state setting w c) c (w.clients c) (next_line setting.lines c (w.clients c)) in
        let this : ClientStep = record { told = so_far; c = c; stamp = stamp; later = later } in
        let t = turn_told this (is_call what) reacted (client_turns setting w c what may.1).turned in
        record {
          es = t.es;
          is = ap (λ b. events_with b (takes (change_by setting w (reacts w c stamp reacted).world))
              (makes (change_by setting w (reacts w c stamp reacted).world) ++ freezes (change_by setting w (reacts w c stamp reacted).world)
              ++ flat_map (look_told (actor.Client c) (reacts w c stamp reacted).world) (reacts w c stamp reacted).letters)
              (ended (open_write w c) reacted.answer))
              (client_begins c what (reacts w c stamp reacted).world) ∙ t.is;
          may = t.may;
          follows = t.follows;
        }

  record_tells : (w : World) (m : Plain) → Along setting state w → Ground setting state w → Follow setting (rows_in setting w) w m
      → (own : Record)
      (later : List Record) → Follows setting w own → Along setting state (stepped setting w own).world
      → IsPrefix (chosen_log setting w) (chosen_log setting (stepped setting w own).world)
      → (now : Ground setting state (stepped setting w own).world)
      → IsMiddle setting w (stepped setting w own).world now.records now.good.visits
      → AreGrounded setting state (stepped setting w own).world later → AreStepsFrom setting (stepped setting w own).world later
      → Tells m (stepped setting w own).world (events_at setting w own later)
  record_tells w m along ground follow own later follows then grows now middle grounds legal =
      let v = (stepped setting w own).world in
      let t = step_tells w m along ground follow own.stamp later own.actor own.step follows.may.may
      (record { after = then; grows = grows; now = now; middle = middle; grounds = grounds; legal = legal }) in
      record {
        es = t.es;
        is = (λ i. events_with (begins own.step own.actor v) (takes (change_by setting w v))
            (makes (change_by setting w v) ++ freezes (change_by setting w v)
            ++ flat_map (λ (letter : Letter). look_of setting w v own.actor later letter letter.body) (follows.sent i))
            (ends own.actor w (follows.answer i))) ∙ t.is;
        may = t.may;
        follows = t.follows;
      }

start_follow : (script : Script) → Follow (setting_of script) (rows_in (setting_of script) (start (setting_of script)))
    (start (setting_of script)) blank
unfolding In
start_follow script =
    let w = start (setting_of script) in
    subst (λ (rows : List DiskRow). Follow (setting_of script) rows w blank)
    (sym (ap (λ log. (state_after script.servers log).disks.rows) (none_chosen (setting_of script)))) (record {
      stores = record { known = λ row h. absurd h; unknown = λ name none. refl; mindful = λ c o is. none_some refl is };
      seats = λ c. refl;
      letters = λ letter c seq h to says still. absurd h;
      pending = λ n cell op on is clients counted still. none_some (at-empty cell_cmp cell) is;
      finished = λ n c last on is how still. none_some (at-empty nat_cmp c) is;
    })

-- ### Of a run

-- the machine on the way, and that it goes on from there by events alone
pub record IsOnTheWay (setting : Setting) (middle last : World) : Type 0 where
  pub m : Plain
  pub then : Follow setting (rows_in setting middle) middle m
  pub es : List Event
  pub now : Follow setting (rows_in setting last) last (replay m es)

module _ (run : Run) where
  open run use {script, sound, records}

  abbrev of_run : Setting
  of_run = setting_in run

  abbrev whole_log : List Command
  whole_log = chosen_log of_run (after run)

  pub plain : HasProperTuples script.servers whole_log
  plain = (firm_in run).plain

  -- what is chosen on the way is at the front of what is chosen at the end
  reaches : (prefix later : List Record) → records ≡ prefix ++ later → IsPrefix (chosen_log of_run (At script prefix)) whole_log
  reaches = history_grows script records sound run.legal

  -- the ground holds on the way
  grounds : (prefix later : List Record) → records ≡ prefix ++ later → AreGrounded of_run (state_after script.servers whole_log) (At script prefix) later
  grounds prefix [] is =
      (footing_after (run_of script sound prefix (before_part script prefix [] (subst (AreSteps script) is run.legal))) whole_log plain
      (reaches prefix [] is)).footing.ground
  grounds prefix (own ∷ later) is =
      let it = at_moment run (record { prefix = prefix; own = own; following = later; is = is }) in (
        (footing_after it.prior whole_log plain (reaches prefix (own ∷ later) is)).footing.ground,
        grown_then it,
        subst (λ v. AreGrounded of_run (state_after script.servers whole_log) v later) (stepped_in it)
            (grounds (prefix ++ own ∷ []) later (is ∙ sym (append_assoc prefix (own ∷ []) later))),
      )

  abbrev T : Plain → World → Option (List Event) → Type 0
  T = Tells script sound whole_log plain

  abbrev F : World → Plain → Type 0
  F w m = Follow of_run (rows_in of_run w) w m

  -- what one of the records tells
  tells_at : (at : IsMoment records) (m : Plain) → F (At script at.prefix) m
      → T m (stepped of_run (At script at.prefix) at.own).world (events_at of_run (At script at.prefix) at.own at.following)
  tells_at at m follow =
      let it = at_moment run at in
      let w = after it.prior in
      let v = (stepped of_run w at.own).world in
      let before = reaches at.prefix (at.own ∷ at.following) at.is in
      let is = at.is ∙ sym (append_assoc at.prefix (at.own ∷ []) at.following) in
      let then = reaches (longer it).records at.following is in
      let on = footed_on it whole_log plain then (footing_after it.prior) in
      record_tells script sound whole_log plain w m (along_at script sound whole_log plain w (firm_in it.prior) before)
      (footing_after it.prior whole_log plain before).footing.ground follow at.own at.following (follows_in it)
      (along_at script sound whole_log plain v (firm_then it) (subst (λ u. IsPrefix (chosen_log of_run u) whole_log) (stepped_in it) then)) (grown_then it)
      on.footing.ground on.middle
      (subst (λ u. AreGrounded of_run (state_after script.servers whole_log) u at.following) (stepped_in it) (grounds (longer it).records at.following is))
      (prefix_legal of_run (start of_run) at.prefix (at.own ∷ at.following) (subst (AreSteps script) at.is run.legal)).1.1

  -- and all that follow these
  tells_from : (prefix later : List Record) → records ≡ prefix ++ later → (m : Plain) → F (At script prefix) m
      → T m (after run) (events_from of_run (At script prefix) later)
  tells_from prefix [] is m follow =
      record { es = []; is = refl; may = tt; follows = subst (λ rs. F (At script rs) m) (sym (is ∙ append-nil prefix)) follow }
  tells_from prefix (own ∷ later) is m follow =
      let at : IsMoment records = record { prefix = prefix; own = own; following = later; is = is } in
      let e = stepped_in (at_moment run at) in
      let now = tells_at at m follow in
      let rest = tells_from (prefix ++ own ∷ []) later (is ∙ sym (append_assoc prefix (own ∷ []) later)) (replay m now.es)
      (subst (λ v. F v (replay m now.es)) (sym e) now.follows) in
      let rest_is = subst (λ v. events_from of_run v later ≡ Some rest.es) e rest.is in
      record {
        es = now.es ++ rest.es;
        is = (λ i. joined (now.is i) (rest_is i));
        may = Obeys-append m now.es rest.es now.may rest.may;
        follows = subst (F (after run)) (sym (replay-append m now.es rest.es)) rest.follows;
      }

pub history_tells : (run : Run)
    → Tells run.script run.sound (whole_log run) (plain run) blank (after run) (events_of run.script run.records)
history_tells run = tells_from run [] run.records refl blank (start_follow run.script)

on_the_way : (run : Run) (prefix later : List Record) → run.records ≡ prefix ++ later → IsOnTheWay (setting_in run) (At run.script prefix) (after run)
on_the_way run prefix later is =
    let first = history_tells (run_of run.script run.sound prefix (before_part run.script prefix later (subst (AreSteps run.script) is run.legal))) in
    let rest = tells_from run prefix later is (replay blank first.es) first.follows in
    record { m = replay blank first.es; then = first.follows; es = rest.es; now = rest.follows }

-- ### The law

pub run_after : (run : Run) → IsRunOf (events_of run.script run.records)
run_after run = let tells = history_tells run in subst IsRunOf (sym tells.is) tells.may

pub held_after : (run : Run) → AreHeld (setting_in run) (after run) (machine_after (events_of run.script run.records)).disks
held_after run =
    let tells = history_tells run in
    let stores = tells.follows.stores in
    subst (λ o. AreHeld (setting_in run) (after run) (machine_after o).disks) (sym tells.is) (record { known = stores.known; unknown = stores.unknown })

-- snapshots never change on the way
snapshots_after : (script : Script) (records : List Record) → IsSound script → AreSteps script records → SnapshotsStay script records
snapshots_after script records sound legal prefix suffix is =
    let run = run_of script sound records legal in
    let way = on_the_way run prefix suffix is in
    contents_still (record {
      setting = setting_of script;
      w = At script prefix;
      v = after run;
      one = firm_in (run_of script sound prefix (before_part script prefix suffix (subst (AreSteps script) is legal)));
      two = firm_in run;
      grows = history_grows script records sound legal prefix suffix is;
      m = way.m;
      es = way.es;
      was = way.then.stores;
      now = way.now.stores;
    })

pub law : Law
law script records sound legal = record {
  world = record {
    agrees = history_agrees script records sound legal;
    copies = copies_after script records sound legal;
    covered = covered_after script records sound legal;
    empty = λ n fresh. let e = always_empty script records sound legal n fresh in (e.chains, e.marks);
    requests = requests_after script records sound legal;
    moves = rule_after script records sound legal;
    stopped = out_has_stopped script records sound legal;
    caught = caught_up_after script records sound legal;
  };
  grows = history_grows script records sound legal;
  marks = marks_first script records sound legal;
  run = run_after (run_of script sound records legal);
  holds = held_after (run_of script sound records legal);
  snapshots = snapshots_after script records sound legal;
  equal = equal_after script records sound legal;
  waiting = waiting_after script records sound legal;
  reports = reports_hold script records sound legal;
}
