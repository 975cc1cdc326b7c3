-- Over every legal history, each answer that there was no space has a reason.
use Rattle.law_answers.proofs.Imports.{[], if◌then◌else◌, ◌++◌, ◌∙◌, ◌∷◌, ◌≡◌, ◌⊎◌, Actor, Asked, Begins, Blanks_it, Bool, Ends, Fails_it, Goes_on}
use Rattle.law_answers.proofs.Imports.{Has_no_space, Heard, In, IsSeenAs, Is_settled, Is_told, Judges, Letter, List, MayActor, OneMore, Reaction, Reads}
use Rattle.law_answers.proofs.Imports.{Record, Run, Script, Setting, Shown, Sight, Some, Starts_it, State, Step, Stops_at, Stops_it, Turned, World, after, ap}
use Rattle.law_answers.proofs.Imports.{at-empty, at_moment, by_run, cell_cmp, client_state, client_step, client_turns, false, firm_in, firm_then, follows_in}
use Rattle.law_answers.proofs.Imports.{grown_then, inl, inr, is_call, last_moment, longer, moment_more, nat_cmp, next_line, none_some, one_client, refl}
use Rattle.law_answers.proofs.Imports.{rests_in, setting_in, setting_of, start, stays, step, stepped_in, subst, sym, true, true_false, world_after, ℕ}
use Rattle.law_answers.proofs.AnswersFitRequests.{is_of_entry, reason_told}
use Rattle.law_answers.proofs.AnsweredOnce.{pair_is}
use Rattle.law_answers.proofs.SettlesAreAnswered.{shows}
use Rattle.law_answers.specs.Refusals.{HadNoSlot, WasRefused, HasReason, Refusals}
use Rattle.law_answers.specs.FullCauses.{HasFullServer}
use Rattle.law_answers.proofs.NoSlotWasReported.{found_none}
use Rattle.law_answers.proofs.StepRefusals.{step_kept}
use Rattle.petal_msg.specs.declared.body.Body.TheVariants as body
use Rattle.petal_msg.specs.declared.letter.Actor.TheVariants as actor
use Rattle.petal_msg.specs.declared.operation.Ending.TheVariants as ending
use Rattle.script_lines.specs.declared.answer.Answer.TheVariants as answer
use Rattle.script_lines.specs.declared.request.Request.TheVariants as request

module _ (setting : Setting) where
  -- ### Histories

  abbrev W : List Record → World
  W records = world_after setting (start setting) records

  refused_more : (done : List Record) (own : Record) (c seq : ℕ) → WasRefused setting done c seq → WasRefused setting (done ++ own ∷ []) c seq
  refused_more done own c seq r = record { moment = moment_more done own r.moment; reason = r.reason }

  refused_now : (done : List Record) (own : Record) (c seq : ℕ) → HadNoSlot setting (W done) own.actor own.step c seq
      → WasRefused setting (done ++ own ∷ []) c seq
  refused_now done own c seq h = record { moment = last_moment done own; reason = h }

  -- ### A refused write

  -- the client heard of a glance of its settle that found a server without a slot
  record HeardSight (w : World) (c : ℕ) (asked : Asked) : Type 0 where
    settles : asked.request ≡ request.Settle
    rev : ℕ
    sight : Sight
    heard : Heard w (actor.Client c) rev (body.Seen asked.line sight.round sight.running sight.inc sight.full)
    full : sight.full ≡ true

  -- a client that answers so heard of it
  record HeardFull (w : World) (c number : ℕ) : Type 0 where
    asked : Asked
    is : (w.clients c).asked ≡ Some asked
    line : asked.line ≡ number
    heard : Heard w (actor.Client c) asked.rev (body.Full asked.seq) ⊎ HeardSight w c asked

  runs_spaced : (running : Bool) → answer.NoSpace ≡ (if running then answer.Ok else answer.Failed) → ⊥
  runs_spaced true e = let g : answer.NoSpace ≡ answer.Ok = e in cc
  runs_spaced false e = let g : answer.NoSpace ≡ answer.Failed = e in cc

  -- a glance tells a settle alone of a want of slots
  sight_spaced : (state : State) (asked : Asked) (sight : Sight) → IsSeenAs state asked sight answer.NoSpace
      → (asked.request ≡ request.Settle) × (sight.full ≡ true)
  sight_spaced state asked sight (Stops_it server is e) = absurd (let g : answer.NoSpace ≡ answer.Ok = e in cc)
  sight_spaced state asked sight (Stops_at server at is e) = absurd (let g : answer.NoSpace ≡ answer.Ok = e in cc)
  sight_spaced state asked sight (Fails_it server which kind at is e) = absurd (let g : answer.NoSpace ≡ answer.Ok = e in cc)
  sight_spaced state asked sight (Starts_it server is e) = absurd (runs_spaced sight.running e)
  sight_spaced state asked sight (Blanks_it server is e) = absurd (runs_spaced sight.running e)
  sight_spaced state asked sight (Has_no_space is full e) = (is, full)
  sight_spaced state asked sight (Is_settled is round seen all e) = absurd (let g : answer.NoSpace ≡ answer.Ok = e in cc)

  heard_full : (w : World) (c : ℕ) (in_call : Bool) (reacted : Reaction)
      → Turned (Heard w (actor.Client c)) setting.servers setting.lines c (w.clients c) in_call reacted → (number : ℕ)
      → reacted.answer ≡ Some (number, answer.NoSpace) → HeardFull w c number
  heard_full w c _ _ (Goes_on reacted seq stays only) number e = none_some only.unanswered e
  heard_full w c _ _ (Is_told reacted asked h is reads seq stays only) number e = none_some only.unanswered e
  heard_full w c _ _ (Begins reacted line asked is free seq there called only) number e = none_some only.unanswered e
  heard_full w c _ _ (Reads asked bytes h is reads) number e = absurd (let g : answer.Data bytes ≡ answer.NoSpace = (pair_is e).1 in cc)
  heard_full w c _ _ (Ends asked ending.Written h is writes) number e = absurd (let g : answer.Ok ≡ answer.NoSpace = (pair_is e).1 in cc)
  heard_full w c _ _ (Ends asked ending.Full h is writes) number e = record { asked = asked; is = is; line = (pair_is e).0; heard = inl h }
  heard_full w c _ _ (Shown asked rev sight given h is seen) number e =
      let why = sight_spaced _ asked sight (subst (IsSeenAs _ asked sight) (pair_is e).1 seen) in
      record {
        asked = asked;
        is = is;
        line = (pair_is e).0;
        heard = inr (record { settles = why.0; rev = rev; sight = sight; heard = h; full = why.1 });
      }
  heard_full w c _ _ (Judges after asked given is gone seq judged) number e =
      true_false (reason_told c asked given _ judged.entry judged.reason) (ap is_of_entry (pair_is e).1)

  answer_heard : (w : World) → (who : Actor) (what : Step) (stamp c number : ℕ) → who ≡ actor.Client c → MayActor who what setting w
      → (step who what setting w stamp).answer ≡ Some (number, answer.NoSpace) → HeardFull w c number
  unfolding step
  answer_heard w (actor.Server n) what stamp c number e may given = none_some refl given
  answer_heard w (actor.Client d) what stamp c number e may given =
      subst (λ i. HeardFull w i number) (one_client e)
      (heard_full w d (is_call what) (client_step what (client_state setting w d) d (w.clients d) (next_line setting.lines d (w.clients d)))
      (client_turns setting w d what may.1).turned number given)

-- ### From the start

start_refusals : (R : ℕ → ℕ → Type 0) (script : Script) → Refusals R (setting_of script) (start (setting_of script))
unfolding In
start_refusals R script = record {
  letters = λ letter c seq h to says. absurd h;
  finished = λ n c last runs is how. none_some (at-empty nat_cmp c) is;
  numbered = λ n cell op is. none_some (at-empty cell_cmp cell) is;
  reserves = λ letter number cell h says. absurd h;
  declined = λ letter number cell h says. absurd h;
}

-- what is kept of refusals, where each was made by one of the run's records
abbrev AreRefused : Run → Type 0
AreRefused run = Refusals (WasRefused (setting_in run) run.records) (setting_in run) (after run)

refused_next : (it : OneMore) → AreRefused it.prior → AreRefused (longer it)
refused_next it old =
    let setting = setting_in it.prior in
    let w = after it.prior in
    let done = it.prior.records in
    let e = stepped_in it in
    subst (Refusals (WasRefused setting (longer it).records) setting) (sym e)
    (step_kept setting (WasRefused setting done) (WasRefused setting (longer it).records) w (firm_in it.prior) (rests_in it.prior) it.own.actor it.own.step
    it.own.stamp (follows_in it).may.may (firm_then it) (grown_then it)
    (refused_more setting done it.own) (refused_now setting done it.own) old)

are_refused : (run : Run) → AreRefused run
are_refused = by_run AreRefused (λ script sound legal. start_refusals (WasRefused (setting_of script) []) script) refused_next

-- a glance that showed a want of slots, and what was so before it
full_copy : (run : Run) (letter : Letter) (line round : ℕ) (running : Bool) (inc : ℕ) (full : Bool) → In letter (after run).sent
    → letter.body ≡ body.Seen line round running inc full → full ≡ true → HasFullServer (setting_in run) run.records line
full_copy run letter line round running inc full h says so =
    let found = (shows run letter line round running inc full h says).found_full so in
    record { found = found; full = found_none (at_moment run found.at.moment).prior found.server found.runs found.full }

pub no_space_reason : (it : OneMore) (client line : ℕ) → it.own.actor ≡ actor.Client client → it.own.answer ≡ Some (line, answer.NoSpace)
    → HasReason (setting_in it.prior) it.prior.records client line
no_space_reason it client line who given =
    let setting = setting_in it.prior in
    let follows = follows_in it in
    let h = answer_heard setting (after it.prior) it.own.actor it.own.step it.own.stamp client line who follows.may.may (sym follows.answer ∙ given) in
    record {
      opened = record { asked = h.asked; is = h.is; number = h.line };
      refused = elim h.heard [
        | inl full ↦ inl ((are_refused it.prior).letters full.letter client h.asked.seq full.sent full.own full.is)
        | inr seen ↦ inr (
          seen.settles,
          subst (HasFullServer setting it.prior.records) h.line
              (full_copy it.prior seen.heard.letter h.asked.line seen.sight.round seen.sight.running seen.sight.inc seen.sight.full seen.heard.sent
              seen.heard.is seen.full),
        )
      ];
    }
