-- One record more: where it comes next by the front, it is joined to those before it, and what it leaves is the front of the world after it.
use Rattle.std.proofs.Common.{◌≡◌, ℕ, suc, ◌+◌, ◌≤◌, List, [], ◌∷◌, ◌++◌, Some, refl, sym, ap, ◌∙◌, subst, length, get_or}
use Rattle.std.proofs.Math.Seq.{split_at}
use Rattle.std.proofs.lemmas.List.{take_all, take_more}
use Rattle.std.proofs.lemmas.Option.{get_or_from_slice_get, slice_get_within}
use Rattle.std.specs.Prelude.{drop, slice_get, take}
use Rattle.petal_msg.specs.declared.letter.Actor.{Actor}
use Rattle.petal_msg.specs.declared.letter.Actor.TheVariants as actor
use Rattle.script_lines.specs.declared.script.Script.{Script}
use Rattle.spec_rules.specs.World.{MayStep, Setting, World, setting_of, start}
unfoldable use Rattle.spec_rules.specs.World.{step}
use Rattle.spec_rules.specs.declared.step.Step.{Step}
use Rattle.spec_rules.specs.declared.step.Step.TheVariants.{Deliver}
use Rattle.spec_history.proofs.Onwards.{errand_more, steps_more}
use Rattle.spec_history.specs.Controls.{Errand, Obeys, ObeysAs, errand_after, no_errand}
use Rattle.spec_history.specs.Steps.{stepped}
use Rattle.spec_history.specs.declared.record.Record.{Record}
use Rattle.server_host.specs.Playable.{AreOrdered}
use Rattle.law_merge.proofs.OwnStepsFollow.{AreAlone, alone_after, follows, own_client, own_server}
use Rattle.law_merge.proofs.RecordedLetters.{sent_by}
use Rattle.law_merge.proofs.RecordsGrow.{joined_more}
use Rattle.law_merge.specs.Joined.{AreJoinedIn, IsAmongOthers, IsJoined, WasSent}
use Rattle.petal_world.proofs.Playing.{after_more}
use Rattle.history_merge.specs.declared.front.Front.{Front}
use Rattle.history_merge.specs.Fronts.{ComesFrom, HasOrder, IsAdmitted, IsAdmittedAs, IsFrontOf, IsSoFar, Shows, errand_in, front_after, runs_in, world_of}
use Rattle.history_merge.specs.Runs.{AreOwn}
use Rattle.history_merge.proofs.Coming.{after_so, obeys_so, turn_so}
use Rattle.history_merge.proofs.Following.{after_client, after_server, front_by, tells_so}

module _ (script : Script) (ordered : AreOrdered script.lines) (past : List Record) (own : Record) (later : List Record) (front : Front)
    (before : IsFrontOf script past front) (alone : AreAlone (setting_of script) (world_of script past) (own ∷ later))
    (admitted : IsAdmitted front script.servers past own) where
  abbrev setting : Setting
  setting = setting_of script

  abbrev w : World
  w = world_of script past

  abbrev errand : Errand
  errand = errand_in script past

  was_sent : (what : Step) → ComesFrom what past → WasSent w what
  was_sent (Deliver letter) from = sent_by setting (start setting) past before.steps from.own from.there letter from.sent
  was_sent _ from = tt

  abbrev Taken : Actor → Type 0
  Taken who = IsJoined setting w errand own
      × Shows setting (step who own.step setting w own.stamp).world (errand_after who own.step setting w errand) (front_by who own front)

  taken : (who : Actor) → own.actor ≡ who → Taken who
  taken (actor.Server n) is =
      let next = (own_server setting n w own later is alone).0 in
      let told = runs_in own.step own.sent in
      let tells = tells_so setting n own.stamp (w.servers n) own.step own.sent next.may next.sent in
      let turn = subst (λ a. IsAdmittedAs a front script.servers own) is admitted.turn in (
        record {
          sent = was_sent own.step admitted.comes;
          others = subst (λ a. IsAmongOthers a own.step setting w) (sym is)
              (turn.0, turn_so setting w errand front before.shows own.step n told tells turn.1);
          obeys = subst (λ a. Obeys a own.step w errand) (sym is)
              (subst (λ e. ObeysAs own.step e n (w.servers n).life.running) before.shows.errand_is
              (obeys_so own.step front.errand n told (w.servers n).life.running tells turn.2));
        },
        after_server setting w errand front before.shows own n tells turn.2 next.answer,
      )
  taken (actor.Client c) is =
      let next = (own_client setting c w own later is alone).0 in
      let turn = subst (λ a. IsAdmittedAs a front script.servers own) is admitted.turn in
      let joined : IsJoined setting w errand own = record {
        sent = was_sent own.step admitted.comes;
        others = subst (λ a. IsAmongOthers a own.step setting w) (sym is)
            (turn.0, after_so setting w errand front before.shows ordered own.step c own.phase next.phase turn.1);
        obeys = subst (λ a. Obeys a own.step w errand) (sym is) tt;
      } in
      let may = subst (λ a. MayStep setting w a own.step) is (follows setting own.actor w own later refl alone joined).may in
      (joined, after_client setting w errand front before.shows own c may.may.1 next.answer)

  pub one_more : IsFrontOf script (past ++ own ∷ []) (front_after own front)
  one_more =
      let now = taken own.actor refl in
      record {
        steps = steps_more setting (start setting) past own before.steps (follows setting own.actor w own later refl alone now.0);
        joined = joined_more setting (start setting) no_errand past own before.joined now.0;
        shows = subst (λ u. Shows setting u (errand_in script (past ++ own ∷ [])) (front_after own front)) (sym (after_more setting past (start setting) own))
            (subst (λ e. Shows setting (stepped setting w own).world e (front_after own front))
            (sym (errand_more setting (start setting) no_errand past own)) now.1);
      }

-- the operator has a line to call where it calls one
pub has_order : (who : Actor) (front : Front) (servers : ℕ) (own : Record) → IsAdmittedAs who front servers own → HasOrder who own.step front
has_order (actor.Server n) front servers own h = λ e. absurd (let k : ⊥ = cc in k)
has_order (actor.Client c) front servers own h = h.2

pub goes_on : (script : Script) (records : List Record) (place : ℕ) (own : Record) (front : Front) → AreOrdered script.lines
    → slice_get records place ≡ Some own → IsAdmitted front script.servers (take place records) own → IsSoFar script records place front
    → IsSoFar script records (place + 1) (front_after own front)
goes_on script records place own front ordered at admitted so_far are_own =
    let setting = setting_of script in
    let past = take place records in
    let later = drop (suc place) records in
    let here : get_or records place own ≡ own = get_or_from_slice_get records place own own at in
    let within = slice_get_within records place own at in
    let split : records ≡ past ++ own ∷ later = split_at records place own within ∙ ap (λ x. past ++ x ∷ later) here in
    let alone = alone_after setting (start setting) past (own ∷ later)
    (subst (AreAlone setting (start setting)) split (record { servers = are_own.servers; clients = are_own.clients })) in
    let more : take (place + 1) records ≡ past ++ own ∷ [] =
    take_more records place own within ∙ ap (λ x. past ++ x ∷ []) here in
    subst (λ zs. IsFrontOf script zs (front_after own front)) (sym more)
    (one_more script ordered past own later front (so_far are_own) alone admitted)

-- all records were taken
pub all_taken : (script : Script) (records : List Record) (place : ℕ) (front : Front) → length records ≤ place → IsSoFar script records place front
    → AreOwn script records → AreJoinedIn script records
all_taken script records place front end so_far are_own = subst (AreJoinedIn script) (take_all place records end) (so_far are_own).joined
