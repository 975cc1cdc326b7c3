-- The laws, over every legal history of a sound script.
use Rattle.law_log.proofs.Imports.{[], ◌++◌, ◌<◌, ◌∙◌, ◌∷◌, ◌≡◌, ◌≤◌, ◌⊎◌, Agrees, AreSteps, AreStepsFrom, Bool, Caught, Command, Drained, Firm, Grows}
use Rattle.law_log.proofs.Imports.{HasSchedule, IsPrefix, IsSound, Join, Leave, Letter, List, Moved, Record, Script, Server, Setting, ap, append_assoc, begin}
use Rattle.law_log.proofs.Imports.{chosen_log, chosen_state, false, inc_of, is_in, may_join, refl, run, setting_of, slice_get, start, state_after, stepped}
use Rattle.law_log.proofs.Imports.{steps_begin, subst, sym, true, world_after, ℕ, ⊤}
use Rattle.spec_rules.specs.Lists.{In}
use Rattle.spec_rules.specs.World.{World}
use Rattle.law_log.specs.AgreedLog.{Catches, Drains, IsBacked, IsCalledAnywhere, IsSaidBy, Logged, Minded, Moves, Waits}
use Rattle.law_log.specs.ProposedCommands.{HasBegun, HasStopped, IsCalledFor, IsCaughtAt, IsReportAt, WasDraining, WasMoving, WasReturning, WasRunning}
use Rattle.law_log.specs.ProposedCommands.{WasStarted, WasWanted}
use Rattle.law_log.proofs.ChosenInSchedules.{agrees, caught_at, caught_was, firm, called_for, join_at, join_chosen, join_waited, moved_was, report_at}
use Rattle.law_log.proofs.ChosenInSchedules.{report_was, in_begun, leave_chosen, out_stopped, runs_in, has_schedule, grown_log}
use Rattle.law_log.proofs.OneCommandEachPlace.{IsFair, leave_stopped}
use Rattle.law_log.proofs.StepsKeepLog.{history_goes, start_logged}
use Rattle.law_log.proofs.ServersKeepWorlds.{Remembers}
use Rattle.petal_msg.specs.declared.body.Body.TheVariants as body

sound_fair : (script : Script) → IsSound script → IsFair (setting_of script)
sound_fair script sound = record { small = sound.told_apart; spread = sound.spread; moved = sound.moved }

abbrev At : Script → List Record → World
At script records = world_after (setting_of script) (start (setting_of script)) records

-- what is remembered is what was so in a world on the way
abbrev pub Past : Script → List Record → Minded
Past script records server inc prefix (Catches id) = WasStarted (setting_of script) records server inc prefix id
Past script records server inc prefix (Waits blank) = WasReturning (setting_of script) records server inc blank
Past script records server inc prefix Drains = WasDraining (setting_of script) records server inc prefix
Past script records server inc prefix (Moves of region link) = WasMoving (setting_of script) records prefix of region link

-- a server that runs at a prefix of the records
abbrev ran_so : (script : Script) (records before : List Record) (own : Record) (later : List Record) → records ≡ before ++ own ∷ later → (n : ℕ)
    → ((At script before).servers n).life.running ≡ true
    → WasRunning (setting_of script) records n ((At script before).servers n).life.inc
ran_so script records before own later is n runs = record { before = before; own = own; later = later; is = is; lives = refl; runs = runs }

pub logged : (script : Script) (records : List Record) → IsSound script → AreSteps script records
    → Logged (Past script records) (setting_of script) (At script records)
logged script records sound legal =
    (history_goes (setting_of script) (sound_fair script sound) records (start (setting_of script)) (start_logged (setting_of script)) legal
    (λ before own later is n. record {
      waits = λ runs. record { ran = ran_so script records before own later is n runs; waits = refl };
      drains = λ runs drained. record { ran = ran_so script records before own later is n runs; at = refl; drained = drained };
      moves = λ runs row region moved. record {
        moving = record {
          server = n;
          inc = ((At script before).servers n).life.inc;
          seated = moved.seated;
          row = row;
          linked = moved.linked;
          moves = moved.moves;
        };
        ran = ran_so script records before own later is n runs;
        at = refl;
        left = moved.left;
      };
      catches = λ id minded. record {
        before = before ++ own ∷ [];
        later = later;
        is = is ∙ sym (append_assoc before (own ∷ []) later);
        lives = refl;
        at = refl;
        minded = minded;
      };
    })).logged

pub history_agrees : (script : Script) (records : List Record) → IsSound script → AreSteps script records → Agrees (setting_of script) (At script records)
history_agrees script records sound legal = agrees (setting_of script) (At script records) (sound_fair script sound) (logged script records sound legal)

pub history_is_firm : (script : Script) (records : List Record) → IsSound script → AreSteps script records → Firm (setting_of script) (At script records)
history_is_firm script records sound legal = firm (setting_of script) (At script records) (sound_fair script sound) (logged script records sound legal)

pub history_has_schedule : (script : Script) (records : List Record) → IsSound script → AreSteps script records → HasSchedule script.servers (At script records)
history_has_schedule script records sound legal = has_schedule (setting_of script) (At script records) (sound_fair script sound)
    (logged script records sound legal)

pub chosen_is_called_for : (script : Script) (records : List Record) → IsSound script → AreSteps script records → (command : Command)
    → In command (chosen_log (setting_of script) (At script records))
    → IsCalledFor (setting_of script) (At script records) command ⊎ WasWanted (setting_of script) (At script records) command
chosen_is_called_for script records sound legal command i =
    called_for (setting_of script) (At script records) (sound_fair script sound) (logged script records sound legal) command i

-- a Caught that is chosen acts after the entries before it, and its holder started the ballot there
pub chosen_caught : (script : Script) (records : List Record) → IsSound script → AreSteps script records → (prefix : List Command)
    (of link holder inc other other_inc : ℕ)
    → IsPrefix (prefix ++ Caught of link holder inc other other_inc ∷ []) (chosen_log (setting_of script) (At script records))
    → IsCaughtAt script.servers (At script records).servers prefix of link holder inc other other_inc
chosen_caught script records sound legal prefix of link holder inc other other_inc is_prefix =
    caught_at (setting_of script) (At script records) (sound_fair script sound)
    (logged script records sound legal) prefix of link holder inc other other_inc is_prefix

-- and its holder had it in mind there, on the way
pub chosen_caught_was : (script : Script) (records : List Record) → IsSound script → AreSteps script records → (prefix : List Command)
    (of link holder inc other other_inc : ℕ)
    → IsPrefix (prefix ++ Caught of link holder inc other other_inc ∷ []) (chosen_log (setting_of script) (At script records))
    → WasStarted (setting_of script) records holder inc prefix (record { map = of; link = link })
chosen_caught_was script records sound legal prefix of link holder inc other other_inc is_prefix =
    caught_was (setting_of script) (At script records) (sound_fair script sound) (logged script records sound legal)
    prefix of link holder inc other other_inc is_prefix

-- a report that is chosen counts there
pub report_counts : (script : Script) (records : List Record) → IsSound script → AreSteps script records → (prefix : List Command)
    (server inc fence : ℕ) → IsPrefix (prefix ++ Drained server inc fence ∷ []) (chosen_log (setting_of script) (At script records))
    → IsReportAt script.servers prefix server inc fence
report_counts script records sound legal prefix server inc fence is_prefix =
    report_at (setting_of script) (At script records) (sound_fair script sound) (logged script records sound legal) prefix server inc fence is_prefix

-- and its server had drained, on the way
pub report_was_made : (script : Script) (records : List Record) → IsSound script → AreSteps script records → (prefix : List Command)
    (server inc fence : ℕ) → IsPrefix (prefix ++ Drained server inc fence ∷ []) (chosen_log (setting_of script) (At script records))
    → WasDraining (setting_of script) records server inc prefix
report_was_made script records sound legal prefix server inc fence is_prefix =
    report_was (setting_of script) (At script records) (sound_fair script sound) (logged script records sound legal) prefix server inc fence is_prefix

-- a Moved that is chosen was wanted, on the way, of a server that had nothing left to move
pub moved_was_wanted : (script : Script) (records : List Record) → IsSound script → AreSteps script records → (prefix : List Command)
    (of region link : ℕ) → IsPrefix (prefix ++ Moved of region link ∷ []) (chosen_log (setting_of script) (At script records))
    → WasMoving (setting_of script) records prefix of region link
moved_was_wanted script records sound legal prefix of region link is_prefix =
    (moved_was (setting_of script) (At script records) (sound_fair script sound) (logged script records sound legal) prefix of region link is_prefix).2

-- a Join that is chosen acts there, and was wanted on the way
pub chosen_join_acts : (script : Script) (records : List Record) → IsSound script → AreSteps script records → (prefix : List Command) (server inc : ℕ)
    (blank : Bool) → IsPrefix (prefix ++ Join server inc blank ∷ []) (chosen_log (setting_of script) (At script records))
    → may_join (slice_get (state_after script.servers prefix).view.members server) inc ≡ true
chosen_join_acts script records sound legal prefix server inc blank is_prefix =
    (join_at (setting_of script) (At script records) (sound_fair script sound) (logged script records sound legal) prefix server inc blank is_prefix).may

pub join_was_wanted : (script : Script) (records : List Record) → IsSound script → AreSteps script records → (server inc : ℕ) (blank : Bool)
    → In (Join server inc blank) (chosen_log (setting_of script) (At script records)) → WasReturning (setting_of script) records server inc blank
join_was_wanted script records sound legal server inc blank i =
    (join_waited (setting_of script) (At script records) (sound_fair script sound) (logged script records sound legal) server inc blank i).1

pub join_has_begun : (script : Script) (records : List Record) → IsSound script → AreSteps script records → (server inc : ℕ) (blank : Bool)
    → In (Join server inc blank) (chosen_log (setting_of script) (At script records)) → HasBegun (At script records) server inc
join_has_begun script records sound legal server inc blank i =
    join_chosen (setting_of script) (At script records) (sound_fair script sound) (logged script records sound legal) server inc blank i

-- a server that runs, and was In as itself, is so by the chosen state
pub who_runs_is_in : (script : Script) (records : List Record) → IsSound script → AreSteps script records → (n : ℕ) (prefix : List Command)
    → ((At script records).servers n).life.running ≡ true → IsPrefix prefix (chosen_log (setting_of script) (At script records))
    → is_in (state_after script.servers prefix) n ((At script records).servers n).life.inc ≡ true
    → is_in (chosen_state (setting_of script) (At script records)) n ((At script records).servers n).life.inc ≡ true
who_runs_is_in script records sound legal n prefix runs is_prefix was =
    runs_in (setting_of script) (At script records) (sound_fair script sound) (logged script records sound legal) n prefix runs is_prefix was

pub out_has_stopped : (script : Script) (records : List Record) → IsSound script → AreSteps script records → (n inc : ℕ) (prefix : List Command)
    → IsPrefix prefix (chosen_log (setting_of script) (At script records)) → is_in (state_after script.servers prefix) n inc ≡ true
    → is_in (chosen_state (setting_of script) (At script records)) n inc ≡ false → HasStopped (At script records) n inc
out_has_stopped script records sound legal n inc prefix is_prefix was out =
    out_stopped (setting_of script) (At script records) (sound_fair script sound) (logged script records sound legal) n inc prefix is_prefix was out

-- who is In has begun
pub who_is_in_has_begun : (script : Script) (records : List Record) → IsSound script → AreSteps script records → (n inc : ℕ)
    → is_in (chosen_state (setting_of script) (At script records)) n inc ≡ true → HasBegun (At script records) n inc
who_is_in_has_begun script records sound legal n inc is =
    in_begun (setting_of script) (At script records) (sound_fair script sound) (logged script records sound legal) n inc is

pub who_runs_is_one : (script : Script) (records : List Record) → IsSound script → AreSteps script records → (n : ℕ)
    → ((At script records).servers n).life.running ≡ true → n < script.servers
who_runs_is_one script records sound legal n runs = (logged script records sound legal).is.known n runs

-- who has a Leave chosen, or of whom a Down tells, has stopped
pub chosen_leaves : (script : Script) (records : List Record) → IsSound script → AreSteps script records → (server inc : ℕ)
    → In (Leave server inc) (chosen_log (setting_of script) (At script records)) → HasStopped (At script records) server inc
chosen_leaves script records sound legal server inc i =
    leave_chosen (setting_of script) (At script records) (sound_fair script sound) (logged script records sound legal) server inc i

pub told_stops : (script : Script) (records : List Record) → IsSound script → AreSteps script records → (letter : Letter) (server inc : ℕ)
    → In letter (At script records).sent → letter.body ≡ body.Down server inc → HasStopped (At script records) server inc
told_stops script records sound legal letter server inc i is =
    let l = logged script records sound legal in
    let p = run script.servers l.events begin in
    leave_stopped (setting_of script) (At script records) server inc
    (subst (IsBacked p (IsCalledAnywhere (setting_of script) (At script records)) (IsSaidBy p letter.from)) is (l.is.sent letter i)).0

-- incarnations count from 1, and a server's is the one on its device
pub first_incs : (script : Script) (records : List Record) → IsSound script → AreSteps script records → (n : ℕ)
    → 1 ≤ ((At script records).servers n).life.inc
first_incs script records sound legal n = (logged script records sound legal).is.first n

pub kept_incs : (script : Script) (records : List Record) → IsSound script → AreSteps script records → (n : ℕ)
    → inc_of ((At script records).servers n).log.records ≡ ((At script records).servers n).life.inc
kept_incs script records sound legal n = (logged script records sound legal).is.incs n

-- ### A longer history

pub world_joins : (setting : Setting) (w : World) (prefix suffix : List Record)
    → world_after setting w (prefix ++ suffix) ≡ world_after setting (world_after setting w prefix) suffix
world_joins setting w [] suffix = refl
world_joins setting w (own ∷ prefix) suffix = world_joins setting (stepped setting w own).world prefix suffix

pub latter : (setting : Setting) (w : World) (prefix suffix : List Record) → AreStepsFrom setting w (prefix ++ suffix)
    → AreStepsFrom setting (world_after setting w prefix) suffix
latter setting w [] suffix h = h
latter setting w (own ∷ prefix) suffix h = latter setting (stepped setting w own).world prefix suffix h.1

-- nothing need be remembered
abbrev nothing_minded : Minded
nothing_minded server inc prefix mind = ⊤

nothing_remembered : (servers n : ℕ) (before later : Server) → Remembers nothing_minded servers n before later
nothing_remembered servers n before later =
    record { waits = λ runs. tt; drains = λ runs drained. tt; moves = λ runs row region moved. tt; catches = λ id minded. tt }

pub history_grows : (script : Script) (records : List Record) → IsSound script → AreSteps script records → Grows script records
history_grows script records sound legal prefix suffix is =
    let setting = setting_of script in
    let fair = sound_fair script sound in
    let whole : AreStepsFrom setting (start setting) (prefix ++ suffix) = subst (AreStepsFrom setting (start setting)) is legal in
    let earlier = history_goes {Was = nothing_minded} setting fair prefix (start setting) (start_logged setting)
    (steps_begin setting (start setting) prefix suffix whole) (λ before own later split n. nothing_remembered setting.servers n _ _) in
    let rest = history_goes {Was = nothing_minded} setting fair suffix (At script prefix) earlier.logged
    (latter setting (start setting) prefix suffix whole) (λ before own later split n. nothing_remembered setting.servers n _ _) in
    let grown = grown_log setting (At script prefix) (world_after setting (At script prefix) suffix) fair rest.logged rest.grown in
    let same : world_after setting (At script prefix) suffix ≡ At script records =
    sym (ap (world_after setting (start setting)) is ∙ world_joins setting (start setting) prefix suffix) in
    subst (λ w. IsPrefix (chosen_log setting (At script prefix)) (chosen_log setting w)) same grown
