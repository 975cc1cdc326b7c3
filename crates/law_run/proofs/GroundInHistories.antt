-- The ground of a legal history is there at its beginning, and each step of it keeps it.
use Rattle.law_run.proofs.Imports.{[], ◌++◌, ◌∙◌, ◌∷◌, ◌≡◌, ◌⊎◌, AllMayWake, AllStarted, AreSteps, AskingAlong, At, Cell, Command, Firm, Follows, Good}
use Rattle.law_run.proofs.Imports.{Happens, HasProperTuples, In, IsGrown, IsOwn, IsPrefix, IsSound, IsSteady, KeepsOn, KnowsReports, List, OneMore, Option}
use Rattle.law_run.proofs.Imports.{PairState, Ready, Record, Run, Script, Setting, Some, State, World, ap, at_by, blank_joins_in, by_run, by_test}
use Rattle.law_run.proofs.Imports.{chosen_caught_was, chosen_log, chosen_state, counted, early_after, firm_in, firm_then, first_lives, follows_in, grown_in}
use Rattle.law_run.proofs.Imports.{grown_then, happens, happens_asking, happens_later, in_counts, in_own, inl, inr, is_at, is_in, lives_after, log_below}
use Rattle.law_run.proofs.Imports.{log_grown, log_plain, log_steady, longer, may_wake, more_lives, none_before_none, none_chosen, none_in, none_some}
use Rattle.law_run.proofs.Imports.{one_more, pending_timely, place_by, place_timely, prefix_on, refl, reports_known, rests_in, rests_next, run_of, same_some}
use Rattle.law_run.proofs.Imports.{second_timely, server_state, setting_in, setting_of, start, start_along, start_asking, start_good, start_lives}
use Rattle.law_run.proofs.Imports.{start_visits, state_after, step_goes, stepped, stepped_in, subst, sym, true, world_after, world_more, ℕ}
use Rattle.law_copies.proofs.VisitsAfterSteps.{seen}
use Rattle.law_jobs.proofs.Runs.{after}
use Rattle.law_run.specs.MachineTies.{Ground, KnowEpochs, KnowMoves}
use Rattle.law_run.proofs.MovesKnown.{moves_known}
use Rattle.law_run.proofs.ChosenDisks.{Along}
use Rattle.law_run.proofs.StepsLeaveServers.{happens_leaves}
use Rattle.law_run.proofs.LetterNames.{happens_named, start_named}
use Rattle.law_run.proofs.OperationsRecalled.{GoesOnFrom, IsVisit, remembered_next}
use Rattle.law_run.proofs.EventsOfServerSteps.{IsMiddle}

-- what is known of epochs after each legal history
epochs_after : (script : Script) (records : List Record) → IsSound script → AreSteps script records
    → KnowEpochs (setting_of script) records (world_after (setting_of script) (start (setting_of script)) records)
epochs_after script records sound legal = record {
  pending = pending_timely script records sound legal;
  place = place_timely script records sound legal;
  second = second_timely script records sound legal;
  early = early_after script records sound legal;
}

module _ (script : Script) (sound : IsSound script) (whole : List Command) (all : HasProperTuples (setting_of script).servers whole) where
  abbrev setting : Setting
  setting = setting_of script

  abbrev state : State
  state = state_after setting.servers whole

  steady : IsSteady state
  steady = log_steady setting.servers whole all

  pub along_at : (w : World) → Firm setting w → IsPrefix (chosen_log setting w) whole → Along setting state w
  along_at w firm prefix = record {
    steady = steady;
    last = log_plain setting.servers whole all;
    firm = firm;
    grown = log_grown setting.servers _ whole all prefix;
    below = log_below setting.servers _ whole all prefix;
  }

  pub grown_at : (w v : World) → Firm setting v → IsPrefix (chosen_log setting w) (chosen_log setting v)
      → IsGrown (chosen_state setting w) (chosen_state setting v)
  grown_at w v firm grows = log_grown setting.servers _ _ firm.plain grows

  -- the ground, with what is known of requests on the way to it
  pub record Footing (w : World) : Type 0 where
    pub ground : Ground setting state w
    pub known : AskingAlong setting ground.records (At script ground.records)
    pub lives_are : ground.lives ≡ known.asks.lives

  -- ### The ground is kept

  module _ (w : World) (own : Record) (footing : Footing w) (legal : AreSteps script (footing.ground.records ++ own ∷ [])) where
    abbrev ground : Ground setting state w
    ground = footing.ground

    abbrev v : World
    v = (stepped setting w own).world

    abbrev records : List Record
    records = ground.records ++ own ∷ []

    then_is : world_after setting (start setting) records ≡ v
    then_is = world_more setting (start setting) ground.records own ∙ ap (λ u. (stepped setting u own).world) ground.come

    -- requests
    abbrev known_next : AskingAlong setting records (At script records)
    known_next = one_more script sound ground.records own legal footing.known

    lives_next : lives_after ground.lives v ≡ known_next.asks.lives
    lives_next = (λ i. lives_after (footing.lives_are i) (sym then_is i)) ∙ sym (more_lives script sound ground.records own legal footing.known)

    reports_next : KnowsReports setting v (lives_after ground.lives v)
    reports_next =
        subst (λ l. KnowsReports setting v l) (sym lives_next)
        (subst (λ u. KnowsReports setting u known_next.asks.lives) then_is (reports_known script sound records legal known_next))

    -- the store of who runs and is In as itself counts, and its Joins stand before
    abbrev OwnCounts : World → Type 0
    OwnCounts u = (n : ℕ) → (u.servers n).life.running ≡ true → is_in (server_state setting u n) n (u.servers n).life.inc ≡ true → IsOwn setting u n

    abbrev JoinsCount : World → Type 0
    JoinsCount u = (n : ℕ) (prefix : List Command) → IsPrefix prefix (chosen_log setting u)
        → is_in (state_after setting.servers prefix) n (u.servers n).life.inc ≡ true
        → blank_joins_in setting prefix n ≡ blank_joins_in setting (chosen_log setting u) n

    -- two copies, one record on
    goes_from : KeepsOn setting ground.records w v ground.good own
    goes_from =
        subst (λ u. KeepsOn setting ground.records w u ground.good own) then_is
        (subst (λ x. (good : Good setting ground.records (chosen_log setting x) (counted setting x))
        → KeepsOn setting ground.records x (world_after setting (start setting) records) good own) ground.come
        (λ good. step_goes script ground.records own sound legal good) ground.good)

    -- where servers have been is as before, or what they are now
    from_there : GoesOnFrom setting ground.records records w v ground.good goes_from.good
    from_there = record {
      visits = λ n place cell visit is. now_or_then n place cell visit (sym (goes_from.visits n place cell) ∙ is);
      reached = goes_from.reached;
    }
      where
        now_or_then : (n place : ℕ) (cell : Cell) (visit : PairState) → seen setting ground.good.visits (counted setting v) n place cell ≡ Some visit
            → (ground.good.visits n place cell ≡ Some visit) ⊎ IsVisit setting v n place cell visit
        now_or_then n place cell visit =
            by_test (λ (o : Option PairState). o ≡ Some visit
            → (ground.good.visits n place cell ≡ Some visit) ⊎ IsVisit setting v n place cell visit)
            (is_at setting n ((counted setting v).servers n) place cell) (Some ((counted setting v).servers n).own) (ground.good.visits n place cell)
            (λ t is.
            let there = at_by setting n ((counted setting v).servers n) place cell t in
            inr (record { same = ap (λ (o : PairState). o.pairs) (same_some (sym is)); row = there.row; linked = there.linked; at = there.at }))
            (λ f is. inl is)

    -- and by what was chosen before
    middle : IsMiddle setting w v records goes_from.good.visits
    middle = record { good = goes_from.middle; visits_are = goes_from.middle_visits }

    module _ (along : Along setting state w) (next : Along setting state v) (grows : IsPrefix (chosen_log setting w) (chosen_log setting v))
        (wake : AllMayWake setting v) (follows : Follows setting w own) where
      ground_next : Ground setting state v
      ground_next =
          let h : Happens setting state w v = happens setting w own ground.ready.rests along.firm follows next.firm state next.below in
          let asking = happens_asking setting state w v ground.lives ground.ready ground.wake ground.asking ground.reports h in
          let on = happens_later setting state w v ground.lives ground.ready ground.wake ground.asking ground.reports h in
          let rests = rests_next setting w own ground.ready.rests along.firm follows next.firm in
          record {
            ready = record { rests = rests; firm = next.firm; below = next.below };
            wake = wake;
            records = records;
            come = then_is;
            good = goes_from.good;
            own = subst (λ u. OwnCounts u) then_is (λ n runs seat. in_own script records n sound legal runs seat);
            joined = subst (λ u. JoinsCount u) then_is (λ n prefix is_prefix seat. in_counts script records n prefix sound legal is_prefix seat);
            started = subst (λ u. AllStarted setting records u) then_is (chosen_caught_was script records sound legal);
            lives = lives_after ground.lives v;
            asking = asking;
            reports = reports_next;
            recalled = remembered_next (record { setting = setting; state = state; w = w; firm = along.firm; ground = ground }) (record {
              v = v;
              then = next.firm;
              grows = grows;
              more = records;
              next = goes_from.good;
              from = from_there;
              on = on;
              rests = rests;
              asking = asking;
            }) (happens_leaves setting state w v h);
            named = happens_named setting state w ground.named v h;
            epochs = subst (λ u. KnowEpochs setting records u) then_is (epochs_after script records sound legal);
            moves = subst (λ u. KnowMoves setting records u) then_is (moves_known script records sound legal);
          }

      pub record NextGround : Type 0 where
        pub now : Footing v
        pub records_are : now.ground.records ≡ records
        pub middle : IsMiddle setting w v now.ground.records now.ground.good.visits

      pub next_ground : NextGround
      unfolding ground_next
      next_ground = record { now = record { ground = ground_next; known = known_next; lives_are = lives_next }; records_are = refl; middle = middle }

-- ### The beginning

-- nothing has happened
start_ground : (state : State) (script : Script) → IsSound script → Ready (setting_of script) state (start (setting_of script))
    → AllMayWake (setting_of script) (start (setting_of script)) → Ground (setting_of script) state (start (setting_of script))
unfolding In
start_ground state script sound ready wake =
    let setting = setting_of script in
    record {
      ready = ready;
      wake = wake;
      records = [];
      come = refl;
      good = start_good setting;
      started = λ prefix of link holder inc other other_inc is_prefix.
          absurd (none_in prefix _ (sym (none_before_none _ is_prefix.later (sym (none_chosen setting) ∙ is_prefix.is))));
      lives = first_lives;
      asking = start_asking script;
      reports = subst (λ l. KnowsReports setting (start setting) l) (start_lives script) (reports_known script sound [] tt (start_along script));
      recalled = λ prefix cell row n own op is_prefix is both last visit there clients.
          none_some (start_visits setting n (place_by setting prefix row) cell) visit;
      named = start_named script;
      own = λ n runs seat store. refl;
      joined = λ n prefix is_prefix seat.
          ap (λ log. blank_joins_in setting log n) (none_before_none prefix is_prefix.later (sym (none_chosen setting) ∙ is_prefix.is)
          ∙ sym (none_chosen setting));
      epochs = epochs_after script [] sound tt;
      moves = moves_known script [] sound tt;
    }

-- ### Of a run

-- the footing of a world, after the run's records
pub record IsFooted (run : Run) (whole : List Command) (all : HasProperTuples run.script.servers whole) (w : World) : Type 0 where
  pub footing : Footing run.script run.sound whole all w
  pub records_are : footing.ground.records ≡ run.records

-- in view of a log, of which what is chosen is a prefix
abbrev FootedBelow : Run → Type 0
FootedBelow run = (whole : List Command) (all : HasProperTuples run.script.servers whole) → IsPrefix (chosen_log (setting_in run) (after run)) whole
    → IsFooted run whole all (after run)

footed_first : (script : Script) (sound : IsSound script) (legal : AreSteps script []) → FootedBelow (run_of script sound [] legal)
unfolding start_ground
footed_first script sound legal whole all prefix =
    let run = run_of script sound [] legal in
    let along = along_at script sound whole all (after run) (firm_in run) prefix in
    record {
      footing = record {
        ground = start_ground (state_after script.servers whole) script sound (record { rests = rests_in run; firm = along.firm; below = along.below })
            (may_wake script [] sound legal);
        known = start_along script;
        lives_are = sym (start_lives script);
      };
      records_are = refl;
    }

-- one record on
pub record IsOn (it : OneMore) (whole : List Command) (all : HasProperTuples it.prior.script.servers whole) (v : World) : Type 0 where
  pub footing : Footing it.prior.script it.prior.sound whole all v
  pub records_are : footing.ground.records ≡ (longer it).records
  pub middle : IsMiddle (setting_in it.prior) (after it.prior) v footing.ground.records footing.ground.good.visits

pub footed_on : (it : OneMore) (whole : List Command) (all : HasProperTuples it.prior.script.servers whole)
    → IsPrefix (chosen_log (setting_in it.prior) (after (longer it))) whole → FootedBelow it.prior
    → IsOn it whole all (stepped (setting_in it.prior) (after it.prior) it.own).world
footed_on it whole all prefix old =
    let script = it.prior.script in
    let sound = it.prior.sound in
    let setting = setting_in it.prior in
    let w = after it.prior in
    let v = (stepped setting w it.own).world in
    let before = prefix_on _ _ whole (grown_in it) prefix in
    let f = old whole all before in
    let next = next_ground script sound whole all w it.own f.footing (subst (λ rs. AreSteps script (rs ++ it.own ∷ [])) (sym f.records_are) it.legal)
    (along_at script sound whole all w (firm_in it.prior) before)
    (along_at script sound whole all v (firm_then it) (subst (λ u. IsPrefix (chosen_log setting u) whole) (stepped_in it) prefix)) (grown_then it)
    (subst (AllMayWake setting) (stepped_in it) (may_wake script (longer it).records sound it.legal)) (follows_in it) in
    record { footing = next.now; records_are = next.records_are ∙ ap (λ rs. rs ++ it.own ∷ []) f.records_are; middle = next.middle }

footed_next : (it : OneMore) → FootedBelow it.prior → FootedBelow (longer it)
footed_next it old whole all prefix =
    let on = footed_on it whole all prefix old in
    subst (IsFooted (longer it) whole all) (sym (stepped_in it)) (record { footing = on.footing; records_are = on.records_are })

pub footing_after : (run : Run) → FootedBelow run
footing_after = by_run FootedBelow footed_first footed_next
