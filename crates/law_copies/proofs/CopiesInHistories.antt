-- Each step that is allowed keeps what is kept of two copies, by the stores that count, and so does every legal history.
use Rattle.law_copies.proofs.Imports.{[], if◌then◌else◌, ◌++◌, ◌∙◌, ◌∷◌, ◌≡◌, ◌≤◌, AreSteps, BeforeBlank, Blank, Blanks, Cell, Happens, In, IsPrefix, IsSound}
use Rattle.law_copies.proofs.Imports.{List, Option, Post, Reaction, Record, Script, Serves, Setting, Some, State, Store, Turns, World, acts, always_firm, ap}
use Rattle.law_copies.proofs.Imports.{arith, before_part, below_itself, blank_joins_in, blanked, by_bool, by_run, chosen_log, chosen_state, client_sender}
use Rattle.law_copies.proofs.Imports.{counted, counted_by, false, history_grows, history_is_firm, in-append, inl, inr, is_between, kept, kept_store}
use Rattle.law_copies.proofs.Imports.{last_happens, letters_of, none_some, number_itself, prefix_itself, prefix_on, put_apart, put_at, put_same, reacts, refl}
use Rattle.law_copies.proofs.Imports.{run_of, same_or_apart, setting_of, split_last, stamped, start, stays, subject_of, subst, sym, true_false, turned_asks}
use Rattle.law_copies.proofs.Imports.{with_store, world_after, ℕ}
use Rattle.law_copies.proofs.StoreHistories.{join_empty, join_own}
use Rattle.law_copies.specs.GoodCopies.{Good}
use Rattle.law_copies.specs.Visits.{is_at}
use Rattle.law_copies.proofs.AtStep.{IsStep, at_step}
use Rattle.law_copies.proofs.FramesKeepPrefixes.{store_itself}
use Rattle.law_copies.proofs.KeptEntryByEntry.{IsFurther, grow}
use Rattle.law_copies.proofs.AtNext.{IsAfter}
use Rattle.law_copies.proofs.MuteLettersTellNothing.{asked_mute}
use Rattle.law_copies.proofs.StepsKeepCopies.{IsMarkedOne, sound_part}
use Rattle.law_copies.proofs.StepsLeaveCopies.{posts_mute}
use Rattle.law_copies.proofs.VisitsAfterSteps.{at_by, counted as reached_then, later, seen, stored}
use Rattle.law_copies.proofs.CopiesKnownOfWorlds.{OneMore, before_of, in_begun, known_after}
use Rattle.law_copies.proofs.ServerStepsKeepCopies.{GoesTo, server_goes, then_so}
use Rattle.law_copies.proofs.StepsLeaveCopies as quiet
pub use Rattle.law_copies.proofs.CopiesAtStart.{start_good, start_visits}

module _ (it : OneMore) where
  open it use {setting, records, w, known, good, own}
  open before_of it use {top, before}

  -- ### A blank

  -- the store from before counts
  blank_goes : (k stamp : ℕ) → (w.servers k).life.running ≡ false → GoesTo it (acts setting w k Blank stamp (stays (blanked (w.servers k)))).world
  blank_goes k stamp asleep then_is =
      let then_world = (acts setting w k Blank stamp (stays (blanked (w.servers k)))).world in
      let v = counted_by setting top then_world in
      let mine : BeforeBlank = record { joins = blank_joins_in setting top k; store = kept setting w k } in
      let here_now : (o : Option BeforeBlank) → o ≡ Some mine → (store : Store) → kept_store (blank_joins_in setting top k) o store ≡ kept setting w k =
      λ o is store. ap (λ p. kept_store (blank_joins_in setting top k) p store) is
      ∙ ap (λ c. if c then kept setting w k else store) (number_itself (blank_joins_in setting top k)) in
      let step : IsStep setting top before v k (before.servers k) = record {
        here = (λ i. with_store (put_same w.servers k (blanked (w.servers k)) i) (kept_store (blank_joins_in setting top k) (then_world.before_blank k)
            (put_same w.servers k (blanked (w.servers k)) i).own.store))
            ∙ ap (with_store (w.servers k)) (here_now (then_world.before_blank k) (put_same w.before_blank k (Some mine)) (blanked (w.servers k)).own.store);
        others = λ n ne. λ i. with_store (put_apart w.servers k (blanked (w.servers k)) n ne i)
            (kept_store (blank_joins_in setting top n) (put_apart w.before_blank k (Some mine) n ne i)
            (put_apart w.servers k (blanked (w.servers k)) n ne i).own.store);
        plain = known.firm.plain;
        before = known.firm.servers;
        onward = prefix_itself (w.servers k).log.applied;
        within = known.firm.servers k;
        blanks = λ n none. elim (same_or_apart n k) [
          | inl e ↦ none_some none (ap (put_at w.before_blank k (Some mine)) e ∙ put_same w.before_blank k (Some mine))
          | inr ne ↦ sym (put_apart w.before_blank k (Some mine) n ne) ∙ none
        ];
      } in
      quiet.quiet_good (at_step good step)
      (quiet.same_visits (at_step good step) refl refl refl)
      (λ cell alive. store_itself (before.servers k).own.store cell)
      own (then_so it then_world then_is)
      (sound_part {marked = IsMarkedOne v k (before.servers k)} good k (λ when. elim when [
        | inl runs ↦ true_false runs asleep
        | inr none ↦ none_some none (put_same w.before_blank k (Some mine))
      ]))
      (λ letter i. inl i)

  -- ### A turn of a client

  client_goes : (c stamp : ℕ) (reacted : Reaction) → ((post : Post) → In post reacted.posts → is_between (subject_of post.body) ≡ false)
      → GoesTo it (reacts w c stamp reacted).world
  client_goes c stamp reacted mute then_is =
      let then_world = (reacts w c stamp reacted).world in
      let v = counted_by setting top then_world in
      let step : IsStep setting top before v 0 (before.servers 0) = record {
        here = refl;
        others = λ n ne. refl;
        plain = known.firm.plain;
        before = known.firm.servers;
        onward = prefix_itself (w.servers 0).log.applied;
        within = known.firm.servers 0;
        blanks = λ n none. none;
      } in
      quiet.quiet_good (at_step good step)
      (quiet.same_visits (at_step good step) refl refl refl)
      (λ cell alive. store_itself (before.servers 0).own.store cell)
      own (then_so it then_world then_is)
      (sound_part {marked = IsMarkedOne v 0 (before.servers 0)} good 0 (λ when. when))
      (λ letter i. elim (in-append letter (stamped stamp (letters_of (client_sender c reacted.client) 0 reacted.posts)) w.sent i) [
        | inl new ↦ inr (posts_mute setting top (stored (at_step good step))
            (later (at_step good step)) (reached_then (at_step good step))
            (client_sender c reacted.client) stamp reacted.posts mute letter new)
        | inr old ↦ inl old
      ])

  pub happens_goes : (state : State) (v : World) → Happens setting state w v → GoesTo it v
  happens_goes state _ (Serves k stamp what acted lt small unblanked serving) = server_goes it k stamp what acted unblanked serving
  happens_goes state _ (Blanks k stamp lt small asleep) = blank_goes k stamp asleep
  happens_goes state _ (Turns c stamp in_call reacted lt c_lt turned onward) =
      client_goes c stamp reacted (λ post i. asked_mute (subject_of post.body) (turned_asks _ _ _ _ _ _ _ turned post i))

-- ### Legal histories

-- what is kept after one record more, by the stores that count; with where servers have been then; places that count only rise. And what
-- was kept on the way: after the step, by what was chosen before it
pub record KeepsOn (setting : Setting) (records : List Record) (w v : World) (old : Good setting records (chosen_log setting w) (counted setting w))
    (own : Record) : Type 0 where
  pub good : Good setting (records ++ own ∷ []) (chosen_log setting v) (counted setting v)
  pub visits : (n place : ℕ) (cell : Cell) → good.visits n place cell ≡ seen setting old.visits (counted setting v) n place cell
  pub reached : (cell : Cell) → old.reached cell ≤ good.reached cell
  pub middle : Good setting (records ++ own ∷ []) (chosen_log setting w) (counted_by setting (chosen_log setting w) v)
  pub middle_visits : (n place : ℕ) (cell : Cell) → middle.visits n place cell ≡ good.visits n place cell

module _ (script : Script) (records : List Record) (own : Record) (sound : IsSound script) (legal : AreSteps script (records ++ own ∷ [])) where
  abbrev setting : Setting
  setting = setting_of script

  abbrev all : List Record
  all = records ++ own ∷ []

  abbrev w : World
  w = world_after setting (start setting) records

  abbrev next : World
  next = world_after setting (start setting) all

  legal_before : AreSteps script records
  legal_before = before_part script records (own ∷ []) legal

  -- no server was beyond what was chosen before the last record
  following : ((n : ℕ) → IsPrefix (next.servers n).log.applied (chosen_log setting w)) → IsAfter setting all (chosen_log setting w) next
  following now = record {
    now = now;
    ever = λ before rest is n. elim (split_last records own before rest is) [
      | inl whole ↦ subst (λ rs. IsPrefix ((world_after setting (start setting) rs).servers n).log.applied (chosen_log setting w)) (sym whole) (now n)
      | inr more ↦ (
          let legal_there = before_part script before more.0 (subst (AreSteps script) more.1 legal_before) in
          prefix_on _ (chosen_log setting (world_after setting (start setting) before)) (chosen_log setting w)
          ((history_is_firm script before sound legal_there).servers n)
          (history_grows script records sound legal_before before more.0 more.1))
    ];
  }

  -- at which more may be chosen
  further : IsFurther setting all next (chosen_log setting w)
  further =
      let known = known_after script all sound legal in
      record {
        firm = known.firm;
        rests = known.rests;
        started = known.started;
        empty = λ n more. join_empty script records own n sound legal more;
        own = λ n more. join_own script records own n sound legal more;
        begun = λ n inc prefix is_prefix up. in_begun script all sound legal n inc prefix is_prefix up;
      }

  -- one record more
  pub step_goes : (good : Good setting records (chosen_log setting w) (counted setting w)) → KeepsOn setting records w next good own
  step_goes good =
      let state = chosen_state setting next in
      let happens = last_happens script records own (always_firm script all sound legal) legal state (below_itself state) in
      let before : OneMore = record {
        setting = setting;
        records = records;
        w = w;
        known = known_after script records sound legal_before;
        good = good;
        own = own;
      } in
      let goes = happens_goes before state next happens refl in
      let grown = grow setting all next (chosen_log setting w) further goes.good.visits goes.good.reached
      (history_grows script all sound legal records (own ∷ []) refl) (following goes.following)
      (record { good = goes.good; visits_are = λ n place cell. refl; reached_is = λ cell. refl }) in
      record {
        good = grown.good;
        visits = λ n place cell. by_bool (is_at setting n ((counted setting next).servers n) place cell)
            (λ on.
            let at = at_by setting n ((counted setting next).servers n) place cell on in
            let h = grown.good.here n cell at.row at.linked at.seat at.alive in
            ap (λ p. grown.good.visits n p cell) at.at ∙ h.is ∙ ap Some h.same
            ∙ sym (ap (λ b. if b then Some ((counted setting next).servers n).own else good.visits n place cell) on))
            (λ off. grown.visits_are n place cell ∙ goes.visits n place cell
            ∙ ap (λ b. if b then Some ((counted_by setting (chosen_log setting w) next).servers n).own else good.visits n place cell) off
            ∙ sym (ap (λ b. if b then Some ((counted setting next).servers n).own else good.visits n place cell) off));
        reached = λ cell. (let le = goes.reached cell in let e = grown.reached_is cell in omega arith);
        middle = goes.good;
        middle_visits = λ n place cell. sym (grown.visits_are n place cell);
      }

-- what is kept after these records of a script, by the stores that count
abbrev pub KeptAfter : Script → List Record → Type 0
KeptAfter script records =
    Good (setting_of script) records (chosen_log (setting_of script) (world_after (setting_of script) (start (setting_of script)) records))
    (counted (setting_of script) (world_after (setting_of script) (start (setting_of script)) records))

-- after each legal history
pub good_after : (script : Script) (records : List Record) → IsSound script → AreSteps script records → KeptAfter script records
good_after script records sound legal =
    by_run (λ run. KeptAfter run.script run.records) (λ script sound legal. start_good (setting_of script))
    (λ it good. (step_goes it.prior.script it.prior.records it.own it.prior.sound it.legal good).good) (run_of script sound records legal)
