-- What a job of a server that is In as itself keeps at each prefix, and of what it sends.
use Rattle.law_copies.proofs.Imports.{[], ◌++◌, ◌∙◌, ◌∷◌, ◌≡◌, ◌≢◌, ◌≤◌, ◌⊎◌, Body, Both, Cell, Command, In, IsPrefix, Letter, LinkRow, List, Option}
use Rattle.law_copies.proofs.Imports.{PairState, Post, Record, Some, about, alone_not_both, ap, arith, by_bool, chosen_log, false, has_server, id_of, inr}
use Rattle.law_copies.proofs.Imports.{is_between, is_flagged, is_some, length, letters_of, live, lost_not_both, one_prefix, other_of, own_place, prefix_long}
use Rattle.law_copies.proofs.Imports.{primary_is_one, refl, rev_after, said, same_some, secondary_is_one, sender, server_state, stamped, state_after}
use Rattle.law_copies.proofs.Imports.{subject_of, subst, sym, true, true_false, ℕ}
use Rattle.law_copies.specs.CopyProgress.{IsOfLink, IsTold}
use Rattle.law_copies.specs.GoodCopies.{IsUnheard, SaidOk, pair_at}
use Rattle.law_copies.specs.Pair.{Known, pair_of}
use Rattle.law_copies.specs.Visits.{AliveIn, IsLinked, half, place_by, with_stores}
use Rattle.law_copies.proofs.AtJob.{AtJob, seat_at, step_at}
use Rattle.law_copies.proofs.FramesKeepPrefixes.{said_framed}
use Rattle.law_copies.proofs.MuteLettersTellNothing.{known_mute, told_mute}
use Rattle.law_copies.proofs.RolesOfWorkers.{other_row}
use Rattle.law_copies.proofs.StepsKeepCopies.{GoesOn, IsSoundOwn, IsTrue, good_after, sound_at}
use Rattle.law_copies.proofs.VisitsAfterSteps.{then_of, IsThen, KeepsFlags}
use Rattle.law_copies.proofs.JobsLeaveOtherPrefixes.{Same_store, Covers, Gone, Left_by}
use Rattle.law_copies.proofs.JobsAtEachPrefix.{at_or_else, else_leaves, last_old, left_else, stranger_leaves, visits_else, both_kept, holds, news_here}
use Rattle.law_copies.proofs.JobsAtEachPrefix.{olds_here}
use Rattle.petal_msg.specs.declared.body.Body.TheVariants as body
use Rattle.law_copies.proofs.PlacesBeforeJobs as seated
use Rattle.law_copies.proofs.JobsKeepOwnPlaces as worked
use Rattle.law_copies.proofs.JobsLeaveOtherPrefixes as leaving
use Rattle.law_copies.proofs.JobsAtEachPrefix as prefixes

module _ (it : AtJob) where
  open it use {setting, records, w, stores, v, k, server, good, firm, done, job}
  open then_of (step_at it) use {visits, reached, next, news}

  abbrev top : List Command
  top = chosen_log setting w

  abbrev prefix : List Command
  prefix = (w.servers k).log.applied

  abbrev IsElsewhere : (place : ℕ) → Cell → Type 0
  IsElsewhere place cell = (row : LinkRow) → IsLinked setting prefix cell row → AliveIn (server_state setting w k) cell → place ≢ place_by setting prefix row

  -- ### Letters that were sent before

  said_else : (letter_said : Body) (f : List Command) (cell : Cell) (row : LinkRow) → IsPrefix f top → IsLinked setting f cell row → has_server k row ≡ true
      → IsElsewhere (place_by setting f row) cell → SaidOk setting top good.stores good.visits good.reached f letter_said cell row
      → SaidOk setting top next visits reached f letter_said cell row
  said_else letter_said f cell row is_prefix is has away ok =
      let place = place_by setting f row in
      record {
        both = λ lives both last of. by lives both last of (left_else it f cell row is_prefix is has lives away (last_old it cell place last));
        alone = λ holder whole alone of.
            subst (λ o. IsTold row o (visits (other_of holder row) place cell) letter_said) (sym (visits_else it holder place cell away))
            (subst (λ o. IsTold row (good.visits holder place cell) o letter_said) (sym (visits_else it (other_of holder row) place cell away))
            (ok.alone holder whole alone of));
        page = λ lives holder whole after block alone said last.
            prefixes.page_else it f cell row holder whole is_prefix is alone away
            (λ e. left_else it f cell row is_prefix is has lives away (last_old it cell place last)) after block
            (ok.page lives holder whole after block alone said (last_old it cell place last));
        met = λ holder whole after block alone said. ap is_some (visits_else it (other_of holder row) place cell away)
            ∙ ok.met holder whole after block alone said;
      }
    where
      by : AliveIn (state_after setting.servers top) cell → row.state ≡ Both → reached cell ≤ place_by setting f row →
          (about letter_said).cell ≡ Some cell → leaving.IsLeftAt it f (place_by setting f row) cell row
          → Known (pair_at (news f) visits (place_by setting f row) cell row.primary row.secondary) letter_said
      by lives both last of (Same_store same) =
          (said_framed (step_at it) f letter_said cell row
          (λ holder whole alone. holds it f cell row holder whole is_prefix is alone)
          (else_leaves it f (place_by setting f row) cell row away (λ alive. same)) ok).both lives both last of
      by lives both last of (Gone lost) = lost_not_both row lost both
      by lives both last of (Covers whole alone none covered) = alone_not_both row k alone both
      by lives both last of (Left_by h whole alone ne none left marks) = alone_not_both row h alone both

  said_at : (letter_said : Body) (f : List Command) (cell : Cell) (row : LinkRow) → IsPrefix f top → IsLinked setting f cell row → has_server k row ≡ true
      → IsLinked setting prefix cell row → AliveIn (server_state setting w k) cell → place_by setting prefix row ≡ place_by setting f row
      → SaidOk setting top good.stores good.visits good.reached f letter_said cell row
      → SaidOk setting top next visits reached f letter_said cell row
  said_at letter_said f cell row is_prefix is has mine alive e ok =
      let place = place_by setting f row in
      record {
        both = λ lives both last of.
            let now = worked.both_now it cell row mine alive lives both has in
            let one = primary_is_one row row.primary refl in
            let other = secondary_is_one row row.secondary refl in
            subst (λ p. Known p letter_said)
            (λ i. pair_of (half (visits row.primary (e i) cell) (news_here it f cell row row.primary is_prefix is mine e one i))
            (half (visits row.secondary (e i) cell) (news_here it f cell row row.secondary is_prefix is mine e other i)) cell)
            (now.known letter_said (subst (λ p. Known p letter_said)
            (λ i. pair_of (half (good.visits row.primary (sym e i) cell) (sym (olds_here it f cell row row.primary is_prefix is mine e one) i))
            (half (good.visits row.secondary (sym e i) cell) (sym (olds_here it f cell row row.secondary is_prefix is mine e other) i)) cell)
            (ok.both lives both (last_old it cell place last) of)));
        alone = λ holder whole alone of.
            prefixes.said_alone_at it f cell row holder whole is_prefix is alone has
            mine alive e letter_said of (ok.alone holder whole alone of);
        page = λ lives holder whole after block alone said last.
            prefixes.page_at it f cell row holder whole is_prefix is alone has lives mine alive e after block
            (ok.page lives holder whole after block alone said (last_old it cell place last));
        met = λ holder whole after block alone said.
            let now = worked.alone_now it cell row mine alive holder whole alone has in
            subst (λ p. is_some (visits (other_of holder row) p cell) ≡ true) e
            (now.some (subst (λ p. is_some (good.visits (other_of holder row) p cell) ≡ true) (sym e) (ok.met holder whole after block alone said)));
      }

  said_kept : (letter : Letter) → In letter w.sent → (f : List Command) (cell : Cell) (row : LinkRow) → IsPrefix f top → length f ≡ letter.rev
      → IsLinked setting f cell row → AliveIn (state_after setting.servers f) cell → SaidOk setting top next visits reached f letter.body cell row
  said_kept letter sent f cell row is_prefix long is alive_f =
      let ok = good.letters letter sent f cell row is_prefix long is alive_f in
      by_bool (has_server k row)
      (λ has. at_or_else it f cell row is_prefix is
      (λ mine alive e. said_at letter.body f cell row is_prefix is has mine alive e ok)
      (λ away. said_else letter.body f cell row is_prefix is has away ok))
      (λ off. said_framed (step_at it) f letter.body cell row
      (λ holder whole alone. holds it f cell row holder whole is_prefix is alone)
      (stranger_leaves it f (place_by setting f row) cell row off) ok)

  -- ### What it sends

  post_said : (post : Post) → In post done.posts → (cell : Cell) (row : LinkRow) → IsLinked setting prefix cell row → AliveIn (server_state setting w k) cell
      → SaidOk setting top next visits reached prefix post.body cell row
  post_said post i cell row is alive = by_bool (has_server k row)
      (λ has. record {
        both = λ lives both last of. (worked.both_now it cell row is alive lives both has).says post i of;
        alone = λ holder whole alone of.
            (worked.alone_now it cell row is alive holder whole alone has).says post i of;
        page = λ lives holder whole after block alone said last.
            (worked.alone_now it cell row is alive holder whole alone has).pages post i after block said;
        met = λ holder whole after block alone said.
            (worked.alone_now it cell row is alive holder whole alone has).met post i after block said;
      })
      (λ off. record {
        both = λ lives both last of. known_mute (pair_at (news prefix) visits (place_by setting prefix row) cell row.primary row.secondary) post.body
            (job.keeping.silent cell (inr (row, is, off)) post i of);
        alone = λ holder whole alone of.
            told_mute row (visits holder (place_by setting prefix row) cell) (visits (other_of holder row) (place_by setting prefix row) cell) post.body
            (job.keeping.silent cell (inr (row, is, off)) post i of);
        page = λ lives holder whole after block alone said last. stranger_page cell row is post i after block said off;
        met = λ holder whole after block alone said. stranger_page cell row is post i after block said off;
      })
    where
      stranger_page : {B : Type 0} (cell : Cell) (row : LinkRow) → IsLinked setting prefix cell row → (post : Post)
          → In post done.posts → (after block : Option ℕ)
          → post.body ≡ body.Hello row.map row.link after block → has_server k row ≡ false → B
      stranger_page cell row is post i after block said off =
          let held = job.keeping.paged cell row is post i after block said in
          true_false (other_row k row held.0 held.1).one_of off

  pub sends : (stamp : ℕ) (letter : Letter) → In letter (stamped stamp (letters_of (sender (own_place setting w k)) 0 done.posts))
      → IsTrue setting top next visits reached letter
  sends stamp letter there =
      let s = said (sender (own_place setting w k)) stamp 0 done.posts letter there in
      let rev : letter.rev ≡ length prefix = s.rev ∙ rev_after setting.servers prefix in
      record {
        rev = λ between. let le = prefix_long prefix top (firm.servers k) in omega (arith, rev);
        said = λ f cell row is_prefix long is alive.
            let same : f ≡ prefix = one_prefix f prefix top is_prefix (firm.servers k) (long ∙ rev) in
            subst (λ b. SaidOk setting top next visits reached f b cell row) (sym s.body)
            (subst (λ g. SaidOk setting top next visits reached g s.post.body cell row) (sym same)
            (post_said s.post s.there cell row (subst (λ g. IsLinked setting g cell row) same is)
            (subst (λ g. AliveIn (state_after setting.servers g) cell) same alive)));
        lives = λ between f is_prefix long cell of.
            let same : f ≡ prefix = one_prefix f prefix top is_prefix (firm.servers k) (long ∙ rev) in
            subst (λ g. live (state_after setting.servers g) cell ≡ true) (sym same)
            (job.keeping.lives s.post s.there (ap (λ (b : Body). is_between (subject_of b)) (sym s.body) ∙ between) cell
            (ap (λ (b : Body). (about b).cell) (sym s.body) ∙ of));
        page = λ f is_prefix long map link block after is.
            let same : f ≡ prefix = one_prefix f prefix top is_prefix (firm.servers k) (long ∙ rev) in
            subst (λ g. IsOfLink (state_after setting.servers g) (record { map = map; block = block }) link) (sym same)
            (job.keeping.pages s.post s.there map link block after (sym s.body ∙ is));
      }

  -- ### All of it

  job_flags : KeepsFlags (step_at it)
  job_flags cell row own whole is alive alone seat_then visit flagged =
      let mine : IsLinked setting prefix cell row = subst (λ f. IsLinked setting f cell row) job.applied is in
      let mine_alive = subst (λ f. AliveIn (state_after setting.servers f) cell) job.applied alive in
      let here = seated.here_visit (seat_at it) cell row mine mine_alive in
      let same : own ≡ (w.servers k).own = same_some (sym visit ∙ ap (λ f. good.visits k (place_by setting f row) cell) job.applied ∙ here) in
      let keeps = worked.keeps_holder it cell row mine mine_alive whole alone in
      ap (λ (o : PairState). is_flagged o (id_of row)) job.own_is ∙ (keeps.caught (ap (λ (o : PairState). is_flagged o (id_of row)) (sym same) ∙ flagged)).2

  job_sound : IsSoundOwn setting v k server
  job_sound = sound_at setting.servers prefix server.log.applied done.own server.own job.applied job.own_is (record {
    unheard = λ cell none. job.keeping.unheard cell none
        (subst (λ (o : PairState). IsUnheard (server_state setting w k) o cell) (λ i. record (w.servers k).own { store = job.works.real i })
        (good.unheard k cell none));
    copied = job.keeping.copied;
    rising = job.keeping.rising;
    counts = (let one = good.counts k in let more = job.keeping.counts in omega arith);
    filled = job.keeping.filled;
    marks = λ when. job.keeping.marks;
  })

  pub job_good : (own : Record) → IsThen setting (records ++ own ∷ []) v
      → ((letter : Letter) → In letter v.sent → In letter w.sent ⊎ IsTrue setting top next visits reached letter)
      → GoesOn setting records top top (with_stores w stores) v good own
  job_good own then_is sent =
      good_after (step_at it) own then_is job_flags job_sound
      (record { both = both_kept it; alone = prefixes.alone_kept it; said = said_kept }) sent
