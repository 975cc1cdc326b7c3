-- A job of a server, seen from each prefix of the log: at another place than the server's own it changes nothing that counts, and at its own
-- place a cell is kept as by its own entries.
use Rattle.law_copies.proofs.Imports.{[], ◌<◌, ◌∙◌, ◌≡◌, ◌≢◌, ◌≤◌, ◌⊎◌, Body, Bool, Both, ByBoth, ByNone, ByOne, Cell, Command, IsLater, IsMarked, IsPrefix}
use Rattle.law_copies.proofs.Imports.{IsToBeCopied, LinkRow, List, Lost, None, Only, Option, PairState, Some, Store, about, alone_not_both, ap, arith}
use Rattle.law_copies.proofs.Imports.{blank_joins_in, by_bool, cell_link, chain_in, chosen_log, false, has_server, inl, inr, is_some, joins_grow}
use Rattle.law_copies.proofs.Imports.{lost_not_both, needs_full_copy, none_some, one_before, other_of, prefix_on, primary_is_one, refl, said, same_or_apart}
use Rattle.law_copies.proofs.Imports.{same_some, secondary_is_one, server_state, some_or_none, stage_at, state_after, subst, sym, true, true_false, ℕ}
use Rattle.law_copies.specs.CopyProgress.{AreCopying, IsCovered, IsPage, IsTold, Is_marked_here, Is_to_be_copied, NotCopied, links_of}
use Rattle.law_copies.specs.GoodCopies.{AloneOk, AreBeside, AreTwins, BothOk, StaysLeft}
use Rattle.law_copies.specs.Visits.{AliveIn, HasBeen, HasFilled, IsLinked, place_by}
use Rattle.law_copies.proofs.VisitsAfterSteps.{counted_up, none_before, then_of, IsAt, stored_frozen, visited_beside}
use Rattle.law_copies.proofs.AtJob.{AtJob, step_at}
use Rattle.law_copies.proofs.BlankJoinsMakePlaces.{joins_at}
use Rattle.law_copies.proofs.FramesKeepPrefixes.{LeavesAt, LeavesBoth, LeavesStore, StaysAt, alone_framed, beside_stays, both_framed, both_same}
use Rattle.law_copies.proofs.FramesKeepPrefixes.{filled_framed, filled_on, left_on, marks_back, other_is_one, same_stays, store_same, twins_stay}
use Rattle.law_copies.proofs.ServedAtLaterPrefixes.{IsCaughtUp, alone_not_lost, alone_or_flagged, alone_since, both_since, holder_is_one, holds_since}
use Rattle.law_copies.proofs.ServedAtLaterPrefixes.{same_only}
use Rattle.law_copies.proofs.OtherIsNotHolder.{other_apart}
use Rattle.law_copies.proofs.PlacesByPrefixes.{at_most_or_above, prefixes_meet, linked_alive, links_same, one_row, other_later, places_up, rows_later}
use Rattle.law_copies.proofs.PlacesBeforeJobs.{other_back}
use Rattle.law_copies.proofs.JobsLeaveOtherPrefixes.{below, Same_store, Covers, Gone, Left_by}
use Rattle.law_copies.proofs.JobsKeepOwnPlaces as worked
use Rattle.law_copies.proofs.JobsLeaveOtherPrefixes as leaving

module _ (it : AtJob) where
  open it use {setting, records, w, stores, k, server, good, firm, done, job, started}
  open then_of (step_at it) use {visits, reached, next, olds, news}

  abbrev top : List Command
  top = chosen_log setting w

  abbrev prefix : List Command
  prefix = (w.servers k).log.applied

  -- the server has joined with an empty store no more often than by this prefix
  abbrev IsNow : List Command → Type 0
  IsNow f = blank_joins_in setting f k ≡ blank_joins_in setting top k

  leaves_apart : (f : List Command) (n place : ℕ) (cell : Cell) → n ≢ k
      → LeavesAt (step_at it) f n place cell
  leaves_apart f n place cell ne = record {
    visit = worked.visit_apart it n place cell ne;
    store = λ lives. store_same (olds f n) (news f n) cell (leaving.store_apart it f n ne);
  }

  abbrev Leaves : List Command → ℕ → Cell → LinkRow → Type 0
  Leaves f place cell row = LeavesBoth (step_at it) f place cell row

  -- of a link that the server is not of nothing is to show
  pub stranger_leaves : (f : List Command) (place : ℕ) (cell : Cell) (row : LinkRow) → has_server k row ≡ false → Leaves f place cell row
  stranger_leaves f place cell row off n has = leaves_apart f n place cell (λ e. true_false (subst (λ m. has_server m row ≡ true) e has) off)

  -- ### Another place than the server's own

  abbrev IsElsewhere : (place : ℕ) → Cell → Type 0
  IsElsewhere place cell = (row : LinkRow) → IsLinked setting prefix cell row → AliveIn (server_state setting w k) cell → place ≢ place_by setting prefix row

  visit_else : (place : ℕ) (cell : Cell) → IsElsewhere place cell → visits k place cell ≡ good.visits k place cell
  visit_else place cell away =
      visited_beside (step_at it) k place cell
      (λ (a : IsAt setting k server place cell). away a.row (subst (λ f. IsLinked setting f cell a.row) job.applied a.linked)
      (subst (λ f. AliveIn (state_after setting.servers f) cell) job.applied a.alive) (a.at ∙ ap (λ f. place_by setting f a.row) job.applied))

  pub visits_else : (n place : ℕ) (cell : Cell) → IsElsewhere place cell → visits n place cell ≡ good.visits n place cell
  visits_else n place cell away = elim (same_or_apart n k) [
    | inl e ↦ subst (λ m. visits m place cell ≡ good.visits m place cell) (sym e) (visit_else place cell away)
    | inr ne ↦ worked.visit_apart it n place cell ne
  ]

  alive_own : (cell : Cell) → AliveIn (state_after setting.servers top) cell → AliveIn (server_state setting w k) cell
  alive_own cell lives = leaving.alive_at it prefix cell (firm.servers k) lives

  -- of a cell that has no link by its own entries the step leaves all, and by entries that tell of fewer Joins of the server, too
  pub left_else : (f : List Command) (cell : Cell) (row : LinkRow) → IsPrefix f top → IsLinked setting f cell row → has_server k row ≡ true
      → AliveIn (state_after setting.servers top) cell → IsElsewhere (place_by setting f row) cell → good.reached cell ≤ place_by setting f row
      → leaving.IsLeftAt it f (place_by setting f row) cell row
  left_else f cell row is_prefix end has lives away last = elim (same_or_apart (blank_joins_in setting f k) (blank_joins_in setting top k)) [
    | inl now ↦ elim (some_or_none (cell_link (server_state setting w k) cell)) [
      | inl h ↦ leaving.linked_left it cell lives h.0 h.1 (has_mine h.0 h.1) f row is_prefix end
          (away h.0 h.1 (alive_own cell lives)) last now
      | inr none ↦ (let keeps = job.keeping.unlinked cell none (alive_own cell lives) in Same_store
          (leaving.left_so it f cell now (record { chain = keeps.rest.chain; marks = keeps.marks })))
    ]
    | inr ne ↦ Same_store (store_same (olds f k) (news f k) cell
        (stored_frozen (step_at it) k (blank_joins_in setting f k) ne))
  ]
    where
      has_mine : (mine : LinkRow) → IsLinked setting prefix cell mine → has_server k mine ≡ true
      has_mine mine is = elim (prefixes_meet f prefix top is_prefix (firm.servers k)) [
        | inl p ↦ one_before row mine k (rows_later setting top firm.plain f prefix cell row mine p (firm.servers k) end is) ∙ has
        | inr p ↦ sym (one_before mine row k (rows_later setting top firm.plain prefix f cell mine row p is_prefix is end)) ∙ has
      ]

  -- ### At each prefix

  -- at the server's own place of the cell's link, or elsewhere
  pub at_or_else : {B : Type 0} (f : List Command) (cell : Cell) (row : LinkRow) → IsPrefix f top → IsLinked setting f cell row
      → (IsLinked setting prefix cell row → AliveIn (server_state setting w k) cell → place_by setting prefix row ≡ place_by setting f row → B)
      → (IsElsewhere (place_by setting f row) cell → B) → B
  at_or_else f cell row is_prefix is so away = elim (at_most_or_above 4 (stage_at (server_state setting w k) cell)) [
    | inl retired ↦ away (λ row' is' alive e. absurd (omega arith))
    | inr alive ↦ elim (some_or_none (cell_link (server_state setting w k) cell)) [
      | inl h ↦ elim (same_or_apart (place_by setting f row) (place_by setting prefix h.0)) [
        | inl e ↦ (
            let one : h.0 ≡ row = one_row setting top firm.plain f prefix cell row h.0 is_prefix (firm.servers k) is h.1 e in
            so (subst (IsLinked setting prefix cell) one h.1) alive (ap (place_by setting prefix) (sym one) ∙ sym e))
        | inr ne ↦ away (λ row' is' alive' e. ne (e ∙ ap (place_by setting prefix) (same_some (sym is' ∙ h.1))))
      ]
      | inr none ↦ away (λ row' is' alive' e. none_some none is')
    ]
  ]

  -- where the store is left so
  pub else_leaves : (f : List Command) (place : ℕ) (cell : Cell) (row : LinkRow) → IsElsewhere place cell
      → (AliveIn (state_after setting.servers top) cell → LeavesStore (olds f k) (news f k) cell) → Leaves f place cell row
  else_leaves f place cell row away same n has = elim (same_or_apart n k) [
    | inl e ↦ subst (λ m. LeavesAt (step_at it) f m place cell) (sym e)
        (record { visit = visit_else place cell away; store = same })
    | inr ne ↦ leaves_apart f n place cell ne
  ]

  -- two prefixes at one place of the link are after as many Joins of each of its servers
  joins_here : (f : List Command) (cell : Cell) (row : LinkRow) (n : ℕ) → IsPrefix f top → IsLinked setting f cell row → IsLinked setting prefix cell row
      → place_by setting prefix row ≡ place_by setting f row → has_server n row ≡ true → blank_joins_in setting prefix n ≡ blank_joins_in setting f n
  joins_here f cell row n is_prefix is mine e has = joins_at setting top firm.plain prefix f cell row row n (firm.servers k) is_prefix mine is has has e

  pub last_old : (cell : Cell) (place : ℕ) → reached cell ≤ place → good.reached cell ≤ place
  last_old cell place le = let more = counted_up (step_at it) cell in omega arith

  pub holds : (f : List Command) (cell : Cell) (row : LinkRow) (holder : ℕ) (whole : Bool) → IsPrefix f top → IsLinked setting f cell row
      → row.state ≡ Only holder whole → has_server holder row ≡ true
  holds f cell row holder whole is_prefix is alone = holder_is_one (state_after setting.servers f) (leaving.steady_at it f is_prefix) holder cell row is alone

  -- ### In Both

  twins_else : (f : List Command) (cell : Cell) (row : LinkRow) → row.state ≡ Both → BothOk setting top good.stores good.visits good.reached f cell row
      → AliveIn (state_after setting.servers top) cell → IsElsewhere (place_by setting f row) cell → leaving.IsLeftAt it f (place_by setting f row) cell row
      → reached cell ≤ place_by setting f row → AreTwins (news f) visits (place_by setting f row) cell row.primary row.secondary
  twins_else f cell row both ok lives away (Same_store same) last =
      (both_framed (step_at it) f cell row
      (else_leaves f (place_by setting f row) cell row away (λ alive. same)) ok).twins lives last
  twins_else f cell row both ok lives away (Covers whole alone none covered) last = alone_not_both row k alone both
  twins_else f cell row both ok lives away (Gone lost) last = lost_not_both row lost both
  twins_else f cell row both ok lives away (Left_by h whole alone ne none left marks) last = alone_not_both row h alone both

  -- at another prefix of the server's own place
  pub news_here : (f : List Command) (cell : Cell) (row : LinkRow) (n : ℕ) → IsPrefix f top → IsLinked setting f cell row → IsLinked setting prefix cell row
      → place_by setting prefix row ≡ place_by setting f row → has_server n row ≡ true → news prefix n ≡ news f n
  news_here f cell row n is_prefix is mine e has = ap (next n) (joins_here f cell row n is_prefix is mine e has)

  pub olds_here : (f : List Command) (cell : Cell) (row : LinkRow) (n : ℕ) → IsPrefix f top → IsLinked setting f cell row → IsLinked setting prefix cell row
      → place_by setting prefix row ≡ place_by setting f row → has_server n row ≡ true → olds prefix n ≡ olds f n
  olds_here f cell row n is_prefix is mine e has = ap (good.stores n) (joins_here f cell row n is_prefix is mine e has)

  twins_moved : (f : List Command) (cell : Cell) (row : LinkRow) → IsPrefix f top → IsLinked setting f cell row → IsLinked setting prefix cell row
      → place_by setting prefix row ≡ place_by setting f row → AreTwins (news prefix) visits (place_by setting prefix row) cell row.primary row.secondary
      → AreTwins (news f) visits (place_by setting f row) cell row.primary row.secondary
  twins_moved f cell row is_prefix is mine e twins = subst (λ place. AreTwins (news f) visits place cell row.primary row.secondary) e
      (twins_stay (news prefix) (news f) visits visits (place_by setting prefix row) cell row.primary row.secondary
      (here row.primary (primary_is_one row row.primary refl)) (here row.secondary (secondary_is_one row row.secondary refl)) twins)
    where
      here : (n : ℕ) → has_server n row ≡ true → StaysAt (news prefix) (news f) visits visits (place_by setting prefix row) cell n
      here n has = same_stays (news prefix) (news f) visits (place_by setting prefix row) cell n (sym (news_here f cell row n is_prefix is mine e has))

  pub both_kept : (f : List Command) (cell : Cell) (row : LinkRow) → IsPrefix f top → IsLinked setting f cell row → row.state ≡ Both
      → BothOk setting top next visits reached f cell row
  both_kept f cell row is_prefix is both =
      let ok = good.both f cell row is_prefix is both in
      by_bool (has_server k row)
      (λ has. at_or_else f cell row is_prefix is
      (λ mine alive e. record {
        twins = λ lives last. twins_moved f cell row is_prefix is mine e
            (worked.both_now it cell row mine alive lives both has).twins;
      })
      (λ away. record {
        twins = λ lives last. twins_else f cell row both ok lives away
            (left_else f cell row is_prefix is has lives away (last_old cell (place_by setting f row) last)) last;
      }))
      (λ off. both_framed (step_at it) f cell row
      (stranger_leaves f (place_by setting f row) cell row off) ok)

  -- ### Alone

  module _ (f : List Command) (cell : Cell) (row : LinkRow) (holder : ℕ) (whole : Bool) (is_prefix : IsPrefix f top) (is : IsLinked setting f cell row)
      (alone : row.state ≡ Only holder whole) where
    abbrev there : ℕ
    there = place_by setting f row

    abbrev other_one : ℕ
    other_one = other_of holder row

    abbrev links : ℕ
    links = links_of (state_after setting.servers f) cell.map

    ok : AloneOk setting top good.stores good.visits good.reached f cell row holder
    ok = good.alone f cell row holder whole is_prefix is alone

    two : other_one ≢ holder
    two = other_apart row holder ((leaving.steady_at it f is_prefix).linked cell row is).apart

    has_holder : has_server holder row ≡ true
    has_holder = holds f cell row holder whole is_prefix is alone

    -- elsewhere the copies are covered, and the other server is as it was
    beside_else : has_server k row ≡ true → AliveIn (state_after setting.servers top) cell → IsElsewhere there cell → leaving.IsLeftAt it f there cell row
        → reached cell ≤ there
        → AreBeside (news f) visits there row cell holder other_one
    beside_else has lives away (Same_store same) last =
        (alone_framed (step_at it) f cell row holder has_holder
        (else_leaves f there cell row away (λ alive. same)) ok).beside lives last
    beside_else has lives away (Gone lost) last = alone_not_lost row holder alone lost
    beside_else has lives away (Covers kept mine none covered) last =
        let e : holder ≡ k = same_only (sym alone ∙ mine) in
        let ne : other_one ≢ k = λ x. two (x ∙ sym e) in
        let unseen : visits holder there cell ≡ None = ap (λ n. visits n there cell) e ∙ visit_else there cell away ∙ none in
        record {
          alike = record {
            covered = subst (IsCovered row cell (news f holder) (news f other_one)) (sym unseen)
                (subst (λ n. IsCovered row cell (news f n) (news f (other_of n row)) None) (sym e) covered);
            caught = λ by x flagged. none_some unseen x;
          };
          still = λ by x. (ok.beside lives (last_old cell there last)).still by (sym (worked.visit_apart it other_one there cell ne) ∙ x)
              ∙ ap (λ (s : Store). chain_in s.chains cell) (sym (leaving.store_apart it f other_one ne));
        }
    beside_else has lives away (Left_by h kept by_h ne none left marks) last =
        let e : h ≡ holder = same_only (sym by_h ∙ alone) in
        let ne' : holder ≢ k = λ x. ne (e ∙ x) in
        let other_k : other_one ≡ k = other_back row holder k has_holder has ne' in
        let unseen : visits other_one there cell ≡ None = ap (λ n. visits n there cell) other_k ∙ visit_else there cell away ∙ none in
        record {
          alike = record {
            covered = left_cover ne' (subst (leaving.IsStillLeft it f there cell row) e left);
            caught = λ by x flagged.
                let was = sym (worked.visit_apart it holder there cell ne') ∙ x in
                let caught = ok.copying.caught by was flagged in
                true_false (ok.copying.met by was (inl caught.paged)) (ap is_some (ap (λ n. good.visits n there cell) other_k ∙ none));
          };
          still = λ by x. none_some unseen x;
        }
      where
        left_cover : holder ≢ k → leaving.IsStillLeft it f there cell row holder
            → IsCovered row cell (news f holder) (news f other_one) (visits holder there cell)
        left_cover apart (inl marked) = Is_marked_here (subst (λ s. IsMarked s cell) (sym (leaving.store_apart it f holder apart)) marked)
        left_cover apart (inr all) = Is_to_be_copied (subst (λ s. IsToBeCopied row s cell) (sym (leaving.store_apart it f holder apart)) all.0)
            (subst (λ x. NotCopied x row cell.block) (sym (worked.visit_apart it holder there cell apart)) all.1)

    copying_else : IsElsewhere there cell → AreCopying links row cell (visits holder there cell) (visits other_one there cell)
    copying_else away =
        both_same (λ a b. AreCopying links row cell a b) (visits_else holder there cell away) (visits_else other_one there cell away) ok.copying

    -- what was left to copy at the holder is so still
    stays_mine : AliveIn (state_after setting.servers top) cell → holder ≡ k → IsElsewhere there cell → (o : PairState) → good.visits k there cell ≡ Some o
        → ((p : ℕ) → there < p → good.visits other_one p cell ≡ None) → StaysLeft row cell o (olds f k) → StaysLeft row cell o (news f k)
    stays_mine lives e away o visit beyond left = elim (same_or_apart (blank_joins_in setting f k) (blank_joins_in setting top k)) [
      | inr ne ↦ still (store_same (olds f k) (news f k) cell (stored_frozen (step_at it) k (blank_joins_in setting f k) ne))
      | inl now ↦ by now
    ]
      where
        still : LeavesStore (olds f k) (news f k) cell → StaysLeft row cell o (news f k)
        still same = left_on row cell o (olds f k) (news f k) same left

        b : HasBeen setting w k there cell
        b = let h = good.been k there cell o visit in record { prefix = h.prefix; within = h.within; placed = h.placed }

        alive : AliveIn (server_state setting w k) cell
        alive = alive_own cell lives

        mine : (now : LinkRow) × IsLinked setting prefix cell now
        mine = linked_alive setting top firm.plain b.prefix prefix cell b.row b.within (firm.servers k) b.linked alive

        past : there < place_by setting prefix mine.0
        past =
            let up = places_up setting top firm.plain b.prefix prefix cell b.row mine.0 b.within (firm.servers k) b.linked mine.1 in
            let at = b.at in
            below (omega arith) (away mine.0 mine.1 alive)

        by : IsNow f → StaysLeft row cell o (news f k)
        by now = elim (prefixes_meet f prefix top is_prefix (firm.servers k)) [
          | inr p ↦ (let le = places_up setting top firm.plain prefix f cell mine.0 row p is_prefix mine.1 is in absurd (omega (arith, past)))
          | inl p ↦ elim (alone_or_flagged setting records w stores firm good started f prefix cell row mine.0 k whole p (firm.servers k) is
              (alone ∙ ap (λ n. Only n whole) e) mine.1 alive
              (λ q lt. ap (λ n. good.visits (other_of n row) q cell) (sym e) ∙ beyond q lt)) [
                | inl so ↦ held now p so.0 so.1
                | inr (inl lost) ↦
                    let keeps = job.keeping.lost cell mine.0 mine.1 alive lost in
                    still (leaving.left_so it f cell now (record { chain = keeps.rest.chain; marks = keeps.marks }))
                | inr (inr c) ↦ (
                    let visit_h : good.visits holder there cell ≡ Some c.0 = ap (λ n. good.visits n there cell) e ∙ c.1 in
                    let caught = ok.copying.caught c.0 visit_h c.2 in
                    let same : o ≡ c.0 = same_some (sym visit ∙ c.1) in (
                      λ was. absurd (caught.unmarked (subst (λ (x : PairState). IsMarked x.store cell) same was)),
                      λ was copied. absurd (caught.copied (subst (λ (x : PairState). IsToBeCopied row x.store cell) same was)
                          (subst (λ (x : PairState). NotCopied (Some x) row cell.block) same copied)),
                    ))
              ]
        ]
          where
            held : IsNow f → IsPrefix f prefix → (kept : Bool) → mine.0.state ≡ Only k kept → StaysLeft row cell o (news f k)
            held now p kept so =
                let later = rows_later setting top firm.plain f prefix cell row mine.0 p (firm.servers k) is mine.1 in
                let keeps = worked.keeps_holder it cell mine.0 mine.1 alive kept so in (
                  λ was. elim (keeps.marks (subst (λ s. IsMarked s cell) (leaving.store_was it f now) (left.0 was))) [
                    | inl marked ↦ subst (λ s. IsMarked s cell) (sym (leaving.store_now it f now)) marked
                    | inr met ↦ true_false met
                        (ap is_some (ap (λ n. good.visits n (place_by setting prefix mine.0) cell)
                        (other_later row mine.0 k later ∙ ap (λ n. other_of n row) (sym e)) ∙ beyond (place_by setting prefix mine.0) past))
                  ],
                  λ was copied.
                      let all = left.1 was copied in
                      record {
                        whole = all.whole;
                        stored = λ none. keeps.stored (λ empty. all.stored (ap (λ (s : Store). chain_in s.chains cell) (leaving.store_was it f now) ∙ empty))
                            (ap (λ (s : Store). chain_in s.chains cell) (sym (leaving.store_now it f now)) ∙ none);
                      },
                )

    stays_else : AliveIn (state_after setting.servers top) cell → IsElsewhere there cell → (o : PairState) → visits holder there cell ≡ Some o →
        ((p : ℕ) → there < p → visits other_one p cell ≡ None)
        → StaysLeft row cell o (news f holder)
    stays_else lives away o visit beyond =
        let was = sym (visits_else holder there cell away) ∙ visit in
        let unseen : (p : ℕ) → there < p → good.visits other_one p cell ≡ None = λ p lt. none_before (step_at it) other_one p cell (beyond p lt) in
        let now = ok.stays lives o was unseen in
        elim (same_or_apart holder k) [
          | inl e ↦ subst (λ n. StaysLeft row cell o (news f n)) (sym e)
              (stays_mine lives e away o (ap (λ n. good.visits n there cell) (sym e) ∙ was) unseen (subst (λ n. StaysLeft row cell o (olds f n)) e now))
          | inr ne ↦ left_on row cell o (olds f holder) (news f holder)
              (store_same (olds f holder) (news f holder) cell (leaving.store_apart it f holder ne)) now
        ]

    -- marks of the other server are those that it had
    marks_else : other_one ≡ k → leaving.IsLeftAt it f there cell row → IsMarked (news f k) cell → IsMarked (olds f k) cell
    marks_else e (Same_store same) = marks_back (olds f k) (news f k) cell same.marks
    marks_else e (Gone lost) = alone_not_lost row holder alone lost
    marks_else e (Covers kept mine none covered) = absurd (two (e ∙ sym (same_only (sym alone ∙ mine))))
    marks_else e (Left_by h kept by_h ne none left marks) = marks_back (olds f k) (news f k) cell marks

    pub page_else : IsElsewhere there cell → (other_one ≡ k → leaving.IsLeftAt it f there cell row) → (after block : Option ℕ)
        → IsPage cell (olds f other_one) (good.visits other_one there cell) after block
        → IsPage cell (news f other_one) (visits other_one there cell) after block
    page_else away left after block page = record {
      met = ap is_some (visits_else other_one there cell away) ∙ page.met;
      least = λ ahead upto marked. page.least ahead upto (elim (same_or_apart other_one k) [
        | inl e ↦ subst (λ n. IsMarked (olds f n) cell) (sym e) (marks_else e (left e) (subst (λ n. IsMarked (news f n) cell) e marked))
        | inr ne ↦ subst (λ s. IsMarked s cell) (leaving.store_apart it f other_one ne) marked
      ]);
    }

    -- ### The server is of the link

    module _ (has : has_server k row ≡ true) where
      left_here : AliveIn (state_after setting.servers top) cell → IsElsewhere there cell → good.reached cell ≤ there → leaving.IsLeftAt it f there cell row
      left_here lives away last = left_else f cell row is_prefix is has lives away last

      -- a server of the link other than the holder
      is_holder : (h : ℕ) (kept : Bool) (other : LinkRow) → other_of holder row ≡ k → other_of h other ≡ k → IsLater row other ⊎ IsLater other row
          → has_server h other ≡ true → h ≢ k → h ≡ holder
      is_holder h kept other mine its so has_h ne = elim so [
        | inl up ↦ sym (other_back other k h (one_before row other k up ∙ has) has_h (λ e. ne (sym e)))
            ∙ other_later row other k up ∙ other_back row k holder has has_holder (λ e. two (mine ∙ e))
        | inr up ↦ sym (other_later other row k up ∙ other_back other k h (sym (one_before other row k up) ∙ has) has_h (λ e. ne (sym e)))
            ∙ other_back row k holder has has_holder (λ e. two (mine ∙ e))
      ]

      filled_at : (more : List Command) (other : LinkRow) (own : PairState) → IsPrefix more top → IsLinked setting more cell other
          → blank_joins_in setting more other_one ≡ blank_joins_in setting f other_one → good.visits holder (place_by setting more other) cell ≡ Some own
          → HasFilled setting top visits f cell holder other_one
      filled_at more other own within linked joins visit =
          filled_on (step_at it) f cell holder other_one
          (record { more = more; within = within; row = other; linked = linked; joins = joins; own = own; visited = visit })

      -- where the job changes the other server's copy, the holder has been at a place
      changed : AliveIn (state_after setting.servers top) cell → other_one ≡ k → IsNow f →
          (chain_in done.own.store.chains cell ≡ chain_in (w.servers k).own.store.chains cell)
          ⊎ HasFilled setting top visits f cell holder other_one
      changed lives e now = elim (some_or_none (cell_link (server_state setting w k) cell)) [
        | inr none ↦ inl (job.keeping.unlinked cell none (alive_own cell lives)).rest.chain
        | inl h ↦ by_mine h.0 h.1
      ]
        where
          now_at : (more : List Command) → blank_joins_in setting more k ≡ blank_joins_in setting top k
              → blank_joins_in setting more other_one ≡ blank_joins_in setting f other_one
          now_at more same = ap (blank_joins_in setting more) e ∙ same ∙ sym now ∙ ap (blank_joins_in setting f) (sym e)

          -- after the prefix the holder started a ballot
          by_caught : (more : List Command) (kept : Bool) → IsPrefix f prefix → (u : IsCaughtUp setting records w stores firm good f prefix cell holder kept)
              → HasFilled setting top visits f cell holder other_one
          by_caught more kept p u =
              let u_top = prefix_on u.until prefix top u.before (firm.servers k) in
              let low = joins_grow setting.servers f u.until k u.following in
              let high = joins_grow setting.servers u.until top k u_top in
              filled_at u.until u.row u.own u_top u.linked (now_at u.until (omega (arith, now))) u.visited

          by_since : (mine : LinkRow) → IsLinked setting prefix cell mine → IsPrefix f prefix → ((kept : Bool) → mine.state ≡ Only holder kept → ⊥)
              → (mine.state ≡ Lost → ⊥)
              → HasFilled setting top visits f cell holder other_one
          by_since mine linked p not_held not_lost =
              elim (alone_since setting records w stores firm good started f prefix cell row mine holder whole p
              (firm.servers k) is alone linked (alive_own cell lives)) [
                | inl held ↦ absurd (not_held held.0 held.1)
                | inr (inl lost) ↦ absurd (not_lost lost)
                | inr (inr u) ↦ by_caught f whole p u
              ]

          by_mine : (mine : LinkRow) → IsLinked setting prefix cell mine → (chain_in done.own.store.chains cell ≡ chain_in (w.servers k).own.store.chains cell)
              ⊎ HasFilled setting top visits f cell holder other_one
          by_mine mine linked = elim ((leaving.steady_at it prefix (firm.servers k)).linked cell mine linked).served [
            | ByNone one o so pair out ↦ inl (job.keeping.lost cell mine linked (alive_own cell lives) so).rest.chain
            | ByBoth so one o ↦ elim (prefixes_meet f prefix top is_prefix (firm.servers k)) [
              | inl p ↦ inr (by_since mine linked p (λ kept g. alone_not_both mine holder g so) (λ g. lost_not_both mine g so))
              | inr p ↦ elim (both_since setting records w stores firm good k job.works.runs job.works.seat cell mine linked so
                  (has_mine mine linked) f row p is_prefix is (leaving.alive_at it f cell is_prefix lives)) [
                    | inl same ↦ (
                        let one_is = one_row setting top firm.plain prefix f cell mine row (firm.servers k) is_prefix linked is (sym same) in
                        alone_not_both row holder alone (ap (λ (x : LinkRow). x.state) one_is ∙ so))
                    | inr held ↦ absurd (two (e ∙ sym (same_only (sym alone ∙ held.1))))
                  ]
            ]
            | ByOne h o kept so pair out ↦ elim (same_or_apart h k) [
              | inl mine_h ↦ (
                  let its : mine.state ≡ Only k kept = so ∙ ap (λ n. Only n kept) mine_h in
                  elim (prefixes_meet f prefix top is_prefix (firm.servers k)) [
                    | inl p ↦ inr (by_since mine linked p (λ b g. two (e ∙ sym (same_only (sym g ∙ its)))) (λ g. alone_not_lost mine k its g))
                    | inr p ↦ elim (holds_since setting records w stores firm good k job.works.runs job.works.seat cell mine linked started kept
                        its f row p is_prefix is (leaving.alive_at it f cell is_prefix lives)) [
                          | inl held ↦ absurd (two (e ∙ sym (same_only (sym alone ∙ held.1))))
                          | inr flagged ↦ inl (leaving.flagged_leaves it cell lives mine linked
                              (has_mine mine linked) kept its flagged).chain
                        ]
                  ])
              | inr ne ↦ elim (leaving.keeps_other it cell lives mine linked
                  (has_mine mine linked) h kept so ne).changes [
                    | inl chain ↦ inl chain
                    | inr m ↦ (
                        let has_h = holder_is_one (server_state setting w k) (leaving.steady_at it prefix (firm.servers k)) h cell mine linked so in
                        let its = is_holder h kept mine e
                        (leaving.other it cell lives mine linked
                        (has_mine mine linked) h kept so ne) (later_or mine linked) has_h ne in
                        inr (filled_at prefix mine m.by (firm.servers k) linked (now_at prefix job.works.counts)
                        (ap (λ n. good.visits n (place_by setting prefix mine) cell) (sym its) ∙ m.met)))
                  ]
            ]
          ]
            where
              later_or : (mine : LinkRow) → IsLinked setting prefix cell mine → IsLater row mine ⊎ IsLater mine row
              later_or mine linked = elim (prefixes_meet f prefix top is_prefix (firm.servers k)) [
                | inl p ↦ inl (rows_later setting top firm.plain f prefix cell row mine p (firm.servers k) is linked)
                | inr p ↦ inr (rows_later setting top firm.plain prefix f cell mine row p is_prefix linked is)
              ]

              has_mine : (mine : LinkRow) → IsLinked setting prefix cell mine → has_server k mine ≡ true
              has_mine mine linked = elim (later_or mine linked) [
                | inl so ↦ one_before row mine k so ∙ has
                | inr so ↦ sym (one_before mine row k so) ∙ has
              ]

      unfilled_kept : AliveIn (state_after setting.servers top) cell → needs_full_copy row.state ≡ true →
          (chain_in (news f other_one).chains cell ≡ []) ⊎ HasFilled setting top visits f cell holder other_one
      unfilled_kept lives all = elim (same_or_apart other_one k) [
        | inr ne ↦ filled_framed (step_at it) f cell holder other_one
            (ap (λ (s : Store). chain_in s.chains cell) (leaving.store_apart it f other_one ne)) (ok.unfilled lives all)
        | inl e ↦ elim (same_or_apart (blank_joins_in setting f k) (blank_joins_in setting top k)) [
          | inr ne ↦ filled_framed (step_at it) f cell holder other_one
              (ap (λ (s : Store). chain_in s.chains cell) (ap (news f) e
              ∙ stored_frozen (step_at it) k (blank_joins_in setting f k) ne ∙ ap (olds f)
              (sym e))) (ok.unfilled lives all)
          | inl now ↦ elim (changed lives e now) [
            | inl chain ↦ filled_framed (step_at it) f cell holder other_one
                (ap (λ n. chain_in (news f n).chains cell) e ∙ ap (λ (s : Store). chain_in s.chains cell) (leaving.store_now it f now) ∙ chain
                ∙ ap (λ (s : Store). chain_in s.chains cell) (sym (leaving.store_was it f now)) ∙ ap (λ n. chain_in (olds f n).chains cell) (sym e))
                (ok.unfilled lives all)
            | inr fill ↦ inr fill
          ]
        ]
      ]

      alone_else : IsElsewhere there cell → AloneOk setting top next visits reached f cell row holder
      alone_else away = record {
        copying = copying_else away;
        beside = λ lives last. beside_else has lives away (left_here lives away (last_old cell there last)) last;
        stays = λ lives. stays_else lives away;
        unfilled = unfilled_kept;
      }

      alone_at : IsLinked setting prefix cell row → AliveIn (server_state setting w k) cell → place_by setting prefix row ≡ there
          → AloneOk setting top next visits reached f cell row holder
      alone_at mine alive e =
          let now = worked.alone_now it cell row mine alive holder whole alone has in
          let one = news_here f cell row holder is_prefix is mine e has_holder in
          let two_is = news_here f cell row other_one is_prefix is mine e (other_is_one row holder) in
          record {
            copying = subst (λ many. AreCopying many row cell (visits holder there cell) (visits other_one there cell))
                (links_same setting top firm.plain prefix f cell row row (firm.servers k) is_prefix mine is)
                (subst (λ place. AreCopying (links_of (server_state setting w k) cell.map) row cell (visits holder place cell) (visits other_one place cell))
                e now.copying);
            beside = λ lives last. subst (λ place. AreBeside (news f) visits place row cell holder other_one) e
                (beside_stays (news prefix) (news f) visits visits (place_by setting prefix row) cell holder other_one
                (same_stays (news prefix) (news f) visits (place_by setting prefix row) cell holder (sym one))
                (same_stays (news prefix) (news f) visits (place_by setting prefix row) cell other_one (sym two_is)) row
                (now.beside lives (subst (λ place. good.reached cell ≤ place) (sym e) (last_old cell there last))));
            stays = λ lives o visit beyond. subst (StaysLeft row cell o) one
                (now.stays lives o (ap (λ p. visits holder p cell) e ∙ visit) (λ p lt. beyond p (let same = e in omega arith)));
            unfilled = unfilled_kept;
          }

      pub said_alone_at : IsLinked setting prefix cell row → AliveIn (server_state setting w k) cell → place_by setting prefix row ≡ there → (said : Body) →
          (about said).cell ≡ Some cell
          → IsTold row (good.visits holder there cell) (good.visits other_one there cell) said
          → IsTold row (visits holder there cell) (visits other_one there cell) said
      said_alone_at mine alive e said of told =
          let now = worked.alone_now it cell row mine alive holder whole alone has in
          subst (λ place. IsTold row (visits holder place cell) (visits other_one place cell) said) e
          (now.told said of (subst (λ place. IsTold row (good.visits holder place cell) (good.visits other_one place cell) said) (sym e) told))

      pub page_at : AliveIn (state_after setting.servers top) cell → IsLinked setting prefix cell row → AliveIn (server_state setting w k) cell
          → place_by setting prefix row ≡ there → (after block : Option ℕ)
          → IsPage cell (olds f other_one) (good.visits other_one there cell) after block
          → IsPage cell (news f other_one) (visits other_one there cell) after block
      page_at lives mine alive e after block page =
          let now = worked.alone_now it cell row mine alive holder whole alone has in
          let its = other_is_one row holder in
          subst (λ b. IsPage cell b (visits other_one there cell) after block) (news_here f cell row other_one is_prefix is mine e its)
          (subst (λ place. IsPage cell (news prefix other_one) (visits other_one place cell) after block) e
          (now.page lives after block (subst (λ place. IsPage cell (olds prefix other_one) (good.visits other_one place cell) after block) (sym e)
          (subst (λ b. IsPage cell b (good.visits other_one there cell) after block) (sym (olds_here f cell row other_one is_prefix is mine e its)) page))))

    pub alone_kept : AloneOk setting top next visits reached f cell row holder
    alone_kept = by_bool (has_server k row)
        (λ has. at_or_else f cell row is_prefix is (alone_at has) (alone_else has))
        (λ off. alone_framed (step_at it) f cell row holder has_holder
        (stranger_leaves f there cell row off) ok)
