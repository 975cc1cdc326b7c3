-- What a job of a server that is In as itself leaves of its store, as other prefixes than those at its own place see it.
use Rattle.law_copies.proofs.Imports.{◌<◌, ◌==◌, ◌∙◌, ◌≡◌, ◌≢◌, ◌≤◌, ◌⊎◌, Bool, Both, Busy, ByBoth, ByNone, ByOne, Cell, Command, IsLater, IsMarked, IsPrefix}
use Rattle.law_copies.proofs.Imports.{IsSteady, IsToBeCopied, LinkRow, List, Lost, MarkKind, None, Only, Option, PairState, Some, Stale, Store, above, ap}
use Rattle.law_copies.proofs.Imports.{arith, blank_joins_in, chain_in, chosen_log, false, has_server, id_of, inl, inr, is_flagged, is_marked, is_some}
use Rattle.law_copies.proofs.Imports.{joins_grow, log_steady, needs_full_copy, none_some, number_itself, other_of, prefix_itself, prefix_plain, progress_on}
use Rattle.law_copies.proofs.Imports.{refl, same_or_apart, server_state, serves, some_or_none, state_after, subst, sym, true, true_false, ℕ}
use Rattle.law_copies.specs.CopyProgress.{IsCovered, NotCopied, links_of}
use Rattle.law_copies.specs.LoneSteps.{IsLeftBy, OtherKeeps}
use Rattle.law_copies.specs.Visits.{AliveIn, IsLinked, place_by}
use Rattle.law_copies.proofs.VisitsAfterSteps.{then_of, stored_apart, stored_by, was_stored}
use Rattle.law_copies.proofs.AtJob.{AtJob, seat_at, step_at}
use Rattle.law_copies.proofs.JoinsBetweenPrefixes.{held_same, to_fill}
use Rattle.law_copies.proofs.FramesKeepPrefixes.{LeavesStore}
use Rattle.law_copies.proofs.NewPlaces.{both_cover, cover_again}
use Rattle.law_copies.proofs.ServedAtLaterPrefixes.{IsSince, alone_last, alone_or_flagged, both_since, both_still, held_still, holder_is_one, holds_since}
use Rattle.law_copies.proofs.ServedAtLaterPrefixes.{not_reached, not_serving, serves_its, unseen_beyond}
use Rattle.law_copies.proofs.OtherIsNotHolder.{other_apart}
use Rattle.law_copies.proofs.PlacesByPrefixes.{alive_on, at_most_or_above, prefixes_meet, other_later, places_up, rows_later}
use Rattle.law_copies.proofs.BlankJoinsRenewLinks.{filled_cover}
use Rattle.law_copies.proofs.PlacesBeforeJobs.{other_back}
use Rattle.law_copies.proofs.PlacesBeforeJobs as seated
use Rattle.law_copies.proofs.JobsKeepOwnPlaces as worked

both_off : (a b : Bool) → (a ≡ true → ⊥) → (b ≡ true → ⊥) → a ≡ b
both_off true b f g = absurd (f refl)
both_off false true f g = absurd (g refl)
both_off false false f g = refl

pub below : {a b : ℕ} → a ≤ b → a ≢ b → a < b
below {a} {b} le ne = elim (at_most_or_above b a) [ inl more ↦ absurd (ne (omega arith)) | inr lt ↦ lt ]

-- a cell that is marked neither before nor after has the same marks
marks_none : (old new : Store) (cell : Cell) → (IsMarked old cell → ⊥) → (IsMarked new cell → ⊥) → (kind : MarkKind)
    → is_marked new kind cell ≡ is_marked old kind cell
marks_none old new cell before after Busy = both_off (is_marked new Busy cell) (is_marked old Busy cell) (λ e. after (inl e)) (λ e. before (inl e))
marks_none old new cell before after Stale = both_off (is_marked new Stale cell) (is_marked old Stale cell) (λ e. after (inr e)) (λ e. before (inr e))

-- the holder has copied nothing while the other server was never there
not_copied : (visit : Option PairState) (row : LinkRow) (block : ℕ) → ((own : PairState) → visit ≡ Some own → is_some (progress_on own row).copied ≡ true → ⊥)
    → NotCopied visit row block
not_copied None row block never = tt
not_copied (Some own) row block never = elim (some_or_none (progress_on own row).copied) [
  | inl h ↦ absurd (never own refl (ap is_some h.1))
  | inr none ↦ ap (λ o. above o block) none
]

module _ (it : AtJob) where
  open it use {setting, records, w, stores, k, server, good, firm, done, job, started}
  open then_of (step_at it) use {visits, next, olds, news}

  abbrev pub top : List Command
  top = chosen_log setting w

  abbrev pub prefix : List Command
  prefix = (w.servers k).log.applied

  -- the server has joined with an empty store no more often than by this prefix
  abbrev pub IsNow : List Command → Type 0
  IsNow f = blank_joins_in setting f k ≡ blank_joins_in setting top k

  pub store_was : (f : List Command) → IsNow f → olds f k ≡ (w.servers k).own.store
  store_was f same = was_stored (step_at it) f same ∙ job.works.real

  pub store_now : (f : List Command) → IsNow f → news f k ≡ done.own.store
  store_now f same = stored_by (step_at it) f same ∙ ap (λ (o : PairState). o.store) job.own_is

  pub store_apart : (f : List Command) (n : ℕ) → n ≢ k → news f n ≡ olds f n
  store_apart f n ne = stored_apart (step_at it) n (blank_joins_in setting f n) ne

  pub steady_at : (f : List Command) → IsPrefix f top → IsSteady (state_after setting.servers f)
  steady_at f is_prefix = log_steady setting.servers f (prefix_plain setting.servers f top firm.plain is_prefix)

  -- what the holder has left to copy at a place, by its store by these entries
  abbrev pub IsStillLeft : List Command → (place : ℕ) → Cell → LinkRow → (h : ℕ) → Type 0
  IsStillLeft f place cell row h = IsMarked (olds f h) cell ⊎ (IsToBeCopied row (olds f h) cell × NotCopied (good.visits h place cell) row cell.block)

  -- the step leaves the server's store as it was of the cell; or the server holds the link alone there, where it has not been yet, and
  -- the copies are covered; or the holder has the block left to copy, and the server has not been there
  pub data IsLeftAt (f : List Command) (place : ℕ) (cell : Cell) (row : LinkRow) : Type 0 where
    Same_store : LeavesStore (olds f k) (news f k) cell → IsLeftAt f place cell row
    Covers : (whole : Bool) → row.state ≡ Only k whole → good.visits k place cell ≡ None → IsCovered row cell (news f k) (news f (other_of k row)) None
        → IsLeftAt f place cell row
    Gone : row.state ≡ Lost → IsLeftAt f place cell row
    Left_by : (h : ℕ) (whole : Bool) → row.state ≡ Only h whole → h ≢ k → good.visits k place cell ≡ None → IsStillLeft f place cell row h
        → ((kind : MarkKind) → is_marked (news f k) kind cell ≡ is_marked (olds f k) kind cell) → IsLeftAt f place cell row

  -- of a store that the job leaves so
  pub left_so : (f : List Command) (cell : Cell) → IsNow f → LeavesStore (w.servers k).own.store done.own.store cell → LeavesStore (olds f k) (news f k) cell
  left_so f cell same leaves = subst (λ a. LeavesStore a (news f k) cell) (sym (store_was f same))
      (subst (λ b. LeavesStore (w.servers k).own.store b cell) (sym (store_now f same)) leaves)

  -- a cell that is not retired by what is chosen is not retired at any prefix
  pub alive_at : (f : List Command) (cell : Cell) → IsPrefix f top → AliveIn (state_after setting.servers top) cell
      → AliveIn (state_after setting.servers f) cell
  alive_at f cell is_prefix lives = alive_on setting top firm.plain f top cell is_prefix (prefix_itself top) lives

  module _ (cell : Cell) (lives : AliveIn (state_after setting.servers top) cell) (mine : LinkRow) (is : IsLinked setting prefix cell mine)
      (has : has_server k mine ≡ true) where
    abbrev place : ℕ
    place = place_by setting prefix mine

    alive : AliveIn (server_state setting w k) cell
    alive = alive_at prefix cell (firm.servers k) lives

    apart : mine.primary ≢ mine.secondary
    apart = ((steady_at prefix (firm.servers k)).linked cell mine is).apart

    -- as the holder that has started its ballot
    pub flagged_leaves : (whole : Bool) → mine.state ≡ Only k whole → is_flagged (w.servers k).own (id_of mine) ≡ true
        → LeavesStore (w.servers k).own.store done.own.store cell
    flagged_leaves whole alone flagged =
        let keeps = worked.keeps_holder it cell mine is alive whole alone in
        let kept = keeps.caught flagged in
        let caught = (seated.copying_here (seat_at it) cell mine is alive whole alone).caught
        (w.servers k).own refl flagged in
        record { chain = kept.0; marks = marks_none (w.servers k).own.store done.own.store cell caught.unmarked kept.1 }

    -- as one of the servers of a link that is Lost
    pub lost_leaves : mine.state ≡ Lost → LeavesStore (w.servers k).own.store done.own.store cell
    lost_leaves lost = let keeps = job.keeping.lost cell mine is alive lost in record { chain = keeps.rest.chain; marks = keeps.marks }

    module _ (h : ℕ) (whole : Bool) (alone : mine.state ≡ Only h whole) (ne : h ≢ k) where
      pub other : other_of h mine ≡ k
      other = other_back mine h k (holder_is_one (server_state setting w k) (steady_at prefix (firm.servers k)) h cell mine is alone) has ne

      pub keeps_other : OtherKeeps (links_of (server_state setting w k) cell.map) mine cell (good.visits h place cell) (w.servers k).own done
      keeps_other = worked.keeps_other it cell mine is alive h whole alone other has

      unseen_later : (p : ℕ) → place < p → good.visits (other_of h mine) p cell ≡ None
      unseen_later p lt = ap (λ n. good.visits n p cell) other ∙ unseen_beyond setting records w stores firm good k cell mine is p lt

      -- as the other server, where the holder had not left the block to copy
      other_leaves : (IsLeftBy mine (good.visits h place cell) cell → ⊥) → LeavesStore (w.servers k).own.store done.own.store cell
      other_leaves never = elim keeps_other.changes [
        | inl chain ↦ record { chain = chain; marks = keeps_other.marks }
        | inr m ↦ absurd (never m)
      ]

    module _ (f : List Command) (row : LinkRow) (is_prefix : IsPrefix f top) (end : IsLinked setting f cell row) (ne_place : place_by setting f row ≢ place)
        (last : good.reached cell ≤ place_by setting f row) (now : IsNow f) where
      -- at a prefix before the server's own place
      before_leaves : place_by setting f row < place → IsLeftAt f (place_by setting f row) cell row
      before_leaves lt =
          let idle = not_serving setting records w stores firm good k cell mine job.works.seat is alive (omega arith) in
          elim ((steady_at prefix (firm.servers k)).linked cell mine is).served [
            | ByBoth so one two ↦ true_false (ap (serves k mine) so ∙ has) idle
            | ByOne h o whole so pair out ↦ (
                let ne : h ≢ k = λ e. true_false (ap (serves k mine) so ∙ (λ i. h == sym e i) ∙ number_itself h) idle in
                Same_store (left_so f cell now (other_leaves h whole so ne (λ m.
                none_some (not_reached setting records w stores firm good prefix cell mine h (firm.servers k) is (serves_its h mine so) (omega arith))
                m.met))))
            | ByNone one o so pair out ↦ Same_store (left_so f cell now (lost_leaves so))
          ]

      alive_then : AliveIn (state_after setting.servers f) cell
      alive_then = alive_at f cell is_prefix lives

      module _ (on : IsPrefix prefix f) (past : place < place_by setting f row) where
        unseen : good.visits k (place_by setting f row) cell ≡ None
        unseen = unseen_beyond setting records w stores firm good k cell mine is (place_by setting f row) past

        later_row : IsLater mine row
        later_row = rows_later setting top firm.plain prefix f cell mine row on is_prefix is end

        abbrev beside_k : ℕ
        beside_k = other_of k mine

        same_other : other_of k row ≡ beside_k
        same_other = other_later mine row k later_row

        -- where the other server has the same store, what covers the copies by the server's own entries covers them there
        same_covers : (whole : Bool) → row.state ≡ Only k whole → blank_joins_in setting prefix beside_k ≡ blank_joins_in setting f beside_k
            → IsCovered row cell (news prefix k) (news prefix beside_k) None → IsLeftAt f (place_by setting f row) cell row
        same_covers whole so joins covered = Covers whole so unseen
            (subst (λ n. IsCovered row cell (news f k) (news f n) None) (sym same_other)
            (subst (λ a. IsCovered row cell a (news f beside_k) None) (store_now prefix job.works.counts ∙ sym (store_now f now))
            (subst (λ b. IsCovered row cell (news prefix k) b None) (ap (next beside_k) joins) covered)))

        -- where it came back with nothing since, it has nothing of the cell, and all is to be copied
        fresh_covers : {B : Type 0} → IsSince setting records w stores firm good k job.works.runs job.works.seat cell mine is B → (whole : Bool)
            → row.state ≡ Only k whole → blank_joins_in setting prefix beside_k < blank_joins_in setting f beside_k
            → IsLeftAt f (place_by setting f row) cell row ⊎ B
        fresh_covers since whole so lt =
            elim (to_fill setting records w stores firm good started k cell mine is has since f row whole on is_prefix end lives so lt) [
              | inl u ↦ inl (Covers whole so unseen (filled_cover row cell (news f k) (news f (other_of k row)) u.whole
                  (ap (λ (s : Store). chain_in s.chains cell) (store_apart f (other_of k row) (λ e. other_apart mine k apart (sym same_other ∙ e)))
                  ∙ u.empty)))
              | inr other ↦ inr other
            ]

        -- it shares the link at its own place
        both_leaves : mine.state ≡ Both → IsLeftAt f (place_by setting f row) cell row
        both_leaves both =
            elim (both_since setting records w stores firm good k job.works.runs job.works.seat cell mine is both has f row on is_prefix end alive_then) [
              | inl same ↦ absurd (ne_place same)
              | inr alone ↦ elim (at_most_or_above (blank_joins_in setting f beside_k) (blank_joins_in setting prefix beside_k)) [
                | inl le ↦ (
                    let twins = (worked.both_now it cell mine is alive lives both has).twins in
                    same_covers alone.0 alone.1 (let up = joins_grow setting.servers prefix f beside_k on in omega arith)
                    (both_cover (news prefix) visits place mine row cell twins k has))
                | inr lt ↦ elim (fresh_covers (both_still setting records w stores firm good k job.works.runs job.works.seat cell mine is both has)
                    alone.0 alone.1 lt) [ inl left ↦ left | inr never ↦ absurd never ]
              ]
            ]

        -- it holds it alone
        holder_leaves : (whole : Bool) → mine.state ≡ Only k whole → IsLeftAt f (place_by setting f row) cell row
        holder_leaves whole alone =
            elim (holds_since setting records w stores firm good k job.works.runs job.works.seat cell mine is started whole alone f
            row on is_prefix end alive_then) [
              | inl so ↦ elim (at_most_or_above (blank_joins_in setting f beside_k) (blank_joins_in setting prefix beside_k)) [
                | inl le ↦ elim (alone_last setting records w stores firm good k job.works.runs job.works.seat cell mine is started whole alone) [
                  | inl last_here ↦ (
                      let beside =
                      (worked.alone_now it cell mine is alive k whole alone has).beside lives last_here in
                      same_covers so.0 so.1 (let up = joins_grow setting.servers prefix f beside_k on in omega arith)
                      (cover_again mine row cell (news prefix k) (news prefix beside_k) (visits k place cell)
                      (λ all. ap needs_full_copy so.1 ∙ so.2 (sym (ap needs_full_copy alone) ∙ all)) beside.alike.covered))
                  | inr flagged ↦ Same_store (left_so f cell now (flagged_leaves whole alone flagged))
                ]
                | inr lt ↦ elim (fresh_covers
                    (held_still setting records w stores firm good k job.works.runs job.works.seat cell mine is started whole alone) so.0 so.1 lt) [
                      | inl left ↦ left
                      | inr flagged ↦ Same_store (left_so f cell now (flagged_leaves whole alone flagged))
                    ]
              ]
              | inr flagged ↦ Same_store (left_so f cell now (flagged_leaves whole alone flagged))
            ]

        -- the other server holds it
        other_left : (h : ℕ) (whole : Bool) → mine.state ≡ Only h whole → h ≢ k → IsLeftAt f (place_by setting f row) cell row
        other_left h whole alone ne = elim (keeps_other h whole alone ne).changes [
          | inl chain ↦ Same_store (left_so f cell now (record { chain = chain; marks = (keeps_other h whole alone ne).marks }))
          | inr m ↦ elim (alone_or_flagged setting records w stores firm good started prefix f cell mine row h whole on is_prefix is alone end alive_then
              (unseen_later h whole alone ne)) [
                | inl so ↦
                    elim (held_same setting records w stores firm good started prefix f cell mine row h whole so.0 on is_prefix is alone end alive_then so.1
                    (unseen_later h whole alone ne)) [
                      | inl joins ↦ Left_by h so.0 so.1 ne unseen (still_left m so.0 so.1 so.2 joins)
                          (λ kind. ap (λ s. is_marked s kind cell) (store_now f now) ∙ (keeps_other h whole alone ne).marks kind
                          ∙ ap (λ s. is_marked s kind cell) (sym (store_was f now)))
                      | inr c ↦ worked.not_caught it cell mine is alive h whole alone
                          (other h whole alone ne) has m c.0 c.1 c.2
                    ]
                | inr (inl lost) ↦ Gone lost
                | inr (inr c) ↦ worked.not_caught it cell mine is alive h whole alone
                    (other h whole alone ne) has m c.0 c.1 c.2
              ]
        ]
          where
            -- nothing is copied at a place at which the server was not
            nothing_copied : (last_whole : Bool) → row.state ≡ Only h last_whole → NotCopied (good.visits h (place_by setting f row) cell) row cell.block
            nothing_copied last_whole so = not_copied (good.visits h (place_by setting f row) cell) row cell.block (λ own visit copied.
                let met = (good.alone f cell row h last_whole is_prefix end so).copying.met own visit (inr (inr copied)) in
                let other_row_is : other_of h row ≡ k = other_later mine row h later_row ∙ other h whole alone ne in
                true_false met (ap is_some (ap (λ n. good.visits n (place_by setting f row) cell) other_row_is ∙ unseen)))

            still_left : IsLeftBy mine (good.visits h place cell) cell → (last_whole : Bool) → row.state ≡ Only h last_whole
                → (whole ≡ true → last_whole ≡ true)
                → blank_joins_in setting prefix h ≡ blank_joins_in setting f h → IsStillLeft f (place_by setting f row) cell row h
            still_left m last_whole so kept joins =
                let same : olds prefix h ≡ olds f h = ap (good.stores h) joins in
                elim (worked.left_still it cell mine is alive h whole alone
                (other h whole alone ne) has lives m) [
                  | inl marked ↦ inl (subst (λ s. IsMarked s cell) same marked)
                  | inr all ↦ inr (
                    record {
                      whole = ap needs_full_copy so ∙ kept (sym (ap needs_full_copy alone) ∙ all.0.whole);
                      stored = λ none. all.0.stored (ap (λ (s : Store). chain_in s.chains cell) same ∙ none);
                    },
                    nothing_copied last_whole so,
                  )
                ]

      pub linked_left : IsLeftAt f (place_by setting f row) cell row
      linked_left = elim (prefixes_meet f prefix top is_prefix (firm.servers k)) [
        | inl p ↦ (
            let le = places_up setting top firm.plain f prefix cell row mine p (firm.servers k) end is in
            before_leaves (below le (λ e. ne_place e)))
        | inr p ↦ (
            let le = places_up setting top firm.plain prefix f cell mine row p is_prefix is end in
            let past = below le (λ e. ne_place (sym e)) in
            elim ((steady_at prefix (firm.servers k)).linked cell mine is).served [
              | ByBoth so one two ↦ both_leaves p past so
              | ByOne h o whole so pair out ↦ elim (same_or_apart h k) [
                | inl e ↦ holder_leaves p past whole (so ∙ ap (λ n. Only n whole) e)
                | inr ne ↦ other_left p past h whole so ne
              ]
              | ByNone one o so pair out ↦ Same_store (left_so f cell now (lost_leaves so))
            ])
      ]
