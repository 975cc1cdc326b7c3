-- An era rises after reports: while a server stays In as one incarnation, the active fence that holds a cell's writes awaits its report.
use Rattle.law_state.proofs.Imports.{[], if◌then◌else◌, ◌&&◌, ◌++◌, ◌+◌, ◌<◌, ◌==◌, ◌||◌, ◌∙◌, ◌∷◌, ◌≡◌, ◌≢◌, ◌≤◌, ◌⊎◌, All, Bool, Cell, Command, DiskRow}
use Rattle.law_state.proofs.Imports.{Drained, Fence, FenceKind, Hold, IsPrefix, Leave, List, New, No, None, Old, Region, Some, State, Verdict, View, Whole}
use Rattle.law_state.proofs.Imports.{Writes, act, after, all_noted, ap, arith, awaits, by_bool, false, fold-append, head, held, holds, inl, inr, is_all_held}
use Rattle.law_state.proofs.Imports.{is_head, is_of, is_tuple, is_up, is_up_as, is_writes_held, length, links_of, list_any, named, nat_eq, number_itself}
use Rattle.law_state.proofs.Imports.{option_map_or, passed, queued, ready, refl, region_of, replicate, row_fenced, row_frozen, row_moving, row_noted}
use Rattle.law_state.proofs.Imports.{same_numbers, same_or_apart, same_some, servers_in, settled, settled_none, settled_one, slice_get, some_or_none, start}
use Rattle.law_state.proofs.Imports.{state_after, subst, sym, told, true, true_false, unwrap_or, view-effect, with_disk, with_fence, with_link, with_move, ℕ}
use Rattle.spec_rules.specs.State.{is_in}
use Rattle.law_state.specs.Epochs.{HasReported, HasReportedBy}
use Rattle.law_state.specs.Homes.{epoch_at, era_at, new_stage, old_stage, stage_at, stage_of}
use Rattle.law_state.specs.Plain.{HasProperTuple, HasProperTuples}
use Rattle.law_state.specs.Tables.{IsForSnapshot, IsSettledState, Of_disk, Of_region}
use Rattle.law_state.proofs.Ages.{in_once, in_up}
use Rattle.law_state.proofs.EntriesOnlyAdd.{acting, log_plain}
use Rattle.law_state.proofs.Eras.{HasRows, IsKept, era_low, fenced_apart, holds_before, kept_by_place, kept_by_stage, lives, low_now, rows_of, stage_now}
use Rattle.law_state.proofs.Eras.{stage_was}
use Rattle.law_state.proofs.Fences.{Acted, IsReady, IsUnsettled, head_awaiting, head_after, head_get, head_queued, head_reported, none_ready, present_waits}
use Rattle.law_state.proofs.Fences.{ready_by, waits_still}
use Rattle.law_state.proofs.Leaves.{left_by}
use Rattle.law_state.proofs.MapsAreAdded.{making}
use Rattle.law_state.proofs.MovesOfDisks.{IsNoting, at_row, begins, known, low_map, moved_state, noted_state, noting, onward, over, row_now}
use Rattle.law_state.proofs.LinksAreNoted.{keeps_old}
use Rattle.law_state.proofs.FencesPass.{in_settled, one_passed, passed_beside, passed_here, passing, region_beside, region_here, region_row}
use Rattle.law_state.proofs.ListLookups.{get_prefix, get_replicate}
use Rattle.law_state.proofs.DiskRowChanges.{beside, here, here_now}
use Rattle.law_state.proofs.Steady.{prefix_plain, log_below}
use Rattle.law_state.proofs.EntryByEntry.{NextEntry, by_entries, in_between, settled_there}
use Rattle.law_state.proofs.EntryOutcomes.{Begins, Ends, Leaves, Makes, Moves_on, Notes, Outcome, Queues, Reports, outcome}
use Rattle.law_state.proofs.Stages.{low_region}
use Rattle.global_tables.specs.View as view

-- which holds of fences count: those of writes, by which eras rise, or those of reads too, which fences for regions have alone
module _ (which : Hold → Bool) (every : which All ≡ true) (nothing : which No ≡ false) where
  -- the server's report is awaited, where the active fence holds the cell's writes
  abbrev IsAwaited : State → ℕ → Cell → Type 0
  IsAwaited s n cell = (fence : Fence) → head s.view.queue ≡ Some fence → which (holds s cell fence.kind) ≡ true → awaits fence n ≡ true

  -- who waits for this server waits for somebody
  waits_somebody : (fence : Fence) (n : ℕ) → awaits fence n ≡ true → fence.waiting ≢ []
  waits_somebody fence n waits none = true_false waits (ap (list_any (nat_eq n)) none)

  -- what the active fence holds
  held_by : (s : State) (cell : Cell) (fence : Fence) → head s.view.queue ≡ Some fence → which (holds s cell fence.kind) ≡ true
      → which (held s cell) ≡ true
  held_by s cell fence is on = ap (λ o. which (option_map_or (λ (f : Fence). holds s cell f.kind) o No)) is ∙ on

  unheld_awaited : (s : State) (n : ℕ) (cell : Cell) → which (held s cell) ≡ false → IsAwaited s n cell
  unheld_awaited s n cell free fence is on = true_false (held_by s cell fence is on) free

  -- the fence is awaited, and the cell is live as before, and of the same epoch
  record IsStill (s : State) (n : ℕ) (cell : Cell) (t : State) : Type 0 where
    awaited : IsAwaited t n cell
    epoch : which Writes ≡ true → epoch_at t cell ≡ epoch_at s cell
    low : 1 ≤ stage_at t cell
    high : stage_at t cell ≤ 2

  still_itself : (s : State) (n : ℕ) (cell : Cell) → IsAwaited s n cell → 1 ≤ stage_at s cell → stage_at s cell ≤ 2 → IsStill s n cell s
  still_itself s n cell awaited low high = record { awaited = awaited; epoch = λ on. refl; low = low; high = high }

  -- ### Fences that pass

  module _ (servers : ℕ) (s : State) (p : IsUnsettled servers s) (n : ℕ) (cell : Cell) (awaited : IsAwaited s n cell) (up : is_up s n ≡ true)
      (low : 1 ≤ stage_at s cell) (high : stage_at s cell ≤ 2) where
    -- one that does not hold the cell's writes leaves it as it is
    module _ (fence : Fence) (is : ready s.view.queue ≡ Some fence) where
      abbrev r : IsReady s.view.queue fence
      r = ready_by s.view.queue fence is

      first : slice_get s.view.queue 0 ≡ Some fence
      first = head_get s.view.queue fence r.first

      abbrev t : State
      t = one_passed s fence

      q : Acted servers s t
      q = passing servers s p fence first

      unheld : which (holds s cell fence.kind) ≡ false
      unheld = by_bool (which (holds s cell fence.kind)) (λ on. absurd (waits_somebody fence n (awaited fence r.first on) r.nobody)) (λ f. f)

      abbrev rows : HasRows servers s t p q cell low high
      rows = rows_of servers s t p q cell low high

      of_disk : (disk : ℕ) → rows.place ≡ disk → is_of s disk cell.map ≡ true
      of_disk disk same =
          ap (λ o. option_map_or (λ (row : DiskRow). row.id == disk) o false) rows.owned
          ∙ ap (λ k. k == disk) ((p.rows rows.place rows.row rows.stands).id ∙ same) ∙ number_itself disk

      -- the cell stays live, and does not leave; and its epoch is the same, where the fences of snapshots count
      record IsKeptSo : Type 0 where
        epoch : which Writes ≡ true → epoch_at t cell ≡ epoch_at s cell
        settled : stage_at t cell ≤ 2

      kept_so : IsKept servers s t p q cell low high → IsKeptSo
      kept_so k = record { epoch = λ on. k.epoch; settled = k.settled }

      -- a fence for a snapshot leaves the regions as they are
      snapshot_kept : (h : IsForSnapshot s fence) → rows.place ≡ h.disk → IsKeptSo
      snapshot_kept h same = record {
        epoch = λ on. true_false
            (ap (λ k. which (holds s cell k)) h.kind ∙ ap (λ b. which (if b then Writes else No)) (of_disk h.disk same) ∙ on) unheld;
        settled =
            (let was = stage_was servers s t p q cell low high in
            let now = stage_now servers s t p q cell low high in
            let there : h.row ≡ rows.row =
            same_some (sym (here servers s p h.disk h.row h.known (row_frozen h.name)) ∙ ap (slice_get s.disks.rows) (sym same) ∙ rows.stands) in
            let later : row_frozen h.name h.row ≡ rows.now =
            same_some (sym (passed_here servers s p fence first h) ∙ ap (slice_get t.disks.rows) (sym same) ∙ rows.there) in
            let e : stage_of cell rows.now ≡ stage_of cell rows.row = ap (stage_of cell) (sym later) ∙ ap (stage_of cell) there in
            omega arith);
      }

      kept : IsKeptSo
      kept = elim (p.fences.each 0 fence first) [
        | Of_disk h ↦ elim (same_or_apart rows.place h.disk) [
          | inr ne ↦ kept_so (kept_by_place servers s t p q cell low high (passed_beside servers s p fence first h rows.place ne))
          | inl same ↦ snapshot_kept h same
        ]
        | Of_region h ↦ elim (same_or_apart rows.place h.disk) [
          | inr ne ↦ kept_so (kept_by_place servers s t p q cell low high (region_beside servers s p fence first h rows.place ne))
          | inl same ↦
              let there : h.row ≡ rows.row = same_some (sym (region_row servers s p fence first h) ∙ ap (slice_get s.disks.rows) (sym same) ∙ rows.stands) in
              let now : row_fenced h.region h.row ≡ rows.now =
              same_some (sym (region_here servers s p fence first h) ∙ ap (slice_get t.disks.rows) (sym same) ∙ rows.there) in
              elim (same_or_apart (region_of cell.block) h.region) [
                | inl at ↦ true_false
                    (ap (λ k. which (holds s cell k)) h.kind
                    ∙ (λ i. which (if of_disk h.disk same i && (h.region == at i) && lives servers s t p q cell low high i then All else No))
                    ∙ ap (λ b. which (if true && b && true then All else No)) (number_itself h.region) ∙ every) unheld
                | inr ne ↦ kept_so (kept_by_stage servers s t p q cell low high
                    (ap (λ (x : DiskRow). x.epoch) (sym now) ∙ ap (λ (x : DiskRow). x.epoch) there)
                    (λ le.
                    let e : stage_of cell rows.now ≡ stage_of cell rows.row =
                    ap (stage_of cell) (sym now) ∙ fenced_apart cell h.row h.region h.move h.moves ne ∙ ap (stage_of cell) there in
                    omega arith))
              ]
        ]
      ]

      passes : IsStill s n cell (settled s)
      passes =
          let viewed : t.view ≡ passed s.view = view-effect fence.kind (record s { view = passed s.view }) in
          let next = λ (f : Fence) (e : head t.view.queue ≡ Some f).
          present_waits s.view.members f n
          (head_after (servers_in s.view.members) s.view.queue f (sym (ap (λ (v : View). head v.queue) viewed) ∙ e)) up in
          let quiet : settled t ≡ t = settled_none t (none_ready t.view.queue (λ f e. waits_somebody f n (next f e))) in
          subst (IsStill s n cell) (sym (settled_one s fence is ∙ quiet)) (record {
            awaited = λ f e on. next f e;
            epoch = kept.epoch;
            low = low_now servers s t p q cell low high;
            high = kept.settled;
          })

    settles_still : IsStill s n cell (settled s)
    settles_still = elim (some_or_none (ready s.view.queue)) [
      | inl h ↦ passes h.0 h.1
      | inr none ↦ subst (IsStill s n cell) (sym (settled_none s none)) (still_itself s n cell awaited low high)
    ]

  -- ### An entry

  -- a Leave has the active fence wait for all that are In
  left_awaited : (s : State) (server n inc : ℕ) (cell : Cell) → is_up_as (left_by s server) n inc ≡ true → 1 ≤ stage_at s cell → stage_at s cell ≤ 2
      → IsStill s n cell (left_by s server)
  left_awaited s server n inc cell seated low high =
      let t = left_by s server in record {
        awaited = λ fence e on. present_waits t.view.members fence n (head_awaiting (servers_in t.view.members) s.view.queue fence e) (in_up t n inc seated);
        epoch = λ on. refl;
        low = low;
        high = high;
      }

  -- the entry is the server's report to the fence that holds the cell's writes
  record IsReport (s : State) (entry : Command) (n inc : ℕ) (cell : Cell) : Type 0 where
    fence : ℕ
    is : entry ≡ Drained n inc fence
    holds : which (held s cell) ≡ true

  -- a server that is In, and that the active fence awaits where it holds the cell
  module _ (servers : ℕ) (s : State) (p : IsSettledState servers s) (n inc : ℕ) (cell : Cell) (seated : is_up_as s n inc ≡ true)
      (awaited : IsAwaited s n cell) (low : 1 ≤ stage_at s cell) (high : stage_at s cell ≤ 2) where
    -- what an entry comes to
    abbrev Comes : Command → State → Type 0
    Comes entry t = is_up_as t n inc ≡ true → IsStill s n cell t ⊎ IsReport s entry n inc cell

    abbrev u : IsUnsettled servers s
    u = p.unsettled

    -- where the active fence is the one before, or awaits all, and the cell is kept
    goes_on : (t : State) (acted : Acted servers s t) → IsKept servers s t u acted cell low high
        → ((fence : Fence) → head t.view.queue ≡ Some fence → (head s.view.queue ≡ Some fence) ⊎ (awaits fence n ≡ true)) → IsStill s n cell t
    goes_on t acted kept heads = record {
      awaited = λ fence e on. elim (heads fence e) [
        | inl old ↦ awaited fence old (holds_before servers s t u acted cell low high which nothing fence.kind on)
        | inr waits ↦ waits
      ];
      epoch = λ on. kept.epoch;
      low = low_now servers s t u acted cell low high;
      high = kept.settled;
    }

    -- what clients are told is of no table
    told_still : (t : State) (client seq : ℕ) (verdict : Verdict) → IsStill s n cell t → IsStill s n cell (told t client seq verdict)
    told_still t client seq verdict h = record { awaited = h.awaited; epoch = h.epoch; low = h.low; high = h.high }

    made_still : (name tuple : List ℕ) → named s.disks.rows name ≡ None → is_tuple servers tuple ≡ true → IsStill s n cell (with_disk s name tuple)
    made_still name tuple fresh proper =
        let t = with_disk s name tuple in
        let q = making servers s p name tuple fresh proper in
        let rows = rows_of servers s t u q cell low high in
        goes_on t q
        (kept_by_place servers s t u q cell low high (get_prefix s.disks.rows _ rows.place rows.row rows.stands ∙ sym rows.stands))
        (λ fence e. inl e)

    -- a queue with one fence more
    heads_queued : (v : View) (kind : FenceKind) → v.queue ≡ s.view.queue → v.members ≡ s.view.members → (fence : Fence)
        → head (queued v kind).queue ≡ Some fence
        → (head s.view.queue ≡ Some fence) ⊎ (awaits fence n ≡ true)
    heads_queued v kind same members fence e = elim (head_queued v kind fence e) [
      | inl old ↦ inl (sym (ap head same) ∙ old)
      | inr all ↦ inr (present_waits s.view.members fence n (all ∙ ap servers_in members) (in_up s n inc seated))
    ]

    -- the row whose disk begins a move: its cells stay where they are
    begun_high : (row : DiskRow) → row.moving ≡ None → cell.map < length s.maps → stage_of cell row ≤ 2 → stage_of cell (row_moving (length s.maps) row) ≤ 2
    begun_high row still known le = by_bool (row.map == cell.map)
        (λ own.
        let is : stage_of cell (row_moving (length s.maps) row) ≡ old_stage (unwrap_or (slice_get (replicate 16 Old) (region_of cell.block)) New) =
        (λ i. if fresh i || own i then (if fresh i then new_stage (unwrap_or (slice_get (replicate 16 Old) (region_of cell.block)) New)
        else old_stage (unwrap_or (slice_get (replicate 16 Old) (region_of cell.block)) New)) else 4) in
        let old : old_stage (unwrap_or (slice_get (replicate 16 Old) (region_of cell.block)) New) ≡ 2 =
        ap (λ o. old_stage (unwrap_or o New)) (get_replicate 16 (region_of cell.block) Old (low_region cell.block)) in
        omega arith)
        (λ other.
        let is : stage_of cell row ≡ 4 = ap (λ m. stage_of cell (record row { moving = m })) still
        ∙ ap (λ b. if b || false then (if b then 2 else 4) else 4) other in
        absurd (omega arith))
      where
        fresh : (length s.maps == cell.map) ≡ false
        fresh = by_bool (length s.maps == cell.map) (λ t. let e = same_numbers (length s.maps) cell.map t in absurd (omega arith)) (λ f. f)

    begun_still : (disk tuple : List ℕ) (row : DiskRow) → named s.disks.rows disk ≡ Some row → row.moving ≡ None → is_tuple servers tuple ≡ true
        → IsStill s n cell (with_move s tuple row.id)
    begun_still disk tuple row found still proper =
        let t = with_move s tuple row.id in
        let q = begins servers s p disk tuple row found still proper in
        let rows = rows_of servers s t u q cell low high in
        let kept : IsKept servers s t u q cell low high = elim (same_or_apart rows.place row.id) [
          | inr ne ↦ kept_by_place servers s t u q cell low high
              (beside servers s u row.id row (known servers s p disk tuple row found still proper) (row_moving (length s.maps)) rows.place ne)
          | inl same ↦
              let there : row ≡ rows.row =
              same_some (sym (at_row servers s p disk tuple row found still proper) ∙ ap (slice_get s.disks.rows) (sym same) ∙ rows.stands) in
              let now : row_moving (length s.maps) row ≡ rows.now =
              same_some (sym (row_now servers s p disk tuple row found still proper) ∙ ap (slice_get t.disks.rows) (sym same) ∙ rows.there) in
              kept_by_stage servers s t u q cell low high
              (ap (λ (x : DiskRow). x.epoch) (sym now) ∙ ap (λ (x : DiskRow). x.epoch) there)
              (λ le. subst (λ x. stage_of cell x ≤ 2) now
              (begun_high row still (low_map servers s p disk tuple row found still proper cell.map rows.place rows.of)
              (subst (λ x. stage_of cell x ≤ 2) (sym there) le)))
        ] in
        goes_on t q kept (heads_queued s.view (Region row.id 0) refl refl)

    -- ### A link is noted

    module _ (of region link : ℕ) (h : IsNoting s of region link) where
      abbrev then_row : DiskRow
      then_row = row_noted region link (links_of s of) h.row

      noted_kept : (t : State) (q : Acted servers s t) → t.disks.rows ≡ (noted_state servers s p of region link h).disks.rows
          → IsKept servers s t u q cell low high
      noted_kept t q same =
          let rows = rows_of servers s t u q cell low high in
          elim (same_or_apart rows.place h.row.id) [
            | inr ne ↦ kept_by_place servers s t u q cell low high
                (ap (λ r. slice_get r rows.place) same ∙ beside servers s u h.row.id h.row h.known (row_noted region link (links_of s of)) rows.place ne)
            | inl at ↦
                let there : h.row ≡ rows.row =
                same_some (sym (here servers s u h.row.id h.row h.known (row_noted region link (links_of s of)))
                ∙ ap (slice_get s.disks.rows) (sym at) ∙ rows.stands) in
                let now : then_row ≡ rows.now =
                same_some (sym (here_now servers s u h.row.id h.row h.known (row_noted region link (links_of s of)))
                ∙ ap (slice_get (noted_state servers s p of region link h).disks.rows) (sym at) ∙ sym (ap (λ r. slice_get r rows.place) same) ∙ rows.there) in
                kept_by_stage servers s t u q cell low high
                (ap (λ (x : DiskRow). x.epoch) (sym now) ∙ ap (λ (x : DiskRow). x.epoch) there)
                (λ le. subst (λ x. stage_of cell x ≤ 2) now
                (keeps_old servers s p of region link h cell (subst (λ x. stage_of cell x ≤ 2) (sym there) le)))
          ]

      abbrev all : Bool
      all = all_noted (links_of s of) (with_link link h.move.noted)

      noted_alone : all ≡ false → IsStill s n cell (noted_state servers s p of region link h)
      noted_alone none =
          let q = noting servers s p of region link h none in
          goes_on (noted_state servers s p of region link h) q (noted_kept (noted_state servers s p of region link h) q refl) (λ fence e. inl e)

      next_waits : all ≡ true → (region == 15) ≡ false → IsStill s n cell (with_fence (noted_state servers s p of region link h) (Region h.row.id (region + 1)))
      next_waits every more =
          let t = with_fence (noted_state servers s p of region link h) (Region h.row.id (region + 1)) in
          let q = onward servers s p of region link h every more in
          goes_on t q (noted_kept t q refl) (heads_queued (noted_state servers s p of region link h).view (Region h.row.id (region + 1)) refl refl)

      move_over : (every : all ≡ true) (last : (region == 15) ≡ true) → IsStill s n cell (moved_state servers s p of region link h every last)
      move_over every last =
          let t = moved_state servers s p of region link h every last in
          let q = over servers s p of region link h every last in
          goes_on t q (noted_kept t q refl) (λ fence e. inl e)

    -- the server's own report, where the fence holds the cell's writes, or another one's
    reports : (server last fence : ℕ) → is_head s fence ≡ true → is_up_as s server last ≡ true
        → Comes (Drained server last fence) (record s { view = view.drained s.view server })
    reports server last fence active up still = elim (some_or_none (head s.view.queue)) [
      | inr none ↦ true_false active (ap (λ o. option_map_or (λ (f : Fence). f.number == fence) o false) none)
      | inl h ↦ by_bool (n == server)
          (λ own.
          let me = same_numbers n server own in
          by_bool (which (holds s cell h.0.kind))
          (λ on. inr (record {
            fence = fence;
            is = (λ i. Drained (sym me i) (in_once s n last inc (ap (λ k. is_up_as s k last) me ∙ up) seated i) fence);
            holds = held_by s cell h.0 h.1 on;
          }))
          (λ off. inl (record {
            awaited = λ now e on.
                let b = head_reported server s.view.queue now e in
                let was : b.0 ≡ h.0 = same_some (sym b.1 ∙ h.1) in
                true_false (sym (ap (λ k. which (holds s cell k)) (b.2.kind ∙ ap (λ (x : Fence). x.kind) was)) ∙ on) off;
            epoch = λ on. refl;
            low = low;
            high = high;
          })))
          (λ away. inl (record {
            awaited = λ now e on.
                let b = head_reported server s.view.queue now e in
                waits_still server b.0 now n b.2 away (awaited b.0 b.1 (sym (ap (λ k. which (holds s cell k)) b.2.kind) ∙ on));
            epoch = λ on. refl;
            low = low;
            high = high;
          }))
    ]

    comes : (entry : Command) (t : State) → Outcome servers s p entry t → Comes entry t
    comes _ _ (Leaves server last now) still = inl (left_awaited s server n inc cell still low high)
    comes _ _ (Makes client seq name tuple new fresh proper) still =
        inl (told_still (with_disk s name tuple) client seq Verdict.Ok (made_still name tuple fresh proper))
    comes _ _ (Queues client seq disk name new row found free) still = inl (record {
      awaited = λ fence e on. elim (heads_queued s.view (Whole row.id name client seq) refl refl fence e) [
        | inl old ↦ awaited fence old on
        | inr waits ↦ waits
      ];
      epoch = λ on. refl;
      low = low;
      high = high;
    })
    comes _ _ (Begins client seq disk tuple new row found quiet proper) still =
        inl (told_still (with_move s tuple row.id) client seq Verdict.Ok (begun_still disk tuple row found quiet proper))
    comes _ _ (Reports server last fence active up) still = reports server last fence active up still
    comes _ _ (Notes of region link h some) still = inl (noted_alone of region link h some)
    comes _ _ (Moves_on of region link h every more) still = inl (next_waits of region link h every more)
    comes _ _ (Ends of region link h every last) still = inl (move_over of region link h every last)
    comes _ _ _ still = inl (record { awaited = awaited; epoch = λ on. refl; low = low; high = high })

    enters : (entry : Command) → HasProperTuple servers entry → Comes entry (after s entry)
    enters entry plain still =
        let t = act entry s in
        let on : is_up_as t n inc ≡ true = sym (in_settled t n inc) ∙ still in
        elim (comes entry t (outcome servers s p entry plain) on) [
          | inr report ↦ inr report
          | inl h ↦ (
              let k = settles_still servers t (acting servers s entry p plain).plain n cell h.awaited (in_up t n inc on) h.low h.high in
              inl (record { awaited = k.awaited; epoch = λ on. k.epoch on ∙ h.epoch on; low = k.low; high = k.high }))
        ]

  -- ### A log

  module _ (servers : ℕ) (prefix whole : List Command) (n inc : ℕ) (cell : Cell) (all : HasProperTuples servers whole) (is_prefix : IsPrefix prefix whole)
      (is : is_up_as (state_after servers prefix) n inc ≡ true) (end : is_up_as (state_after servers whole) n inc ≡ true) where
    -- the cell is as it was after these entries, or one of them is such a report
    abbrev StillOrReported : State → Type 0
    StillOrReported t = IsStill (state_after servers prefix) n cell t ⊎ HasReportedBy which servers prefix whole n inc cell

    still_or_reported : (it : NextEntry servers prefix whole) → StillOrReported (state_after servers it.until)
        → StillOrReported (after (state_after servers it.until) it.entry)
    still_or_reported it (inr reported) = inr reported
    still_or_reported it (inl h) =
        let ups = in_between servers prefix whole all is_prefix it n inc is end in
        elim (enters servers (state_after servers it.until) (settled_there servers prefix whole all is_prefix it) n inc cell ups.0 h.awaited h.low h.high
        it.entry it.proper ups.1) [
          | inl k ↦ inl (record { awaited = k.awaited; epoch = λ on. k.epoch on ∙ h.epoch on; low = k.low; high = k.high })
          | inr report ↦ inr (record {
            until = it.until;
            fence = report.fence;
            following = it.following;
            stands = subst (λ e. IsPrefix (it.until ++ e ∷ []) whole) report.is it.stands;
            seated = ups.0;
            holds = report.holds;
          })
        ]

    still_by : IsAwaited (state_after servers prefix) n cell → 1 ≤ stage_at (state_after servers prefix) cell
        → stage_at (state_after servers prefix) cell ≤ 2 → StillOrReported (state_after servers whole)
    still_by awaited low high =
        by_entries servers prefix whole all is_prefix (λ log. StillOrReported) still_or_reported
        (inl (still_itself (state_after servers prefix) n cell awaited low high))

  -- what is so after a Leave that acts
  left_still : (servers : ℕ) (s : State) → IsSettledState servers s → (other other_inc n inc : ℕ) (cell : Cell) → is_up_as s other other_inc ≡ true
      → is_up_as (after s (Leave other other_inc)) n inc ≡ true → 1 ≤ stage_at s cell → stage_at s cell ≤ 2
      → IsStill s n cell (after s (Leave other other_inc))
  left_still servers s p other other_inc n inc cell acts still low high =
      let t = act (Leave other other_inc) s in
      let is : t ≡ left_by s other = ap (λ b. if b then left_by s other else s) acts in
      let on : is_up_as t n inc ≡ true = sym (in_settled t n inc) ∙ still in
      let h = subst (IsStill s n cell) (sym is) (left_awaited s other n inc cell (sym (ap (λ (u : State). is_up_as u n inc) is) ∙ on) low high) in
      let k = settles_still servers t (acting servers s (Leave other other_inc) p tt).plain n cell h.awaited (in_up t n inc on) h.low h.high in
      record { awaited = k.awaited; epoch = λ on. k.epoch on ∙ h.epoch on; low = k.low; high = k.high }

pub log_epochs : (servers : ℕ) (prefix whole : List Command) (cell : Cell) → HasProperTuples servers whole → IsPrefix prefix whole
    → era_at (state_after servers prefix) cell ≤ era_at (state_after servers whole) cell
log_epochs servers prefix whole cell all is_prefix = (log_below servers prefix whole all is_prefix).eras cell

-- where the era rises, the cell is not as it was
risen : (servers : ℕ) (prefix whole : List Command) (n inc : ℕ) (cell : Cell) → 1 ≤ stage_at (state_after servers prefix) cell
    → stage_at (state_after servers prefix) cell ≤ 2 → era_at (state_after servers prefix) cell < era_at (state_after servers whole) cell
    → IsStill is_writes_held refl refl (state_after servers prefix) n cell (state_after servers whole)
    ⊎ HasReported servers prefix whole n inc cell
    → HasReported servers prefix whole n inc cell
risen servers prefix whole n inc cell low high rises (inr h) = h
risen servers prefix whole n inc cell low high rises (inl k) =
    let was = era_low (epoch_at (state_after servers prefix) cell) (stage_at (state_after servers prefix) cell) high in
    let now = era_low (epoch_at (state_after servers whole) cell) (stage_at (state_after servers whole) cell) k.high in
    let same = k.epoch refl in
    absurd (omega arith)

pub log_unheld : (servers : ℕ) (prefix whole : List Command) (n inc : ℕ) (cell : Cell) → HasProperTuples servers whole → IsPrefix prefix whole
    → is_in (state_after servers prefix) n inc ≡ true → is_in (state_after servers whole) n inc ≡ true
    → is_writes_held (held (state_after servers prefix) cell) ≡ false → 1 ≤ stage_at (state_after servers prefix) cell
    → stage_at (state_after servers prefix) cell ≤ 2
    → era_at (state_after servers prefix) cell < era_at (state_after servers whole) cell → HasReported servers prefix whole n inc cell
log_unheld servers prefix whole n inc cell all is_prefix is end free low high rises =
    risen servers prefix whole n inc cell low high rises
    (still_by is_writes_held refl refl servers prefix whole n inc cell all is_prefix is end
    (unheld_awaited is_writes_held refl refl (state_after servers prefix) n cell free) low high)

-- while the server stays In, the cell begins to leave only after the server's report to a fence that holds reads of the cell
pub log_unread : (servers : ℕ) (prefix whole : List Command) (n inc : ℕ) (cell : Cell) → HasProperTuples servers whole → IsPrefix prefix whole
    → is_in (state_after servers prefix) n inc ≡ true → is_in (state_after servers whole) n inc ≡ true
    → is_all_held (held (state_after servers prefix) cell) ≡ false → 1 ≤ stage_at (state_after servers prefix) cell
    → stage_at (state_after servers prefix) cell ≤ 2
    → (stage_at (state_after servers whole) cell ≤ 2) ⊎ HasReportedBy is_all_held servers prefix whole n inc cell
log_unread servers prefix whole n inc cell all is_prefix is end free low high =
    elim (still_by is_all_held refl refl servers prefix whole n inc cell all is_prefix is end
    (unheld_awaited is_all_held refl refl (state_after servers prefix) n cell free) low high) [
      | inl still ↦ inl still.high
      | inr report ↦ inr report
    ]

pub log_left : (servers : ℕ) (prefix whole : List Command) (n inc other other_inc : ℕ) (cell : Cell) → HasProperTuples servers whole
    → IsPrefix (prefix ++ Leave other other_inc ∷ []) whole → is_in (state_after servers prefix) other other_inc ≡ true
    → is_in (state_after servers (prefix ++ Leave other other_inc ∷ [])) n inc ≡ true → is_in (state_after servers whole) n inc ≡ true
    → 1 ≤ stage_at (state_after servers prefix) cell → stage_at (state_after servers prefix) cell ≤ 2
    → era_at (state_after servers prefix) cell < era_at (state_after servers whole) cell
    → HasReported servers (prefix ++ Leave other other_inc ∷ []) whole n inc cell
log_left servers prefix whole n inc other other_inc cell all is_prefix acts is end low high rises =
    let next = prefix ++ Leave other other_inc ∷ [] in
    let s = state_after servers prefix in
    let plain = prefix_plain servers prefix next (prefix_plain servers next whole all is_prefix) (record { later = Leave other other_inc ∷ []; is = refl }) in
    let e : state_after servers next ≡ after s (Leave other other_inc) = fold-append after (start servers) prefix (Leave other other_inc ∷ []) in
    let h = left_still is_writes_held refl refl servers s (log_plain servers prefix plain) other other_inc n inc cell acts
    (sym (ap (λ (t : State). is_up_as t n inc) e) ∙ is) low high in
    let k = subst (IsStill is_writes_held refl refl s n cell) (sym e) h in
    let was = era_low (epoch_at s cell) (stage_at s cell) high in
    let now = era_low (epoch_at (state_after servers next) cell) (stage_at (state_after servers next) cell) k.high in
    let same = k.epoch refl in
    risen servers next whole n inc cell k.low k.high (omega arith)
    (still_by is_writes_held refl refl servers next whole n inc cell all is_prefix is end k.awaited k.low k.high)
