-- An entry that a server applies: of each cell the server comes to a new place with nothing in memory of it, or it stays where it was.
use Rattle.law_copies.proofs.Imports.{[], ◌++◌, ◌+◌, ◌∙◌, ◌∷◌, ◌≡◌, ◌≤◌, ◌⊎◌, Both, Busy, By_caught, By_join, By_leave, Caught, Cell, Command}
use Rattle.law_copies.proofs.Imports.{HasProperTuple, HasProperTuples, HasStarted, In, IsCaughtBy, IsPrefix, IsSteady, LastCopy, LinkRow, List, None}
use Rattle.law_copies.proofs.Imports.{PairState, Pairs, Pending, Some, Stale, State, StaysSo, after, alone_not_both, ap, arith, at, both_before, by_bool}
use Rattle.law_copies.proofs.Imports.{cell_cmp, cell_link, chain_in, chosen_log, copying_on, crossed, false, has_mark, held_as_flag, id_of, in_later}
use Rattle.law_copies.proofs.Imports.{in_once, inl, inr, is_in, is_the_one, last_copy, left_not_both, left_row, length, link_cmp, link_led_by, live}
use Rattle.law_copies.proofs.Imports.{live_stage, log_entry_stays, log_steady, log_touched, mark_on, nat_cmp, no_progress, none_some, option_and_then}
use Rattle.law_copies.proofs.Imports.{other_of, pending_on, prefix_itself, prefix_more, prefix_plain, refl, row_lead, row_named, same_or_apart, same_some}
use Rattle.law_copies.proofs.Imports.{server_state, some_or_none, stage_at, stage_live, state_after, subst, sym, touches, true, true_false, unwrap_or, ℕ}
use Rattle.law_copies.specs.GoodCopies.{IsUnheard}
use Rattle.law_copies.specs.Pair.{HaveMarks}
use Rattle.law_copies.specs.Visits.{AliveIn, IsLinked, place_by, with_stores}
use Rattle.law_copies.proofs.AtEntry.{AtEntry}
use Rattle.law_copies.proofs.NewcomersRememberNothing.{IsFresh}
use Rattle.law_copies.proofs.ServedAtLaterPrefixes.{same_only}
use Rattle.law_copies.proofs.PlacesByPrefixes.{below_at, linked_alive, place_of_later, place_touched, place_untouched, places_up, rows_later, state_next}
use Rattle.law_copies.proofs.RolesOfWorkers.{above_none, cell_map}
use Rattle.law_copies.proofs.LeftByEntry.{KeepsAll, cell_never, left_copied, left_fresh, left_keeps, left_unheard, link_never, lives_on, touched_fresh}
use Rattle.law_copies.proofs.LeftByEntry.{untouched_keeps}

-- ### At the server's own places

module _ (it : AtEntry) where
  open it use {setting, w, stores, k, server, good, step, firm, rests, runs, entry, more, left}

  abbrev prefix : List Command
  prefix = (w.servers k).log.applied

  abbrev next : List Command
  next = server.log.applied

  abbrev earlier : State
  earlier = server_state setting w k

  -- with the store that counts
  abbrev old : PairState
  old = ((with_stores w stores).servers k).own

  abbrev new : PairState
  new = server.own

  step_on : IsPrefix prefix next
  step_on = subst (IsPrefix prefix) (sym more) (prefix_more prefix entry)

  plain_next : HasProperTuples setting.servers next
  plain_next = prefix_plain setting.servers next (chosen_log setting w) firm.plain step.within

  plain_prefix : HasProperTuples setting.servers prefix
  plain_prefix = prefix_plain setting.servers prefix (chosen_log setting w) firm.plain (firm.servers k)

  plain_entry : HasProperTuple setting.servers entry
  unfolding In
  plain_entry = plain_next entry (subst (In entry) (sym more) (in_later entry prefix (entry ∷ []) (inl refl)))

  steady_prefix : IsSteady earlier
  steady_prefix = log_steady setting.servers prefix plain_prefix

  next_is : state_after setting.servers next ≡ after earlier entry
  next_is = ap (state_after setting.servers) more ∙ state_next setting prefix entry

  row_then : (cell : Cell) (now : LinkRow) → IsLinked setting next cell now → cell_link (after earlier entry) cell ≡ Some now
  row_then cell now end = sym (ap (λ (s : State). cell_link s cell) next_is) ∙ end

  stages_up : (cell : Cell) → stage_at earlier cell ≤ stage_at (state_after setting.servers next) cell
  stages_up cell = (below_at setting next plain_next prefix next step_on (prefix_itself next)).stages cell

  pub alive_before : (cell : Cell) → AliveIn (state_after setting.servers next) cell → AliveIn earlier cell
  alive_before cell alive = let le = stages_up cell in omega arith

  -- a cell that isn't retired and has no link isn't live yet
  unborn : (cell : Cell) → AliveIn earlier cell → cell_link earlier cell ≡ None → stage_at earlier cell ≡ 0
  unborn cell alive none = elim (same_or_apart (stage_at earlier cell) 0) [
    | inl zero ↦ zero
    | inr ne ↦ none_some none (steady_prefix.lives cell (stage_live earlier cell (above_none (stage_at earlier cell) ne) alive)).is
  ]

  -- nothing is pending there on a link that its Caught puts in Both: the holder had its ballot in mind, and the other server does not lead
  caught_free : (cell : Cell) (row : LinkRow) → cell_link earlier cell ≡ Some row → AliveIn earlier cell → IsCaughtBy earlier entry row → (op : Pending)
      → pending_on old cell ≡ Some op → ⊥
  caught_free cell row is alive acts op there =
      let staged = (rests.pending k).staged cell op there in
      let seated = rests.seated k cell op runs there in
      let on = stage_live earlier cell staged.born alive in
      elim (link_led_by earlier steady_prefix cell k (is_the_one (option_and_then (row_lead earlier) (cell_link earlier cell)) k (staged.leads on))) [
        | inl b ↦ alone_not_both row acts.holder acts.alone (ap (λ (r : LinkRow). r.state) (same_some (sym is ∙ b.0.is)) ∙ b.0.so)
        | inr held ↦
            let mine : acts.holder ≡ k = same_only (sym acts.alone ∙ ap (λ (r : LinkRow). r.state) (same_some (sym is ∙ held.is)) ∙ held.so) in
            let inc_is : acts.inc ≡ (w.servers k).life.inc =
            in_once earlier k acts.inc (w.servers k).life.inc (subst (λ n. is_in earlier n acts.inc ≡ true) mine acts.holds) seated in
            let stands : IsPrefix (prefix ++ Caught row.map row.link acts.holder acts.inc (other_of acts.holder row) acts.other_inc ∷ [])
            (chosen_log setting w) =
            subst (λ (x : Command). IsPrefix (prefix ++ x ∷ []) (chosen_log setting w)) acts.is
            (subst (λ f. IsPrefix f (chosen_log setting w)) more step.within) in
            let started = firm.started prefix row.map row.link acts.holder acts.inc (other_of acts.holder row) acts.other_inc stands in
            let mine_started = subst (λ n. HasStarted w.servers n acts.inc (length prefix) (id_of row)) mine started in
            elim mine_started [
              | inl past ↦ absurd (omega (arith, inc_is))
              | inr flag ↦ true_false (held_as_flag earlier old cell row is ∙ flag.1.flagged refl) (staged.unheld on)
            ]
      ]

  no_pending : (cell : Cell) → ((op : Pending) → pending_on old cell ≡ Some op → ⊥) → pending_on old cell ≡ None
  no_pending cell never = elim (some_or_none (pending_on old cell)) [ inl h ↦ absurd (never h.0 h.1) | inr none ↦ none ]

  unvisited : (place : ℕ) (cell : Cell) → ((own : PairState) → good.visits k place cell ≡ Some own → ⊥) → good.visits k place cell ≡ None
  unvisited place cell never = elim (some_or_none (good.visits k place cell)) [ inl h ↦ absurd (never h.0 h.1) | inr none ↦ none ]

  -- ### A cell's link by the entry

  -- the server comes to a place at which it was not, with nothing in memory of it, and nothing pending where the link is in Both
  pub record ComesTo (cell : Cell) (now : LinkRow) : Type 0 where
    pub unseen : good.visits k (place_by setting next now) cell ≡ None
    pub fresh : IsFresh new now cell
    pub free : now.state ≡ Both → pending_on old cell ≡ None

  -- it stays at the place at which it was
  pub record StaysAt (cell : Cell) (now : LinkRow) : Type 0 where
    pub linked : IsLinked setting prefix cell now
    pub place : place_by setting next now ≡ place_by setting prefix now
    pub so : StaysSo cell now earlier (state_after setting.servers next)
    pub keeps : KeepsAll old new now cell

  -- by a link that is made
  comes_new : (cell : Cell) (now : LinkRow) → IsLinked setting next cell now → AliveIn (state_after setting.servers next) cell
      → cell_link earlier cell ≡ None → ComesTo cell now
  comes_new cell now end alive none =
      let before = alive_before cell alive in
      let zero = unborn cell before none in
      let unheard = good.unheard k cell zero in
      let map_is : now.map ≡ cell.map = sym (cell_map (state_after setting.servers next) cell now end) in
      record {
        unseen = unvisited (place_by setting next now) cell (λ own e.
            let b = good.been k (place_by setting next now) cell own e in
            none_some none (linked_alive setting prefix plain_prefix b.prefix prefix cell b.row b.within (prefix_itself prefix) b.linked before).1);
        fresh = left_fresh earlier entry old new left now cell (record {
          last = cell_never earlier entry old old.pairs.last cell unheard.last;
          copying = cell_never earlier entry old old.copies.pending cell (elim (some_or_none (copying_on old cell)) [
            | inl h ↦ none_some none ((rests.resting k).copying cell h.0 h.1).is
            | inr gone ↦ gone
          ]);
          last_copy = cell_never earlier entry old old.copies.last cell (elim (some_or_none (last_copy old cell)) [
            | inl h ↦ elim ((rests.resting k).lasts cell h.0 h.1) [ inl rests ↦ none_some none rests.is | inr retired ↦ absurd (omega arith) ]
            | inr gone ↦ gone
          ]);
          pages = link_never earlier entry old now (unheard.pages none now map_is);
        });
        free = λ both. no_pending cell (λ op there.
            let born = ((rests.pending k).staged cell op there).born in absurd (omega arith));
      }

  -- by an entry that touches it
  comes_touched : (cell : Cell) (row now : LinkRow) → IsLinked setting next cell now → AliveIn (state_after setting.servers next) cell
      → cell_link earlier cell ≡ Some row → touches earlier entry row ≡ true → ComesTo cell now
  comes_touched cell row now end alive is on =
      let so = rows_later setting next plain_next prefix next cell row now step_on (prefix_itself next) is end in
      let id_same : id_of now ≡ id_of row = (λ i. record { map = so.map i; link = so.link i }) in
      let fresh = touched_fresh earlier entry old cell row is on in
      record {
        unseen = unvisited (place_by setting next now) cell (λ own e.
            let b = good.been k (place_by setting next now) cell own e in
            let at = b.at in
            let le = places_up setting prefix plain_prefix b.prefix prefix cell b.row row b.within (prefix_itself prefix) b.linked is in
            let later_place = place_of_later setting next plain_next prefix next next cell row now step_on (prefix_itself next) is end in
            let one : place_by setting next row ≡ place_by setting prefix row + 1 = ap (λ f. place_by setting f row) more
            ∙ place_touched setting prefix entry row on in
            absurd (omega arith));
        fresh = left_fresh earlier entry old new left now cell (record {
          last = fresh.last;
          copying = fresh.copying;
          last_copy = fresh.last_copy;
          pages = ap (λ id. unwrap_or (at link_cmp (crossed earlier entry old).copies.progress id) no_progress) id_same ∙ fresh.pages;
        });
        free = λ both. no_pending cell (λ op there. elim (log_touched setting.servers prefix entry cell row plain_prefix plain_entry is on) [
          | By_leave left at seats ↦ left_not_both (other_of left.server row) row.state
              (sym (left_row row left.server left.one_of) ∙ ap (λ (r : LinkRow). r.state) (same_some (sym at ∙ row_then cell now end)) ∙ both)
          | By_join joined at apart seats ↦ absurd (apart (both_before joined.server joined.blank row
              (ap (λ (r : LinkRow). r.state) (same_some (sym at ∙ row_then cell now end)) ∙ both)))
          | By_caught acts stays ↦ caught_free cell row is (alive_before cell alive) acts op there
        ]);
      }

  stays_so : (cell : Cell) (row now : LinkRow) → IsLinked setting next cell now → cell_link earlier cell ≡ Some row → touches earlier entry row ≡ false
      → StaysSo cell row earlier (after earlier entry)
  stays_so cell row now end is off = elim (log_entry_stays setting.servers prefix entry cell row plain_prefix plain_entry is off) [
    | inl so ↦ so
    | inr died ↦ none_some died.0 (row_then cell now end)
  ]

  stays_untouched : (cell : Cell) (row now : LinkRow) → IsLinked setting next cell now → AliveIn (state_after setting.servers next) cell
      → cell_link earlier cell ≡ Some row → touches earlier entry row ≡ false → StaysAt cell now
  stays_untouched cell row now end alive is off =
      let so = stays_so cell row now end is off in
      let same : row ≡ now = same_some (sym so.same ∙ row_then cell now end) in
      let stage : stage_at (state_after setting.servers next) cell ≡ stage_at (after earlier entry) cell = ap (λ (s : State). stage_at s cell) next_is in
      let up = stages_up cell in
      let stays = lives_on earlier entry cell (omega arith) (omega arith) in
      subst (StaysAt cell) same (record {
        linked = is;
        place = ap (λ f. place_by setting f row) more ∙ place_untouched setting prefix entry row off;
        so = subst (StaysSo cell row earlier) (sym next_is) so;
        keeps = left_keeps earlier entry old new left row cell (untouched_keeps earlier entry old cell row is off stays
            (row_named (after earlier entry) cell row so.same));
      })

  pub comes_or_stays : (cell : Cell) (now : LinkRow) → IsLinked setting next cell now → AliveIn (state_after setting.servers next) cell
      → ComesTo cell now ⊎ StaysAt cell now
  comes_or_stays cell now end alive = elim (some_or_none (cell_link earlier cell)) [
    | inl h ↦ by_bool (touches earlier entry h.0)
        (λ on. inl (comes_touched cell h.0 now end alive h.1 on))
        (λ off. inr (stays_untouched cell h.0 now end alive h.1 off))
    | inr none ↦ inl (comes_new cell now end alive none)
  ]

  -- of a cell that is not live then it had heard nothing, and hears nothing
  pub still_unheard : (cell : Cell) → stage_at (state_after setting.servers next) cell ≡ 0 → IsUnheard (state_after setting.servers next) new cell
  still_unheard cell zero =
      let up = stages_up cell in
      let unheard = good.unheard k cell (omega arith) in
      left_unheard earlier entry old new left (state_after setting.servers next) cell unheard.bare unheard.last
      (λ none. unheard.pages (elim (some_or_none (cell_link earlier cell)) [
        | inl h ↦ none_some none (linked_alive setting next plain_next prefix next cell h.0 step_on (prefix_itself next) h.1 (omega arith)).1
        | inr gone ↦ gone
      ]))

  -- a last copy that is remembered then is of a live cell
  pub still_copied : (cell : Cell) (last : LastCopy) → last_copy new cell ≡ Some last → live (state_after setting.servers next) cell ≡ true
  still_copied cell last is = ap (λ (s : State). live s cell) next_is ∙ left_copied earlier entry old new left (good.copied k) cell last is

  -- operations find what they found
  pub still_marks : HaveMarks (state_after setting.servers next) new.pairs.pending new.store
  still_marks cell op on is =
      let was : at cell_cmp old.pairs.pending cell ≡ Some op = ap (λ (p : Pairs). at cell_cmp p.pending cell) (sym left.pairs) ∙ is in
      let born = ((rests.pending k).staged cell op was).born in
      let most = (live_stage (state_after setting.servers next) cell on).1 in
      let up = stages_up cell in
      let had = good.marks k (inl runs) cell op (stage_live earlier cell born (omega arith)) was in
      record {
        busy = λ e. ap (has_mark (mark_on Busy cell)) left.marks ∙ had.busy e;
        stale = λ e. ap (has_mark (mark_on Stale cell)) left.marks ∙ had.stale e;
        lacks = λ fill unput. ap (λ t. at nat_cmp (chain_in t cell) op.key.epoch) left.chains ∙ had.lacks fill unput;
      }
