-- A copy changes the chain of a cell only at a server whose copy doesn't count: the other server of the link holds it alone, and has the
-- block left to copy.
use Rattle.law_run.proofs.Imports.{[], ◌==◌, ◌||◌, ◌∙◌, ◌∷◌, ◌≡◌, ◌≢◌, ◌⊎◌, AliveIn, AreCopying, Body, Bool, Both, Cell, Chain, Command, CopiesSo, Handled}
use Rattle.law_run.proofs.Imports.{HasSent, IsCaught, IsLastCopy, IsLater, IsLeft, IsLeftBy, IsLinked, IsOther, IsPrefix, IsTold, IsTrimming, Is_dropped}
use Rattle.law_run.proofs.Imports.{Is_dropped_first, Is_put, LastCopy, LinkRow, List, Lost, Only, Option, PairState, PutsCopy, Some, State, Table, about}
use Rattle.law_run.proofs.Imports.{alive_on, alone_authority, alone_by, alone_or_flagged, ap, arith, authority, been_below, by_bool, chosen_log, chosen_state}
use Rattle.law_run.proofs.Imports.{epochs_beyond, has_server, held_by, holder_is_one, id_of, inl, inr, is_flagged, kept, linked_alive, links_of, live}
use Rattle.law_run.proofs.Imports.{lost_authority, none_some, of_last, one_row, other_apart, other_of, other_than, own_place, own_steady, owns_of, past_last}
use Rattle.law_run.proofs.Imports.{past_of, place_by, places_up, prefix_itself, prefixes_meet, refl, retired_authority, rows_later, same_numbers, same_some}
use Rattle.law_run.proofs.Imports.{server_state, subst, sym, true, unseen_beyond, ℕ}
use Rattle.law_run.proofs.OwnPlacesAreLatest.{IsSharing, visit_here, alive_here}
use Rattle.law_run.proofs.RunScenes.{Grounded}
use Rattle.petal_msg.specs.declared.body.Body.TheVariants as body

-- ### The block is left to copy at the holder

module _ (heard : Body → Type 0) (own : PairState) (row : LinkRow) (cell : Cell) (holder : Option PairState)
    (links : ℕ) (old : AreCopying links row cell holder (Some own))
    (told : (said : Body) → heard said → (about said).cell ≡ Some cell → IsTold row holder (Some own) said) where
  -- while it waits for this server to trim
  waiting : (by : PairState) (number : ℕ) → holder ≡ Some by → IsTrimming by cell number → IsLeftBy row holder cell
  waiting by number met t =
      let c = old.copying by t.copy met t.is in
      record { by = by; met = met; left = c.left (inl t.waits) }

  dropped : (last : LastCopy) (epoch : ℕ) (epochs : List ℕ) → IsLastCopy holder own cell last
      → epochs_beyond own cell last.epochs ≡ epoch ∷ epochs → IsLeftBy row holder cell
  dropped last epoch epochs l beyond = elim l.trimmed [
    | inl none ↦ (let f : [] ≡ epoch ∷ epochs = sym none ∙ beyond in absurd cc)
    | inr waits ↦ waiting l.by last.op l.met waits
  ]

  pub copy_left : (chains : Table Cell Chain) → CopiesSo heard own cell chains → IsLeftBy row holder cell
  copy_left chains (Is_put entry last e h is number at _) =
      let sent : HasSent row holder (Some own) cell entry.op entry.index (entry.key.epoch, entry.stored) =
      subst (λ (c : Cell). HasSent row holder (Some own) c entry.op entry.index (entry.key.epoch, entry.stored)) e
      (told (body.Sync entry.op entry.key entry.stored.version entry.index entry.stored.bytes) h (ap Some e)) in
      let of = of_last own cell last is row holder entry.op entry.index (entry.key.epoch, entry.stored) sent number in
      record { by = of.own; met = of.met; left = of.left at }
  copy_left chains (Is_dropped_first number epochs epoch h newer _) = elim (told (body.Trim number cell epochs) h refl) [
    | inl past ↦
        let last = past_last own cell number past in
        let lt = newer last.0 last.1 in
        let le = past_of own cell last.0 last.1 number past in
        absurd (omega arith)
    | inr asked ↦ waiting asked.own number asked.met asked.trimming
  ]
  copy_left chains (Is_dropped last epoch epochs is beyond _) = dropped last epoch epochs (old.lasts own last refl is) beyond

-- nothing is, once the holder has started a ballot for the link's Caught
nothing_left : {row : LinkRow} {cell : Cell} (own : PairState) → IsCaught own row cell → IsLeft own row cell → ⊥
nothing_left own caught (inl marked) = caught.unmarked marked
nothing_left own caught (inr whole) = caught.copied whole.0 whole.1

-- a cell of which a copy counts is live
pub counted_lives : (state : State) (cell : Cell) (n : ℕ) → authority state cell ≡ Some n → live state cell ≡ true
counted_lives state cell n counts = by_bool (live state cell) (λ t. t) (λ f. none_some (retired_authority state cell f) counts)

module _ (g : Grounded) (n : ℕ) (runs : (g.w.servers n).life.running ≡ true) (new : Table Cell Chain)
    (puts : PutsCopy (Handled g.w n) (own_place g.setting g.w n) (owns_of g.w n) new) (alive : AliveIn (chosen_state g.setting g.w) puts.cell) where
  open g use {setting, w, firm, ground}

  abbrev chosen : List Command
  chosen = chosen_log setting w

  abbrev own_prefix : ℕ → List Command
  own_prefix k = (w.servers k).log.applied

  abbrev cell : Cell
  cell = puts.cell

  -- the server is the other one of the cell's link, which the holder has marked
  pub record IsCopiedTo : Type 0 where
    pub row : LinkRow
    pub linked : IsLinked setting (own_prefix n) cell row
    pub holder : ℕ
    pub whole : Bool
    pub alone : row.state ≡ Only holder whole
    pub other : other_of holder row ≡ n
    pub apart : holder ≢ n
    pub holds : has_server holder row ≡ true
    pub left : IsLeftBy row (ground.good.visits holder (place_by setting (own_prefix n) row) cell) cell
    -- so it has started no ballot for the link's Caught
    pub unflagged : (own : PairState) → ground.good.visits holder (place_by setting (own_prefix n) row) cell ≡ Some own
        → is_flagged own (id_of row) ≡ true → ⊥

  there : (row : LinkRow) × IsOther (own_place setting w n) cell row puts.holder
  there = held_by (own_place setting w n) cell puts.holder puts.held

  abbrev link : LinkRow
  link = there.0

  abbrev h : ℕ
  h = other_of n link

  abbrev place : ℕ
  place = place_by setting (own_prefix n) link

  own_alive : AliveIn (server_state setting w n) cell
  own_alive = alive_here g n cell alive

  -- what the holder was at the place
  abbrev visit : Option PairState
  visit = ground.good.visits h place cell

  alone : (whole : Bool) × (link.state ≡ Only h whole)
  alone = alone_by h link.state there.1.alone

  holds : has_server h link ≡ true
  holds = holder_is_one (server_state setting w n) (own_steady setting w firm n) h cell link there.1.is alone.1

  apart : h ≢ n
  apart = other_apart link n ((own_steady setting w firm n).linked cell link there.1.is).apart

  other : other_of h link ≡ n
  other = other_than h n link holds there.1.one_of (by_bool (h == n) (λ t. absurd (apart (same_numbers h n t))) (λ f. f))

  own_visit : ground.good.visits (other_of h link) place cell ≡ Some (owns_of w n)
  own_visit = ap (λ k. ground.good.visits k place cell) other ∙ visit_here g n cell link runs puts.seat there.1.is own_alive

  abbrev links : ℕ
  links = links_of (server_state setting w n) cell.map

  copying : AreCopying links link cell visit (Some (owns_of w n))
  copying = subst (AreCopying links link cell visit) own_visit
      (ground.good.alone (own_prefix n) cell link h alone.0 (firm.servers n) there.1.is alone.1).copying

  told : (said : Body) → Handled w n said → (about said).cell ≡ Some cell → IsTold link visit (Some (owns_of w n)) said
  told said heard of =
      let prefix = own_prefix n in
      let letter =
      (ground.good.letters heard.letter heard.sent prefix cell link (firm.servers n) (sym heard.at) there.1.is own_alive).alone h alone.0 alone.1 in
      let both : Body → Type 0 = λ b. IsTold link visit (ground.good.visits (other_of h link) place cell) b in
      subst (λ o. IsTold link visit o said) own_visit (subst (λ (b : Body). (about b).cell ≡ Some cell → both b) heard.is letter of)

  left : IsLeftBy link visit cell
  left = copy_left (Handled w n) (owns_of w n) link cell visit links copying told new puts.how

  pub copied_to : IsCopiedTo
  copied_to = record {
    row = link;
    linked = there.1.is;
    holder = h;
    whole = alone.0;
    alone = alone.1;
    other = other;
    apart = apart;
    holds = holds;
    left = left;
    unflagged = λ own e flagged.
        nothing_left own (copying.caught own e flagged) (subst (λ (o : PairState). IsLeft o link cell) (same_some (sym left.met ∙ e)) left.left);
  }

  -- at each later prefix the other one holds the link alone still, or it is Lost
  pub holds_still : (c : IsCopiedTo) (more : List Command) (now : LinkRow) → IsPrefix (own_prefix n) more → IsPrefix more chosen
      → IsLinked setting more cell now → ((later : Bool) × (now.state ≡ Only c.holder later)) ⊎ (now.state ≡ Lost)
  holds_still c more now one two end =
      elim (alone_or_flagged setting ground.records w (λ k. kept setting w k) firm ground.good ground.started
      (own_prefix n) more cell c.row now c.holder c.whole one two c.linked c.alone end
      (alive_on setting chosen firm.plain more chosen cell two (prefix_itself chosen) alive)
      (λ place lt. ap (λ k. ground.good.visits k place cell) c.other
      ∙ unseen_beyond setting ground.records w (λ k. kept setting w k) firm ground.good n cell c.row c.linked place lt)) [
        | inl still ↦ inl (still.0, still.1)
        | inr (inl lost) ↦ inr lost
        | inr (inr flagged) ↦ absurd (c.unflagged flagged.0 flagged.1 flagged.2)
      ]

  -- so it is not in Both
  not_in_both : {B : Type 0} (c : IsCopiedTo) (more : List Command) (now : LinkRow) → IsPrefix (own_prefix n) more → IsPrefix more chosen
      → IsLinked setting more cell now → now.state ≡ Both → B
  not_in_both c more now one two end both = elim (holds_still c more now one two end) [
    | inl only ↦ (let f : Only c.holder only.0 ≡ Both = sym only.1 ∙ both in absurd cc)
    | inr lost ↦ (let f : Lost ≡ Both = sym lost ∙ both in absurd cc)
  ]

  -- the server's copy doesn't count
  pub copied_uncounted : authority (chosen_state setting w) cell ≡ Some n → ⊥
  copied_uncounted counts =
      let c = copied_to in
      let now = linked_alive setting chosen firm.plain (own_prefix n) chosen cell c.row (firm.servers n) (prefix_itself chosen) c.linked alive in
      let lives = counted_lives (chosen_state setting w) cell n counts in
      elim (holds_still c chosen now.0 (firm.servers n) (prefix_itself chosen) now.1) [
        | inl only ↦
            let holder = alone_authority (chosen_state setting w) cell now.0 now.1 lives c.holder only.0 only.1 in
            c.apart (same_some (sym holder ∙ counts))
        | inr lost ↦ none_some (lost_authority (chosen_state setting w) cell now.0 now.1 lives lost) counts
      ]

  -- and it is not the second one of a server that has the link in Both by its own state
  pub copied_unfollowed : (p : ℕ) (row : LinkRow) → IsSharing g p cell row → p ≢ n → ⊥
  copied_unfollowed p row s apart =
      let c = copied_to in
      elim (prefixes_meet (own_prefix n) (own_prefix p) chosen (firm.servers n) (firm.servers p)) [
        | inl before ↦ not_in_both c (own_prefix p) row before (firm.servers p) s.linked s.both
        | inr following ↦ absurd (further c following)
      ]
    where
      later_has : (later : LinkRow) → IsLater row later → has_server p later ≡ true
      later_has later l = (λ i. (l.primary i == p) || (l.secondary i == p)) ∙ s.has

      -- of two servers of the link the holder is the other one
      holder_is : (c : IsCopiedTo) → has_server p c.row ≡ true → c.holder ≡ p
      holder_is c has = by_bool (c.holder == p) (λ t. same_numbers c.holder p t)
          (λ f. absurd (apart (sym (other_than c.holder p c.row c.holds has f) ∙ c.other)))

      further : (c : IsCopiedTo) → IsPrefix (own_prefix p) (own_prefix n) → ⊥
      further c following =
          let up = places_up setting chosen firm.plain (own_prefix p) (own_prefix n) cell row c.row following
          (firm.servers n) s.linked c.linked in
          let has : has_server p c.row ≡ true = later_has c.row
          (rows_later setting chosen firm.plain (own_prefix p) (own_prefix n) cell row c.row following (firm.servers n) s.linked c.linked) in
          let holder = holder_is c has in
          let been = been_below setting ground.records w (λ k. kept setting w k) firm ground.good p (place_by setting (own_prefix n) c.row) cell c.left.by row
          (subst (λ k. ground.good.visits k (place_by setting (own_prefix n) c.row) cell ≡ Some c.left.by) holder c.left.met) s.linked in
          let same : place_by setting (own_prefix p) row ≡ place_by setting (own_prefix n) c.row = omega arith in
          let one = one_row setting chosen firm.plain (own_prefix p) (own_prefix n) cell row c.row (firm.servers p)
          (firm.servers n) s.linked c.linked same in
          (let f : Only c.holder c.whole ≡ Both = sym c.alone ∙ ap (λ (r : LinkRow). r.state) one ∙ s.both in absurd cc)
