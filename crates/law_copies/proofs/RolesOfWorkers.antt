-- What a server is to a cell, which can't be what else it is not.
use Rattle.law_copies.proofs.Imports.{◌&&◌, ◌<◌, ◌==◌, ◌∙◌, ◌≡◌, ◌≢◌, ◌≤◌, Block, Body, Both, Busy, Cell, Copying, Entry, Idle, IsBothRow, IsHeldWith, IsIdle}
use Rattle.law_copies.proofs.Imports.{IsOfCopy, IsSteady, JobContext, LastCopy, LinkId, LinkRow, None, Only, Option, PairState, Pending, Some, Stale, State}
use Rattle.law_copies.proofs.Imports.{TakenCopy, after, ap, arith, both, both_row, both_true, by_bool, by_test, cell_at, cell_holder, cell_link}
use Rattle.law_copies.proofs.Imports.{cell_of, copying_on, first, found_at, holder_of, id_of, in_both, in_filter, inl, inr, is_alone, is_lead, is_marked}
use Rattle.law_copies.proofs.Imports.{is_link, is_second, is_the_one, is_under_way, is_up, lead_links, leads_link, link_led_by, link_named, live, live_stage}
use Rattle.law_copies.proofs.Imports.{marked_blocks, nat_tests, next_copy, none_some, not, on_row, option_and_then, other_in, other_of, pending_on, refl}
use Rattle.law_copies.proofs.Imports.{retired_second, row_lead, row_named, same_numbers, same_or_apart, same_some, second, second_by, stage_at, stage_live}
use Rattle.law_copies.proofs.Imports.{subst, sym, true, true_false, under_way, ℕ}
use Rattle.law_copies.specs.LoneSteps.{IsFit}
use Rattle.law_copies.proofs.LeftToCopy.{HasAny, marked_on, next_is, on_itself}
use Rattle.law_copies.proofs.OtherIsNotHolder.{alone_both, held_not_leading, other_apart, other_row}
use Rattle.petal_msg.specs.declared.body.Body.TheVariants as body
pub use Rattle.law_copies.proofs.OtherIsNotHolder.{IsOtherOf, alone_both, only_alone, other_row}

pub above_none : (n : ℕ) → n ≢ 0 → 1 ≤ n
above_none n ne = grind (arith, nat_tests)

-- ### Rows

pub not_both : {B : Type 0} (n : ℕ) (row : LinkRow) → is_alone n row.state ≡ true → row.state ≡ Both → B
not_both n row e both = true_false e (ap (is_alone n) both)

-- a holder whose other server is In holds the link alone
pub other_alone : (state : State) (me other : ℕ) (row : LinkRow) → other_in state me row ≡ Some other → is_alone me row.state ≡ true
other_alone state me other row = by_test (λ (o : Option ℕ). o ≡ Some other → is_alone me row.state ≡ true)
    (is_alone me row.state && is_up state (other_of me row)) (Some (other_of me row)) None
    (λ t e. (both_true (is_alone me row.state) (is_up state (other_of me row)) t).0) (λ t e. none_some refl e)

-- a link that is found by its name has it
pub named_id : (state : State) (id : LinkId) (row : LinkRow) → link_named state id ≡ Some row → id_of row ≡ id
named_id state id row e =
    let found = found_at (is_link id.map id.link) state.links row e in
    let two = both_true (row.map == id.map) (row.link == id.link) found.2 in
    let map = same_numbers row.map id.map two.0 in
    let link = same_numbers row.link id.link two.1 in
    λ i. record { map = map i; link = link i }

-- a cell's link is of the cell's map
pub cell_map : (state : State) (cell : Cell) (row : LinkRow) → cell_link state cell ≡ Some row → cell.map ≡ row.map
cell_map state cell row is = (on_row state (id_of row) row (row_named state cell row is) cell (on_itself state row cell is)).1

-- links of one name are one
pub one_named : (state : State) (cell : Cell) (row : LinkRow) (id : LinkId) (other : LinkRow) → cell_link state cell ≡ Some row
    → link_named state id ≡ Some other → id_of row ≡ id → row ≡ other
one_named state cell row id other is named same = same_some (sym (row_named state cell row is) ∙ ap (link_named state) same ∙ named)

-- ### What a server is not

module _ (here : JobContext) (steady : IsSteady here.state) (cell : Cell) (row : LinkRow) (is : cell_link here.state cell ≡ Some row) where
  -- a link that one server holds alone isn't in Both
  module _ (holder : ℕ) (alone : is_alone holder row.state ≡ true) where
    pub alone_not_second : {B : Type 0} → is_second here.state here.me cell ≡ true → B
    alone_not_second e =
        let b = second_by here.state steady cell here.me (is_the_one (second here.state cell) here.me e) in
        let same : b.0.row ≡ row = same_some (sym b.0.is ∙ is) in
        not_both holder row alone (ap (λ (r : LinkRow). r.state) (sym same) ∙ b.0.so)

    pub alone_not_row : {B : Type 0} → IsBothRow here.state cell → B
    alone_not_row b = not_both holder row alone (ap (λ (r : LinkRow). r.state) (same_some (sym is ∙ b.is)) ∙ b.both)

    pub alone_not_in_both : {B : Type 0} → in_both here.state cell ≡ true → B
    alone_not_in_both e = alone_not_row (both_row here.state cell e)

  -- and its other server doesn't hold it
  pub holder_not_other : {B : Type 0} → is_alone here.me row.state ≡ true → (holder : ℕ) → cell_holder here cell ≡ Some holder → B
  holder_not_other mine holder held =
      let other = other_row here.me row holder (sym (ap (option_and_then (holder_of here.me)) is) ∙ held) in
      absurd (other_apart row here.me (steady.linked cell row is).apart
      (sym (alone_both here.me (other_of here.me row) row.state mine other.alone)))

  module _ (holder : ℕ) (held : holder_of here.me row ≡ Some holder) where
    pub other_not_alone : {B : Type 0} → is_alone here.me row.state ≡ true → B
    other_not_alone mine =
        absurd (other_apart row here.me (steady.linked cell row is).apart
        (sym (alone_both here.me (other_of here.me row) row.state mine (other_row here.me row holder held).alone)))

    pub other_not_leading : {B : Type 0} → leads_link here.state here.me cell ≡ true → B
    other_not_leading e = held_not_leading here steady cell holder (ap (option_and_then (holder_of here.me)) is ∙ held) e

  -- who leads a link of which another server is the second isn't that one
  pub leads_not_second : {B : Type 0} → leads_link here.state here.me cell ≡ true → is_second here.state here.me cell ≡ true → B
  leads_not_second leads e =
      let b = second_by here.state steady cell here.me (is_the_one (second here.state cell) here.me e) in
      let second : row ≡ b.0.row = same_some (sym is ∙ b.0.is) in
      elim (link_led_by here.state steady cell here.me (is_the_one (option_and_then (row_lead here.state) (cell_link here.state cell)) here.me leads)) [
        | inl first ↦
            let same : first.0.row ≡ row = same_some (sym first.0.is ∙ is) in
            absurd ((steady.linked cell row is).apart
            (ap (λ (r : LinkRow). r.primary) (sym same) ∙ first.1 ∙ sym b.1 ∙ ap (λ (r : LinkRow). r.secondary) (sym second)))
        | inr held ↦
            let same : held.row ≡ b.0.row = same_some (sym held.is ∙ b.0.is) in
            (let f : Only here.me held.whole ≡ Both = sym held.so ∙ ap (λ (r : LinkRow). r.state) same ∙ b.0.so in absurd cc)
      ]

-- ### Why a server works on a cell

-- the cell has been live, and while it is, the server leads its link
pub record IsLedHere (here : JobContext) (cell : Cell) : Type 0 where
  pub born : 1 ≤ stage_at here.state cell
  pub leads : live here.state cell ≡ true → leads_link here.state here.me cell ≡ true

-- of one that is not retired the server leads the link
pub led_alive : (here : JobContext) (cell : Cell) → stage_at here.state cell < 4 → IsLedHere here cell → leads_link here.state here.me cell ≡ true
led_alive here cell alive led = led.leads (stage_live here.state cell led.born alive)

pub led_here : (here : JobContext) (cell : Cell) → is_lead here.state here.me cell ≡ true → IsLedHere here cell
led_here here cell lead =
    let led = lead_links here.state here.me cell lead in
    record { born = (live_stage here.state cell led.0).0; leads = λ on. led.1 }

-- a cell with a second server is live
pub second_live : (here : JobContext) (cell : Cell) → is_second here.state here.me cell ≡ true → live here.state cell ≡ true
second_live here cell e = by_bool (live here.state cell) (λ on. on)
    (λ off. none_some (retired_second here.state cell off) (is_the_one (second here.state cell) here.me e))

-- the cell is live, and the server holds its link alone, while the other one is In
pub record IsHeldHere (here : JobContext) (cell : Cell) : Type 0 where
  pub lives : live here.state cell ≡ true
  pub row : LinkRow
  pub is : cell_link here.state cell ≡ Some row
  pub other : ℕ
  pub other_is : other_in here.state here.me row ≡ Some other

-- another server holds it
pub record IsHeldBy (here : JobContext) (cell : Cell) : Type 0 where
  pub lives : live here.state cell ≡ true
  pub holder : ℕ
  pub held : cell_holder here cell ≡ Some holder

-- an idle mark is on a live cell of a link in Both
pub idle_both : (here : JobContext) (own : PairState) (cell : Cell) → IsIdle here own cell → IsBothRow here.state cell × (live here.state cell ≡ true)
idle_both here own _ (Idle id row kind block named both i) =
    let marked = marked_on here.state id row own block named
    (in_filter (λ b. is_marked own.store kind (cell_at row b) && not (is_under_way own (cell_at row b))) (marked_blocks here.state row own) block i).0 in
    (record { row = row; is = marked.is; both = both }, marked.lives)

module _ (heard : Body → Type 0) (here : JobContext) (own : PairState) (fit : IsFit heard here own) where
  -- of a cell that is not retired the server has something only where it is live
  pub kept_lives : (cell : Cell) → stage_at here.state cell < 4 → HasAny own cell → live here.state cell ≡ true
  kept_lives cell alive any = elim (same_or_apart (stage_at here.state cell) 0) [
    | inl zero ↦ absurd (elim any [
      | inl (inl busy) ↦ true_false busy ((fit.bare cell zero).marks Busy)
      | inl (inr stale) ↦ true_false stale ((fit.bare cell zero).marks Stale)
      | inr stored ↦ stored (fit.bare cell zero).chain
    ])
    | inr ne ↦ stage_live here.state cell (above_none (stage_at here.state cell) ne) alive
  ]

  -- ### As the lead

  pub op_leads : (cell : Cell) (op : Pending) → pending_on own cell ≡ Some op → IsLedHere here cell
  op_leads cell op is = let staged = fit.ready.staged cell op is in record { born = staged.born; leads = staged.leads }

  -- ### As the holder

  pub copying_held : (cell : Cell) (copy : Copying) → copying_on own cell ≡ Some copy → IsHeldHere here cell
  copying_held cell copy is =
      let r = fit.resting.copying cell copy is in record { lives = r.live; row = r.row; is = r.is; other = r.other; other_is = r.other_is }

  pub taken_held : (cell : Cell) (now : PairState) (copy : Copying) → TakenCopy heard own cell now copy → IsHeldHere here cell
  taken_held cell now copy taken = let u = under_way heard here own cell now copy taken in copying_held cell u.was u.was_is

  pub begun_held : (id : LinkId) (row : LinkRow) (other : ℕ) (cell : Cell) → IsHeldWith here id row other
      → next_copy here.state row own ≡ Block cell → IsHeldHere here cell
  begun_held id row other cell held next =
      let n = next_is here.state id row own held.is cell next in
      record { lives = n.lives; row = row; is = n.is; other = other; other_is = held.other_is }

  -- a page that was heard is of a live cell of the link
  pub page_on : (id : LinkId) (row : LinkRow) (after : Option ℕ) (block : ℕ) → heard (body.Hello id.map id.link after (Some block))
      → link_named here.state id ≡ Some row → (cell_link here.state (cell_at row block) ≡ Some row) × (live here.state (cell_at row block) ≡ true)
  page_on id row after block h named =
      let id_is = named_id here.state id row named in
      let said : heard (body.Hello row.map id.link after (Some block)) =
      subst (λ m. heard (body.Hello m id.link after (Some block))) (sym (ap (λ (l : LinkId). l.map) id_is)) h in
      let of_link = fit.pages (cell_at row block) id.link after said in
      let map_is : of_link.row.map ≡ id.map = sym (cell_map here.state (cell_at row block) of_link.row of_link.is)
      ∙ ap (λ (l : LinkId). l.map) id_is in
      let same : of_link.row ≡ row = one_named here.state (cell_at row block) of_link.row id row of_link.is named
      (λ i. record { map = map_is i; link = of_link.link_is i }) in
      (of_link.is ∙ ap Some same, of_link.lives)

  -- ### As the other server

  pub entry_held : (entry : Entry) (holder : ℕ) (last : LastCopy) → IsOfCopy heard here own entry holder last → IsHeldBy here (cell_of entry.key)
  entry_held entry holder last of = record {
    lives = fit.lives (body.Sync entry.op entry.key entry.stored.version entry.index entry.stored.bytes) of.said refl (cell_of entry.key) refl;
    holder = holder;
    held = of.held;
  }
