-- What a lead of a cell, by its own state, has of it while nothing of its own is under way, or its second server has followed: each server that serves the
-- link by what is chosen has it too. And of two such leads the one has just held the link alone, and is after its own Caught.
use Rattle.law_moves.proofs.Imports.{◌+◌, ◌<◌, ◌==◌, ◌∙◌, ◌≡◌, ◌≢◌, ◌≤◌, ◌⊎◌, AliveIn, AreCopies, Bool, Both, Cell, Chain, Command, Handled, HasOwnCaught}
use Rattle.law_moves.proofs.Imports.{IsHeldBy, IsInBoth, IsLinked, IsPrefix, IsServing, LinkRow, List, None, Only, Option, PairOk, PairState, Pending, Run}
use Rattle.law_moves.proofs.Imports.{Some, Store, Working, alone_not_both, alone_row, ap, arith, at, at-empty, at_apart, at_most_or_above, at_same}
use Rattle.law_moves.proofs.Imports.{blank_joins_in, both_since, by_bool, cell_cmp, cell_link, chain_in, chosen_state, either_true, end_of, false, far, half}
use Rattle.law_moves.proofs.Imports.{half_store, has_proposed, has_server, heard_there, holder_is_one, in_both, inl, inr, is_alone_on, is_clients, is_some}
use Rattle.law_moves.proofs.Imports.{is_the_one, kept, link_led_by, nat_cmp, none_some, one_before, one_put_ahead, one_row, option_and_then, pair_at, pair_of}
use Rattle.law_moves.proofs.Imports.{pending_on, place_by, places_up, prefix_itself, primary_is_one, progress, put, refl, row_lead, rows_later}
use Rattle.law_moves.proofs.Imports.{running_prefixes, same_numbers, same_only, same_or_apart, same_some, server_state, serves_alone, serves_its, so_both}
use Rattle.law_moves.proofs.Imports.{stage_at, stage_live, stays_alone, subst, sym, true, true_false, unseen_beyond, ℕ}
use Rattle.law_moves.specs.Fills.{Has}
use Rattle.law_moves.proofs.MoveWorlds.{chosen_twins, facts_at, firm, good, own_counts, rests, steady_at, up}
use Rattle.law_moves.proofs.MoveScenes.{LeadsAt, TwoLeads}
use Rattle.petal_msg.specs.declared.body.Body.TheVariants as body

-- ### Two copies

-- what the second one has the first one has
ahead_has : (chain : Chain) (op : Pending) (epoch : ℕ) → Has chain epoch → Has (one_put_ahead chain op) epoch
ahead_has chain op epoch has = elim (same_or_apart epoch op.key.epoch) [
  | inl e ↦ ap (λ k. is_some (at nat_cmp (one_put_ahead chain op) k)) e ∙ ap is_some (at_same chain op.key.epoch _)
  | inr ne ↦ ap is_some (at_apart chain op.key.epoch _ epoch ne) ∙ has
]

copies_first : (first second : Chain) (far_is : ℕ) (o : Option Pending) (epoch : ℕ) → AreCopies first second far_is o → Has second epoch → Has first epoch
copies_first first second far_is None epoch same has = subst (λ (c : Chain). Has c epoch) (sym same) has
copies_first first second far_is (Some op) epoch copies has = by op.stage.put copies
  where
    by : (put : Bool) → Working first second far_is op put → Has first epoch
    by false even = subst (λ (c : Chain). Has c epoch) (sym even.even) has
    by true ahead = elim (at_most_or_above (op.op + op.op + 1) far_is) [
      | inl past ↦ subst (λ (c : Chain). Has c epoch) (sym (ahead.even past)) has
      | inr low ↦ (
          let least = ahead.begun in
          subst (λ (c : Chain). Has c epoch) (sym (ahead.ahead (omega arith))) (ahead_has second op epoch has))
    ]

-- nothing is pending, or the second server has followed
abbrev pub IsSettledBy : ℕ → Option Pending → Type 0
IsSettledBy far_is o = (o ≡ None) ⊎ ((op : Pending) × (o ≡ Some op) × (op.stage.put ≡ true) × (op.op + op.op + 1 ≤ far_is))

copies_equal : (first second : Chain) (far_is : ℕ) (o : Option Pending) → AreCopies first second far_is o → IsSettledBy far_is o → first ≡ second
copies_equal first second far_is None same settled = same
copies_equal first second far_is (Some op) copies (inl none) = none_some none refl
copies_equal first second far_is (Some op) copies (inr done) =
    let same : done.0 ≡ op = same_some (sym done.1) in
    by op.stage.put (ap (λ (p : Pending). p.stage.put) (sym same) ∙ done.2) copies
  where
    by : (put : Bool) → put ≡ true → Working first second far_is op put → first ≡ second
    by false e even = even.even
    by true e ahead = ahead.even (subst (λ (p : Pending). p.op + p.op + 1 ≤ far_is) (same_some (sym done.1)) done.3)

half_none : (visit : Option PairState) (store : Store) (cell : Cell) → visit ≡ None → at cell_cmp (half visit store).pairs.pending cell ≡ None
half_none visit store cell none = ap (λ o. at cell_cmp (half o store).pairs.pending cell) none ∙ at-empty cell_cmp cell

half_some : (visit : Option PairState) (store : Store) (own : PairState) (cell : Cell) → visit ≡ Some own
    → at cell_cmp (half visit store).pairs.pending cell ≡ at cell_cmp own.pairs.pending cell
half_some visit store own cell is = ap (λ o. at cell_cmp (half o store).pairs.pending cell) is

module _ (one other : Option PairState) (a b : Store) (cell : Cell) (ok : PairOk (pair_of (half one a) (half other b) cell)) where
  abbrev first_is : chain_in (half one a).store.chains cell ≡ chain_in a.chains cell
  first_is = ap (λ (s : Store). chain_in s.chains cell) (half_store one a)

  abbrev second_is : chain_in (half other b).store.chains cell ≡ chain_in b.chains cell
  second_is = ap (λ (s : Store). chain_in s.chains cell) (half_store other b)

  pub first_has : (epoch : ℕ) → Has (chain_in b.chains cell) epoch → Has (chain_in a.chains cell) epoch
  first_has epoch has =
      let pair = pair_of (half one a) (half other b) cell in
      subst (λ (c : Chain). Has c epoch) first_is
      (copies_first pair.first pair.second (far pair) pair.pending epoch ok.copies (subst (λ (c : Chain). Has c epoch) (sym second_is) has))

  pub both_equal : IsSettledBy (far (pair_of (half one a) (half other b) cell)) (at cell_cmp (half one a).pairs.pending cell)
      → chain_in a.chains cell ≡ chain_in b.chains cell
  both_equal settled =
      let pair = pair_of (half one a) (half other b) cell in
      sym first_is ∙ copies_equal pair.first pair.second (far pair) pair.pending ok.copies settled ∙ second_is

-- ### A lead

module _ (it : Run) (cell : Cell) (k : ℕ) (lead : LeadsAt (end_of it).setting (end_of it).w cell k) where
  open it use {records}
  open end_of it use {setting, w, chosen}
  open lead use {runs, seat, leads}

  abbrev own : PairState
  own = (w.servers k).own

  abbrev mine : List Command
  mine = (w.servers k).log.applied

  mine_chosen : IsPrefix mine chosen
  mine_chosen = (firm it).servers k

  alive : AliveIn (chosen_state setting w) cell
  alive = omega arith

  mine_alive : AliveIn (server_state setting w k) cell
  mine_alive = let le = up it mine chosen mine_chosen (prefix_itself chosen) cell in omega arith

  abbrev stores : ℕ → Store
  stores = kept setting w

  mine_kept : kept setting w k ≡ own.store
  mine_kept = own_counts it k runs mine mine_chosen seat

  -- what it was at its own place it is now
  pub visit_mine : (row : LinkRow) → IsLinked setting mine cell row → (good it).visits k (place_by setting mine row) cell ≡ Some own
  visit_mine row is =
      let here = (good it).here k cell row is seat mine_alive in
      here.is ∙ ap Some (here.same ∙ (λ i. record own { store = mine_kept i }))

  leading : ((b : IsInBoth (server_state setting w k) cell) × (b.row.primary ≡ k)) ⊎ IsHeldBy (server_state setting w k) cell k
  leading = link_led_by (server_state setting w k) (steady_at it mine mine_chosen) cell k
      (is_the_one (option_and_then (row_lead (server_state setting w k)) (cell_link (server_state setting w k) cell)) k leads)

  -- where the link is by what is chosen: in Both at the place where this server is the first one; or the server holds it alone; or it is in Both by the
  -- server's own Caught, and the server has not been there
  pub record IsFirstAt (now : LinkRow) : Type 0 where
    pub both : now.state ≡ Both
    pub first : now.primary ≡ k
    pub linked : IsLinked setting mine cell now
    pub place : place_by setting chosen now ≡ place_by setting mine now

  pub record IsAfter (now : LinkRow) : Type 0 where
    pub both : now.state ≡ Both
    pub unseen : (good it).visits k (place_by setting chosen now) cell ≡ None
    pub one_of : has_server k now ≡ true
    pub flagged : has_proposed (server_state setting w k) own cell ≡ true

  pub data IsLedAs (now : LinkRow) : Type 0 where
    As_first : IsFirstAt now → IsLedAs now
    Alone : (whole : Bool) → now.state ≡ Only k whole → IsLedAs now
    Following : IsAfter now → IsLedAs now

  pub led_as : (now : LinkRow) → IsLinked setting chosen cell now → IsLedAs now
  led_as now end = elim leading [
    | inl b ↦
        let has = primary_is_one b.0.row k b.1 in
        elim (both_since setting records w stores (firm it) (good it) k runs seat cell b.0.row b.0.is
        b.0.so has chosen now mine_chosen (prefix_itself chosen) end alive) [
          | inl same ↦ (
              let one = one_row setting chosen (firm it).plain mine chosen cell b.0.row now mine_chosen (prefix_itself chosen) b.0.is
              end (sym same) in
              As_first (record {
                both = ap (λ (r : LinkRow). r.state) one ∙ b.0.so;
                first = ap (λ (r : LinkRow). r.primary) one ∙ b.1;
                linked = b.0.is ∙ ap Some (sym one);
                place = same ∙ ap (place_by setting mine) (sym one);
              }))
          | inr alone ↦ Alone alone.0 alone.1
        ]
    | inr h ↦ held h
  ]
    where
      held : IsHeldBy (server_state setting w k) cell k → IsLedAs now
      held h =
          let has = holder_is_one (server_state setting w k) cell k h in
          elim (stays_alone (running_prefixes (firm it) k runs (prefix_itself mine) mine_chosen (prefix_itself chosen) seat) cell
          h.row h.is has (serves_its k h.row h.so) alive h.whole h.so) [
            | inl on ↦ (
                let a = alone_row (chosen_state setting w) k cell on in
                Alone a.whole (ap (λ (r : LinkRow). r.state) (same_some (sym end ∙ a.is)) ∙ a.alone))
            | inr caught ↦ following h caught
          ]
        where
          following : IsHeldBy (server_state setting w k) cell k → HasOwnCaught setting w k mine chosen cell → IsLedAs now
          following h caught =
              let same : caught.now ≡ now = same_some (sym caught.since.same ∙ end) in
              let both : now.state ≡ Both = ap (λ (r : LinkRow). r.state) (sym same) ∙ caught.both in
              let le = places_up setting chosen (firm it).plain mine chosen cell h.row now mine_chosen (prefix_itself chosen) h.is end in
              let lt : place_by setting mine h.row < place_by setting chosen now =
              elim (at_most_or_above (place_by setting chosen now) (place_by setting mine h.row)) [
                | inr above ↦ above
                | inl most ↦ (
                    let one = one_row setting chosen (firm it).plain mine chosen cell h.row now mine_chosen (prefix_itself chosen)
                    h.is end (omega arith) in
                    let f : Only k h.whole ≡ Both = sym h.so ∙ ap (λ (r : LinkRow). r.state) (sym one) ∙ both in absurd cc)
              ] in
              Following (record {
                both = both;
                unseen = unseen_beyond setting records w stores (firm it) (good it) k cell h.row h.is
                    (place_by setting chosen now) lt;
                one_of = one_before h.row now k (rows_later setting chosen (firm it).plain mine chosen cell h.row now mine_chosen
                    (prefix_itself chosen) h.is end)
                    ∙ holder_is_one (server_state setting w k) cell k h;
                flagged = caught.proposed;
              })

  -- ### What it has, the others have

  -- nothing is pending on the cell, or its second server tells that it has followed, or the server holds the link alone and may go on with it
  pub data IsIdle : Type 0 where
    Nothing : pending_on own cell ≡ None → IsIdle
    Followed : (op : Pending) → pending_on own cell ≡ Some op → op.stage.put ≡ true → Handled w k (body.Replicated op.op cell)
        → in_both (server_state setting w k) cell ≡ true → IsIdle
    Holds : (op : Pending) → pending_on own cell ≡ Some op → is_alone_on (server_state setting w k) k cell ≡ true → IsIdle

  module _ (born : 1 ≤ stage_at (server_state setting w k) cell) (idle : IsIdle) (epoch : ℕ) (has : Has (chain_in own.store.chains cell) epoch) where
    -- where an operation is pending, the server has started no ballot for the link's Caught
    not_flagged : (op : Pending) → pending_on own cell ≡ Some op → has_proposed (server_state setting w k) own cell ≡ true → ⊥
    not_flagged op is flagged =
        true_false flagged
        ((((rests it).pending k).staged cell op is).unheld (stage_live (server_state setting w k) cell born mine_alive))

    kept_mine : Has (chain_in (kept setting w k).chains cell) epoch
    kept_mine = subst (λ (s : Store). Has (chain_in s.chains cell) epoch) (sym mine_kept) has

    abbrev HasIt : ℕ → Type 0
    HasIt n = Has (chain_in (kept setting w n).chains cell) epoch

    -- two servers in Both
    module _ (now : LinkRow) (end : IsLinked setting chosen cell now) (both : now.state ≡ Both) where
      abbrev visit : ℕ → Option PairState
      visit n = (good it).visits n (place_by setting chosen now) cell

      ok : PairOk (pair_of (half (visit now.primary) (kept setting w now.primary)) (half (visit now.secondary) (kept setting w now.secondary)) cell)
      ok =
          let counts = (good it).now in
          subst (λ (s : Store). PairOk (pair_of (half (visit now.primary) (kept setting w now.primary)) (half (visit now.secondary) s) cell))
          (counts now.secondary)
          (subst (λ (s : Store). PairOk (pair_of (half (visit now.primary) s)
          (half (visit now.secondary) ((good it).stores now.secondary (blank_joins_in setting chosen now.secondary))) cell))
          (counts now.primary) (chosen_twins it cell now end both alive).pair)

      -- the first one has it, and nothing that the second one has not
      abbrev far_at : ℕ → ℕ
      far_at place = progress (at cell_cmp (half ((good it).visits now.secondary place cell) (kept setting w now.secondary)).pairs.last cell)

      to_second : HasIt now.primary
          → IsSettledBy (far_at (place_by setting chosen now)) (at cell_cmp (half (visit now.primary) (kept setting w now.primary)).pairs.pending cell)
          → HasIt now.secondary
      to_second first settled =
          subst (λ (c : Chain). Has c epoch)
          (both_equal (visit now.primary) (visit now.secondary) (kept setting w now.primary) (kept setting w now.secondary) cell ok settled) first

      to_first : HasIt now.secondary → HasIt now.primary
      to_first second = first_has (visit now.primary) (visit now.secondary) (kept setting w now.primary) (kept setting w now.secondary) cell ok epoch second

      either : (n : ℕ) → has_server n now ≡ true → HasIt now.primary → HasIt now.secondary → HasIt n
      either n one first second = by_bool (now.primary == n)
          (λ t. subst HasIt (same_numbers now.primary n t) first)
          (λ f. subst HasIt (same_numbers now.secondary n (either_true (now.primary == n) (now.secondary == n) one f)) second)

      by_first : IsFirstAt now → (n : ℕ) → has_server n now ≡ true → HasIt n
      by_first f n one =
          let first : HasIt now.primary = subst HasIt (sym f.first) kept_mine in
          let there : visit now.primary ≡ Some own =
          ap visit f.first ∙ ap (λ p. (good it).visits k p cell) f.place ∙ visit_mine now f.linked in
          let pending = half_some (visit now.primary) (kept setting w now.primary) own cell there in
          either n one first (to_second first (elim idle [
            | Nothing none ↦ inl (pending ∙ none)
            | Followed op is put h on ↦
                let past = heard_there setting records w stores (firm it) (good it) k runs seat cell now f.linked f.both
                (primary_is_one now k f.first) alive (body.Replicated op.op cell) h refl in
                inr (op, pending ∙ is, put, subst (λ place. op.op + op.op + 1 ≤ far_at place) (sym f.place) past)
            | Holds op is alone_on ↦ true_false (so_both (server_state setting w k) cell now f.linked f.both)
                (alone_not_both (server_state setting w k) k cell alone_on)
          ]))

      by_after : IsAfter now → pending_on own cell ≡ None → (n : ℕ) → has_server n now ≡ true → HasIt n
      by_after b none n one = by_bool (now.primary == k)
          (λ t.
          let is = same_numbers now.primary k t in
          let first : HasIt now.primary = subst HasIt (sym is) kept_mine in
          either n one first (to_second first (inl (half_none (visit now.primary) (kept setting w now.primary) cell (ap visit is ∙ b.unseen)))))
          (λ f.
          let is = same_numbers now.secondary k (either_true (now.primary == k) (now.secondary == k) b.one_of f) in
          let second : HasIt now.secondary = subst HasIt (sym is) kept_mine in
          either n one (to_first second) second)

    pub spread : (n : ℕ) → IsServing (chosen_state setting w) n cell → HasIt n
    spread n serving = elim (led_as serving.row serving.is) [
      | As_first f ↦ by_first serving.row serving.is f.both f n serving.one_of
      | Alone whole so ↦ subst HasIt (sym (serves_alone k n serving.row so serving.so)) kept_mine
      | Following b ↦ elim idle [
        | Nothing none ↦ by_after serving.row serving.is b.both b none n serving.one_of
        | Followed op is put h on ↦ absurd (not_flagged op is b.flagged)
        | Holds op is alone_on ↦ absurd (not_flagged op is b.flagged)
      ]
    ]

-- a second server that comes after the first one, which has a fill pending at the link's last place, has nothing of the fill's epoch
pub follower_lacks : (it : Run) (cell : Cell) (m k : ℕ) → m ≢ k → (lead : LeadsAt (end_of it).setting (end_of it).w cell k) (now : LinkRow)
    → IsLinked (end_of it).setting (end_of it).chosen cell now → now.primary ≡ m → IsAfter it cell k lead now → (own : PairState)
    → (good it).visits m (place_by (end_of it).setting (end_of it).chosen now) cell ≡ Some own → (op : Pending) → pending_on own cell ≡ Some op
    → is_clients op.kind ≡ false → AliveIn (chosen_state (end_of it).setting (end_of it).w) cell
    → at nat_cmp (chain_in ((end_of it).w.servers k).own.store.chains cell) op.key.epoch ≡ None
follower_lacks it cell m k apart lead now linked first follows own visited op is fills alive =
    let this = (end_of it).setting in
    let by_all = (end_of it).chosen in
    let good_now = good it in
    let visit : ℕ → Option PairState = λ n. good_now.visits n (place_by this by_all now) cell in
    let second_is : now.secondary ≡ k = same_numbers now.secondary k (either_true (now.primary == k) (now.secondary == k) follows.one_of
    (by_bool (now.primary == k) (λ t. absurd (apart (sym first ∙ same_numbers now.primary k t))) (λ f. f))) in
    let far_is : far
    (pair_at (λ n. good_now.stores n (blank_joins_in this by_all n)) good_now.visits (place_by this by_all now) cell now.primary now.secondary) ≡ 0 =
    ap (λ o. progress (at cell_cmp (half o (good_now.stores now.secondary (blank_joins_in this by_all now.secondary))).pairs.last cell))
    (ap visit second_is ∙ follows.unseen) ∙ ap progress (at-empty cell_cmp cell) in
    let lacks = (chosen_twins it cell now linked follows.both alive).lacks own op (ap visit first ∙ visited) is fills (omega arith) in
    ap (λ (s : Store). at nat_cmp (chain_in s.chains cell) op.key.epoch)
    (sym (own_counts it k lead.runs ((end_of it).w.servers k).log.applied ((firm it).servers k) lead.seat) ∙ sym (good_now.now k)
    ∙ ap (λ n. good_now.stores n (blank_joins_in this by_all n)) (sym second_is))
    ∙ lacks

-- ### Two leads

-- a server has a fill pending, and another one leads the cell by its own state: that one has nothing pending, and nothing of the fill's epoch
module _ (it : Run) (two : TwoLeads (end_of it).setting (end_of it).w) where
  open end_of it use {setting as this, w as u, chosen as by_all}
  open two use {m, k, apart, cell, one, one_born, op, is, other, other_born, one.{low}}

  unheld : (n : ℕ) → 1 ≤ stage_at (server_state this u n) cell → (o : Pending) → pending_on (u.servers n).own cell ≡ Some o
      → has_proposed (server_state this u n) (u.servers n).own cell ≡ true → ⊥
  unheld n one o there flagged =
      let le = up it (u.servers n).log.applied by_all ((firm it).servers n) (prefix_itself by_all) cell in
      true_false flagged
      ((((rests it).pending n).staged cell o there).unheld (stage_live (server_state this u n) cell one (omega arith)))

  -- the link by what is chosen, with both in their places
  pub record AreApart : Type 0 where
    pub now : LinkRow
    pub end : IsLinked this by_all cell now
    pub first : IsFirstAt it cell m one now
    pub second : IsAfter it cell k other now

  pub are_apart : AreApart
  are_apart =
      let mine = (u.servers m).log.applied in
      let mine_all = (firm it).servers m in
      let le = up it mine by_all mine_all (prefix_itself by_all) cell in
      let lives = (steady_at it by_all (prefix_itself by_all)).lives cell
      ((facts_at it by_all (prefix_itself by_all) cell).alive (omega arith) low) in
      elim (led_as it cell m one lives.row lives.is) [
        | As_first f ↦ elim (led_as it cell k other lives.row lives.is) [
          | As_first g ↦ absurd (apart (sym f.first ∙ g.first))
          | Alone whole so ↦ (let e : Only k whole ≡ Both = sym so ∙ f.both in absurd cc)
          | Following b ↦ record { now = lives.row; end = lives.is; first = f; second = b }
        ]
        | Alone whole so ↦ elim (led_as it cell k other lives.row lives.is) [
          | As_first g ↦ (let e : Only m whole ≡ Both = sym so ∙ g.both in absurd cc)
          | Alone other also ↦ absurd (apart (same_only (sym so ∙ also)))
          | Following b ↦ (let e : Only m whole ≡ Both = sym so ∙ b.both in absurd cc)
        ]
        | Following b ↦ absurd (unheld m one_born op is b.flagged)
      ]

  pub other_idle : (o : Pending) → pending_on (u.servers k).own cell ≡ Some o → ⊥
  other_idle o there = unheld k other_born o there are_apart.second.flagged

  pub other_lacks : is_clients op.kind ≡ false → at nat_cmp (chain_in (u.servers k).own.store.chains cell) op.key.epoch ≡ None
  other_lacks fills =
      let a = are_apart in
      follower_lacks it cell m k apart other a.now a.end a.first.first a.second (u.servers m).own
      (ap (λ p. (good it).visits m p cell) a.first.place ∙ visit_mine it cell m one a.now a.first.linked) op is fills (omega arith)
