-- A step keeps what is known of fills that are pending: while one is, its region is on its way, and no letter says that its entry is there; until it is put the
-- entry is not there, and then it is.
use Rattle.law_moves.proofs.Imports.{◌∙◌, ◌≡◌, ◌≢◌, ◌≤◌, BeforeBlank, Cell, Command, Fills, Handled, IsOpenedFill, IsStaged, Key, Letter, List, None, OneMore}
use Rattle.law_moves.proofs.Imports.{Option, PairState, Pending, Server, Some, Stood, Store, World, Writes, ap, arith, at, at-empty, at_most_or_above}
use Rattle.law_moves.proofs.Imports.{at_same, cell_cmp, cell_link, cell_of, chain_in, chosen_state, did_come, ends_of, false, has_proposed, inl, inr}
use Rattle.law_moves.proofs.Imports.{is_clients, is_in, is_some, is_the_one, lead, leads_link, nat_cmp, none_some, option_and_then, own_place, prefix_itself}
use Rattle.law_moves.proofs.Imports.{row_lead, same_or_apart, server_state, stage_at, stage_live, subst, sym, true, true_false, ℕ}
use Rattle.law_moves.proofs.StepsTellEntries.{Goes_on, HasStore, Is_bare, Keeps, Awakes, Before, IsJob, IsPosted, Other, Posted, Works, chosen_on, gone, sent}
use Rattle.law_moves.proofs.StepsTellEntries.{mine_top}
use Rattle.law_moves.specs.Fills.{Has, IsFrozen, WasFilled}
use Rattle.law_moves.proofs.ServedCellChanges.{never_retired}
use Rattle.law_moves.proofs.LeavingCellsGainNothing.{before}
use Rattle.law_moves.proofs.AllKeptOfMoves.{Known, WereKnown}
use Rattle.law_moves.proofs.LeadsHaveWhatServersHave.{other_idle, other_lacks}
use Rattle.law_moves.proofs.PendingAfterJobs.{Is_new, It_was, did_was}
use Rattle.law_moves.proofs.FillLetters.{HasFilled, Is_there, Was_put, did_says}
use Rattle.law_moves.proofs.ServersOfLinks.{lead_serves, link_lead_serves}
use Rattle.law_moves.proofs.EqualCopies.{moved_now}
use Rattle.law_moves.proofs.ToldEntriesAreThere.{kept_own, no_other, told_already}
use Rattle.law_moves.proofs.MoveWorlds.{facts_at, firm, good, own_counts, rests, steady_at, up}
use Rattle.law_moves.proofs.MoveScenes.{TwoLeads}
use Rattle.law_moves.proofs.JobsChangeOneChain.{put_on}
use Rattle.petal_msg.specs.declared.body.Body.TheVariants as body

module _ (it : OneMore) (all : WereKnown it) where
  open it use {prior, prior.{script, records as prefix}}
  open ends_of it use {setting, w, v, top, whole, By, present}

  known : Known script prefix
  known = before it all

  abbrev mine : ℕ → List Command
  mine m = (w.servers m).log.applied

  abbrev pending_at : World → ℕ → Cell → Option Pending
  pending_at u m cell = at cell_cmp (u.servers m).own.pairs.pending cell

  staged : (m : ℕ) (cell : Cell) (op : Pending) → pending_at w m cell ≡ Some op
      → IsStaged (server_state setting w m) m (has_proposed (server_state setting w m) (w.servers m).own) cell op
  staged m cell op is = ((rests prior).pending m).staged cell op is

  pub keyed_was : (m : ℕ) (cell : Cell) (op : Pending) → pending_at w m cell ≡ Some op → cell_of op.key ≡ cell
  keyed_was m cell op is = (staged m cell op is).keyed

  pub keyed_now : (m : ℕ) (cell : Cell) (op : Pending) → pending_at v m cell ≡ Some op → cell_of op.key ≡ cell
  keyed_now m cell op is = (((rests present).pending m).staged cell op is).keyed

  mine_up : (m : ℕ) (cell : Cell) → stage_at (server_state setting w m) cell ≤ stage_at (By top) cell
  mine_up m cell = up prior (mine m) top (mine_top it m) (prefix_itself top) cell

  -- ### What is pending at a server that runs

  -- it was pending, if the server runs, at one that ran
  pub data CameAs (m : ℕ) (to : Server) (cell : Cell) (op : Pending) : Type 0 where
    Same_pairs : (to.life.running ≡ true → (w.servers m).life.running ≡ true) → pending_at w m cell ≡ Some op → CameAs m to cell op
    By_job : (job : IsJob it m to) → at cell_cmp job.done.own.pairs.pending cell ≡ Some op → CameAs m to cell op

  pub came_by : (m : ℕ) (to : Server) (b : Option BeforeBlank) → HasStore it m to b → (cell : Cell) (op : Pending)
      → at cell_cmp to.own.pairs.pending cell ≡ Some op → CameAs m to cell op
  came_by m to b (Goes_on (Keeps kept) same) cell op is =
      Same_pairs (λ on. (kept.runs on).0) (ap (λ t. at cell_cmp t cell) (sym kept.pending) ∙ is)
  came_by m to b (Goes_on (Works job) same) cell op is = By_job job (ap (λ (o : PairState). at cell_cmp o.pairs.pending cell) (sym job.own_is) ∙ is)
  came_by m to b (Goes_on (Awakes asleep so) same) cell op is =
      none_some (at-empty cell_cmp cell) (ap (λ (s : Server). at cell_cmp s.own.pairs.pending cell) (sym so) ∙ is)
  came_by m to b (Is_bare asleep bare same) cell op is =
      Same_pairs (λ on. true_false (ap (λ (s : Server). s.life.running) (sym bare) ∙ on) asleep)
      (ap (λ (s : Server). at cell_cmp s.own.pairs.pending cell) (sym bare) ∙ is)

  came : (m : ℕ) (cell : Cell) (op : Pending) → pending_at v m cell ≡ Some op → CameAs m (v.servers m) cell op
  came m cell op is = came_by m (v.servers m) _ (gone it m) cell op is

  -- ### A fill that is opened

  module _ (m : ℕ) (cell : Cell) (op : Pending) (runs : (w.servers m).life.running ≡ true)
      (o : IsOpenedFill (Handled w m) (own_place setting w m) (w.servers m).own cell op) where
    leads_so : (leads_link (server_state setting w m) m (cell_of o.moving.key) ≡ true) × (1 ≤ stage_at (server_state setting w m) (cell_of o.moving.key))
        × (stage_at (server_state setting w m) (cell_of o.moving.key) ≤ 2)
    leads_so = (facts_at prior (mine m) (mine_top it m) (cell_of o.moving.key)).leads m o.new.lead

    -- it was not told to be there: it would be
    pub new_unsaid : WasFilled w o.moving.key → ⊥
    new_unsaid told =
        let serving = lead_serves (server_state setting w m) (steady_at prior (mine m) (mine_top it m)) (cell_of o.moving.key) m
        (is_the_one (lead (server_state setting w m) (cell_of o.moving.key)) m o.new.lead) in
        let low = leads_so.2 in
        true_false ((known.filled.filled o.moving.key told).own m (mine m) runs (prefix_itself (mine m)) (mine_top it m) o.new.seated leads_so.1 (omega arith)
        serving) (ap is_some o.new.lacks)

    new_coming : stage_at (By top) cell ≡ 1
    new_coming = subst (λ (q : Cell). stage_at (By top) q ≡ 1) o.cell_is (elim (at_most_or_above (stage_at (By top) (cell_of o.moving.key)) 1) [
      | inl low ↦
          let le = mine_up m (cell_of o.moving.key) in
          let one = leads_so.1 in
          omega arith
      | inr two ↦
          let wanted = o.new.wanted in
          absurd (new_unsaid (told_already prior known.filled.moved wanted.letter.rev o.moving.key o.moving.bytes
          (known.filled.sent wanted.letter o.moving.key o.moving.bytes wanted.sent wanted.is) two))
    ])

  -- ### The region is on its way, by what was chosen before the step

  pub opened_before : (m : ℕ) (cell : Cell) (op : Pending) → (v.servers m).life.running ≡ true → pending_at v m cell ≡ Some op → is_clients op.kind ≡ false
      → stage_at (By top) cell ≡ 1
  opened_before m cell op runs is fills = elim (came m cell op is) [
    | Same_pairs up_was was ↦ known.filled.opened m cell op (up_was runs) was fills
    | By_job job there ↦ elim (did_come (Handled w m) (own_place setting w m) (w.servers m).own job.done job.did cell op there) [
      | Stood was ↦ known.filled.opened m cell was.was job.runs was.is (ap is_clients was.same.kind ∙ fills)
      | Writes write ↦ true_false (ap is_clients write) fills
      | Fills o ↦ new_coming m cell op job.runs o
    ]
  ]

  -- ### No letter says that it is there

  -- none of before the step
  unsaid_was : (m : ℕ) (cell : Cell) (op : Pending) → (v.servers m).life.running ≡ true → pending_at v m cell ≡ Some op → is_clients op.kind ≡ false
      → WasFilled w op.key → ⊥
  unsaid_was m cell op runs is fills told = elim (came m cell op is) [
    | Same_pairs up_was was ↦ known.filled.unsaid m cell op (up_was runs) was fills told
    | By_job job there ↦ elim (did_come (Handled w m) (own_place setting w m) (w.servers m).own job.done job.did cell op there) [
      | Stood was ↦ known.filled.unsaid m cell was.was job.runs was.is (ap is_clients was.same.kind ∙ fills) (subst (WasFilled w) (sym was.same.key) told)
      | Writes write ↦ true_false (ap is_clients write) fills
      | Fills o ↦ new_unsaid m cell op job.runs o (subst (WasFilled w) o.key told)
    ]
  ]

  -- who says in the step that an entry is there
  pub posted_says : (letter : Letter) (p : IsPosted it letter) (key : Key) → letter.body ≡ body.Filled key
      → HasFilled (Handled w p.n) (own_place setting w p.n) (w.servers p.n).own p.job.done.own key
  posted_says letter p key said = did_says (Handled w p.n) (own_place setting w p.n) (w.servers p.n).own
      (never_retired prior known.filled.opened p.n p.job.runs) p.job.done p.job.did p.post p.there (body.Filled key) (sym p.body ∙ said)

  -- one of the step's own
  module _ (m : ℕ) (cell : Cell) (op : Pending) (is : pending_at v m cell ≡ Some op) (fills : is_clients op.kind ≡ false)
      (letter : Letter) (said : letter.body ≡ body.Filled op.key) (p : IsPosted it letter) where
    abbrev k : ℕ
    k = p.n

    abbrev SaysIt : Type 0
    SaysIt = HasFilled (Handled w k) (own_place setting w k) (w.servers k).own p.job.done.own op.key

    abbrev cell_is : (key : Key) → key ≡ op.key → cell_of key ≡ cell
    cell_is key e = ap cell_of e ∙ keyed_now m cell op is

    -- by the server that has it pending
    pub by_itself : m ≡ k → SaysIt → ⊥
    by_itself e (Is_there moving filled of same) =
        none_some filled.none (ap (at cell_cmp (w.servers k).own.pairs.pending) (cell_is moving.key of)
        ∙ ap (λ (o : PairState). at cell_cmp o.pairs.pending cell)
        (sym (ap (λ i. (v.servers i).own) e ∙ ap (λ (s : Server). s.own) p.is ∙ p.job.own_is ∙ same)) ∙ is)
    by_itself e (Was_put o there of fill put how none) =
        none_some none (ap (at cell_cmp p.job.done.own.pairs.pending) (sym (keyed_was k o.cell o there) ∙ cell_is o.key of)
        ∙ ap (λ (o : PairState). at cell_cmp o.pairs.pending cell)
        (sym (ap (λ i. (v.servers i).own) e ∙ ap (λ (s : Server). s.own) p.is ∙ p.job.own_is)) ∙ is)

    -- by another one
    module _ (runs : (v.servers m).life.running ≡ true) (apart : m ≢ k) where
      same : v.servers m ≡ w.servers m
      same = p.others m apart

      runs_was : (w.servers m).life.running ≡ true
      runs_was = ap (λ (s : Server). s.life.running) (sym same) ∙ runs

      is_was : pending_at w m cell ≡ Some op
      is_was = ap (λ (s : Server). at cell_cmp s.own.pairs.pending cell) (sym same) ∙ is

      one : stage_at (By top) cell ≡ 1
      one = known.filled.opened m cell op runs_was is_was fills

      born : 1 ≤ stage_at (server_state setting w m) cell
      born = (staged m cell op is_was).born

      leads : leads_link (server_state setting w m) m cell ≡ true
      leads = let le = mine_up m cell in let o = one in (staged m cell op is_was).leads (stage_live (server_state setting w m) cell born (omega arith))

      seat : is_in (server_state setting w m) m (w.servers m).life.inc ≡ true
      seat = (rests prior).seated m cell op runs_was is_was

      abbrev two_leads : is_in (server_state setting w k) k (w.servers k).life.inc ≡ true → leads_link (server_state setting w k) k cell ≡ true
          → 1 ≤ stage_at (server_state setting w k) cell → TwoLeads setting w
      two_leads k_seat k_leads k_born = record {
        m = m;
        k = k;
        apart = apart;
        cell = cell;
        one = record { runs = runs_was; seat = seat; low = let at_top = one in omega arith; leads = leads };
        one_born = born;
        op = op;
        is = is_was;
        other = record { runs = p.job.runs; seat = k_seat; low = let at_top = one in omega arith; leads = k_leads };
        other_born = k_born;
      }

      -- which has something pending there, too
      pending_too : (o : Pending) (q : Cell) → pending_at w k q ≡ Some o → q ≡ cell → ⊥
      pending_too o q there e =
          let at_cell : pending_at w k cell ≡ Some o = ap (pending_at w k) (sym e) ∙ there in
          let b = (staged k cell o at_cell).born in
          let le = mine_up k cell in
          let at_top = one in
          let l = (staged k cell o at_cell).leads (stage_live (server_state setting w k) cell b (omega arith)) in
          other_idle prior (two_leads ((rests prior).seated k cell o p.job.runs at_cell) l b) o at_cell

      by_other : SaysIt → ⊥
      by_other (Is_there moving filled of same_own) =
          let to = cell_is moving.key of in
          let facts = (facts_at prior (mine k) (mine_top it k) (cell_of moving.key)).leads k filled.lead in
          let lacks = other_lacks prior (two_leads filled.seated
          (subst (λ (q : Cell). leads_link (server_state setting w k) k q ≡ true) to facts.0)
          (subst (λ (q : Cell). 1 ≤ stage_at (server_state setting w k) q) to facts.1)) fills in
          let has : Has (chain_in (w.servers k).own.store.chains cell) op.key.epoch =
          subst (λ (x : Key). Has (chain_in (w.servers k).own.store.chains cell) x.epoch) of
          (subst (λ (q : Cell). Has (chain_in (w.servers k).own.store.chains q) moving.key.epoch) to filled.has) in
          true_false has (ap is_some lacks)
      by_other (Was_put o there of fill put how none) = pending_too o o.cell there (sym (keyed_was k o.cell o there) ∙ cell_is o.key of)

    said_now : (v.servers m).life.running ≡ true → ⊥
    said_now runs = elim (same_or_apart m k) [
      | inl e ↦ by_itself e (posted_says letter p op.key said)
      | inr apart ↦ by_other runs apart (posted_says letter p op.key said)
    ]

  pub unsaid_next : (m : ℕ) (cell : Cell) (op : Pending) → (v.servers m).life.running ≡ true → pending_at v m cell ≡ Some op → is_clients op.kind ≡ false
      → WasFilled v op.key → ⊥
  unsaid_next m cell op runs is fills told = elim (sent it told.letter told.sent) [
    | Before i ↦ unsaid_was m cell op runs is fills (record { letter = told.letter; sent = i; is = told.is })
    | Posted p ↦ said_now m cell op is fills told.letter told.is p runs
    | Other e ↦ no_other it all told.letter op.key told.is e
  ]

  -- ### The region is on its way

  pub opened_next : ((m : ℕ) (cell : Cell) (op : Pending) → pending_at v m cell ≡ Some op → is_clients op.kind ≡ false
      → IsFrozen setting v op.rev op.key op.bytes)
      → (m : ℕ) (cell : Cell) (op : Pending) → (v.servers m).life.running ≡ true → pending_at v m cell ≡ Some op → is_clients op.kind ≡ false
      → stage_at (chosen_state setting v) cell ≡ 1
  opened_next asked m cell op runs is fills =
      let one = opened_before m cell op runs is fills in
      let le = up present top whole (chosen_on it) (prefix_itself whole) cell in
      elim (at_most_or_above (stage_at (By whole) cell) 1) [
        | inl low ↦ omega arith
        | inr two ↦
            absurd (unsaid_next m cell op runs is fills (told_already present (moved_now it all) op.rev op.key
            op.bytes (asked m cell op is fills) (subst (λ (q : Cell). 2 ≤ stage_at (By whole) q) (sym (keyed_now m cell op is)) two)))
      ]

  -- ### What is put is there

  -- what the server has of a cell on which something is pending stays
  still_has : (m : ℕ) (cell : Cell) (op : Pending) (epoch : ℕ) → (v.servers m).life.running ≡ true → (w.servers m).life.running ≡ true
      → pending_at w m cell ≡ Some op → is_clients op.kind ≡ false → Has (chain_in (w.servers m).own.store.chains cell) epoch
      → Has (chain_in (v.servers m).own.store.chains cell) epoch
  still_has m cell op epoch runs runs_was is fills has =
      let one = known.filled.opened m cell op runs_was is fills in
      let le = mine_up m cell in
      let leads = (staged m cell op is).leads (stage_live (server_state setting w m) cell (staged m cell op is).born (omega arith)) in
      let serving = link_lead_serves (server_state setting w m) (steady_at prior (mine m) (mine_top it m)) cell m
      (is_the_one (option_and_then (row_lead (server_state setting w m)) (cell_link (server_state setting w m) cell)) m leads) in
      kept_own it all m runs (mine m) (prefix_itself (mine m)) (mine_top it m) cell (omega arith) serving epoch has

  pub puts_next : (m : ℕ) (cell : Cell) (op : Pending) → (v.servers m).life.running ≡ true → pending_at v m cell ≡ Some op → is_clients op.kind ≡ false
      → op.stage.put ≡ true → Has (chain_in (v.servers m).own.store.chains cell) op.key.epoch
  puts_next m cell op runs is fills put = elim (came m cell op is) [
    | Same_pairs up_was was ↦ still_has m cell op op.key.epoch runs (up_was runs) was fills (known.puts m cell op (up_was runs) was fills put)
    | By_job job there ↦ elim (did_was (Handled w m) (own_place setting w m) (w.servers m).own (keyed_was m) job.done job.did cell op there) [
      | Is_new none next fresh ↦ true_false put fresh
      | It_was o was same how ↦ elim (how put) [
        | inr ahead ↦
            let has : Has (chain_in job.done.own.store.chains cell) o.key.epoch =
            ap (λ c. is_some (at nat_cmp (chain_in c cell) o.key.epoch)) ahead
            ∙ ap (λ c. is_some (at nat_cmp c o.key.epoch)) (put_on (w.servers m).own.store.chains o.key _ cell (keyed_was m cell o was))
            ∙ ap is_some (at_same (chain_in (w.servers m).own.store.chains cell) o.key.epoch _) in
            subst (λ (x : Key). Has (chain_in (v.servers m).own.store.chains cell) x.epoch) same.key
            (subst (λ (s : PairState). Has (chain_in s.store.chains cell) o.key.epoch) (sym job.own_is) has)
        | inl old ↦ (
            let fill = ap is_clients same.kind ∙ fills in
            subst (λ (x : Key). Has (chain_in (v.servers m).own.store.chains cell) x.epoch) same.key
            (still_has m cell o o.key.epoch runs job.runs was fill (known.puts m cell o job.runs was fill old)))
      ]
    ]
  ]

  -- and until it is, it is not
  pub lacks_next : ((m : ℕ) (cell : Cell) (op : Pending) → pending_at v m cell ≡ Some op → is_clients op.kind ≡ false
      → IsFrozen setting v op.rev op.key op.bytes)
      → (m : ℕ) (cell : Cell) (op : Pending) → (v.servers m).life.running ≡ true → pending_at v m cell ≡ Some op → is_clients op.kind ≡ false
      → op.stage.put ≡ false → at nat_cmp (chain_in (v.servers m).own.store.chains cell) op.key.epoch ≡ None
  lacks_next asked m cell op runs is fills fresh =
      let log = (v.servers m).log.applied in
      let log_whole = (firm present).servers m in
      let s = ((rests present).pending m).staged cell op is in
      let one = opened_next asked m cell op runs is fills in
      let le = up present log whole log_whole (prefix_itself whole) cell in
      let lives = stage_live (server_state setting v m) cell s.born (omega arith) in
      let seat = (rests present).seated m cell op runs is in
      ap (λ (x : Store). at nat_cmp (chain_in x.chains cell) op.key.epoch) (sym (own_counts present m runs log log_whole seat))
      ∙ ((good present).marks m (inl runs) cell op lives is).lacks fills fresh

  -- ### Operations are numbered from 1

  pub numbered_next : ((m : ℕ) (cell : Cell) (op : Pending) → pending_at w m cell ≡ Some op → 1 ≤ op.op)
      → (m : ℕ) (cell : Cell) (op : Pending) → pending_at v m cell ≡ Some op → 1 ≤ op.op
  numbered_next old m cell op is = elim (came m cell op is) [
    | Same_pairs up_was was ↦ old m cell op was
    | By_job job there ↦ elim (did_was (Handled w m) (own_place setting w m) (w.servers m).own (keyed_was m) job.done job.did cell op there) [
      | Is_new none next fresh ↦ (let one = (good prior).counts m in omega arith)
      | It_was o was same how ↦ (let one = old m cell o was in let e = same.number in omega arith)
    ]
  ]
