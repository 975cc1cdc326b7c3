-- A step keeps that what was told to be at the new map is there; and what is told in the step is: its lead has it, with nothing under way or with its
-- second server after it; or the region has moved on, and all of it was told before.
use Rattle.law_moves.proofs.Imports.{◌∙◌, ◌≡◌, ◌≤◌, Body, Cell, Chain, Command, Handled, IsPrefix, IsServing, Key, Letter, List, OneMore, Pending, Run}
use Rattle.law_moves.proofs.Imports.{Server, Some, Store, ap, arith, at, at_most_or_above, cell_cmp, cell_of, chain_in, chosen_state, end_of, ends_of, false}
use Rattle.law_moves.proofs.Imports.{in_counts, inl, inr, is_clients, is_in, is_of_entries, is_some, kept, kept_by, kept_store, leads_link, own_place}
use Rattle.law_moves.proofs.Imports.{prefix_itself, prefix_on, prefixes_meet, server_state, stage_at, stage_live, subject_of, subst, sym, true, true_false, ℕ}
use Rattle.law_moves.proofs.StepsTellEntries.{gone, Before, Goes_on, IsPosted, Is_bare, Other, Posted, here, sent, mine_top}
use Rattle.law_moves.specs.Fills.{Has, IsFrozen, IsThere, WasFilled}
use Rattle.law_moves.proofs.ServedCellChanges.{never_retired}
use Rattle.law_moves.proofs.ServersOfGrownLog.{It_came, It_did, same_joins, served_before}
use Rattle.law_moves.proofs.LeavingCellsGainNothing.{before, has_on, kept_has}
use Rattle.law_moves.proofs.AllKeptOfMoves.{Known, WereKnown}
use Rattle.law_moves.proofs.LeadsHaveWhatServersHave.{Followed, Holds, IsIdle, Nothing, spread}
use Rattle.law_moves.proofs.MovedRegionsHaveAll.{AllMoved, over_told}
use Rattle.law_moves.proofs.FillLetters.{HasFilled, Is_there, Was_put, did_says}
use Rattle.law_moves.proofs.MoveWorlds.{facts_at, own_counts, rests, runs_on, serving_on, steady_at, up}
use Rattle.law_moves.proofs.MoveScenes.{LeadsAt}
use Rattle.petal_msg.specs.declared.body.Body.TheVariants as body
use Rattle.petal_msg.specs.declared.operation.OpKind.TheVariants as kind

-- a frozen entry of a region that has gone on was told to be there
pub told_already : (h : Run) → AllMoved (end_of h).setting (end_of h).w → (rev : ℕ) (key : Key) (bytes : List ℕ)
    → IsFrozen (end_of h).setting (end_of h).w rev key bytes → 2 ≤ stage_at (chosen_state (end_of h).setting (end_of h).w) (cell_of key)
    → WasFilled (end_of h).w key
told_already h moved rev key bytes f two =
    over_told h moved f.old (cell_of key) f.prefix f.lies f.from two f.before key.epoch f.frozen (ap is_some f.entry.1)

fill_not_client : (op : Pending) → op.kind ≡ kind.Fill → is_clients op.kind ≡ false
fill_not_client op e = ap is_clients e

module _ (it : OneMore) (all : WereKnown it) where
  open it use {prior, prior.{script, sound, records as prefix}, legal}
  open ends_of it use {setting, w, records, v, top, whole, By, top_whole, present}

  known : Known script prefix
  known = before it all

  -- ### More is chosen

  -- of each server that serves the cell's link at this prefix, the store that counts by it has the entry
  abbrev pub HaveIt : List Command → Cell → ℕ → Type 0
  HaveIt f cell epoch = (n : ℕ) → IsServing (By f) n cell → Has (chain_in (kept_by setting f v n).chains cell) epoch

  pub have_grown : (cell : Cell) (epoch : ℕ) → 1 ≤ stage_at (By top) cell → HaveIt top cell epoch → (f : List Command) → IsPrefix top f → IsPrefix f whole
      → stage_at (By f) cell ≤ 3 → HaveIt f cell epoch
  have_grown cell epoch born have f on lies low n serving =
      let le = up present top f on lies cell in
      let link = (steady_at prior top (prefix_itself top)).lives cell
      ((facts_at prior top (prefix_itself top) cell).alive born (omega arith)) in
      let joins = same_joins it f on lies n cell link.row link.is (omega arith) serving in
      let at_top : Has (chain_in (kept_by setting top v n).chains cell) epoch =
      elim (served_before it f on lies n cell link.row link.is (omega arith) serving) [
        | It_did did ↦ have n did
        | It_came h serves same ↦ subst (λ (c : Chain). Has c epoch) (sym same) (have h serves)
      ] in
      subst (λ j. Has (chain_in (kept_store j (v.before_blank n) (v.servers n).own.store).chains cell) epoch) (sym joins) at_top

  -- and at a server that runs it is its own
  pub own_has : (cell : Cell) (epoch : ℕ) (f : List Command) → IsPrefix f whole → HaveIt f cell epoch → (n : ℕ) → (v.servers n).life.running ≡ true
      → is_in (By f) n (v.servers n).life.inc ≡ true → IsServing (By f) n cell → Has (chain_in (v.servers n).own.store.chains cell) epoch
  own_has cell epoch f lies have n runs seat serving =
      let joins = in_counts script records n f sound legal lies seat in
      let counts = own_counts present n runs f lies seat in
      subst (λ (s : Store). Has (chain_in s.chains cell) epoch) counts
      (subst (λ j. Has (chain_in (kept_store j (v.before_blank n) (v.servers n).own.store).chains cell) epoch) joins (have n serving))

  -- what is so by what was chosen before the step, after it
  pub record IsMiddle (cell : Cell) (epoch : ℕ) : Type 0 where
    pub born : 1 ≤ stage_at (By top) cell
    pub now : stage_at (By top) cell ≤ 3 → HaveIt top cell epoch
    pub copies : (n : ℕ) (f : List Command) → (v.servers n).life.running ≡ true → IsPrefix (v.servers n).log.applied f → IsPrefix f top
        → is_in (By f) n (v.servers n).life.inc ≡ true → 1 ≤ stage_at (By f) cell → stage_at (By f) cell ≤ 3 → IsServing (By f) n cell
        → Has (chain_in (v.servers n).own.store.chains cell) epoch

  there_now : (cell : Cell) (epoch : ℕ) → IsMiddle cell epoch → IsThere setting v cell epoch
  there_now cell epoch mid = record {
    now = λ n one low serving.
        let le = up present top whole top_whole (prefix_itself whole) cell in
        have_grown cell epoch mid.born (mid.now (omega arith)) whole top_whole (prefix_itself whole) low n serving;
    own = λ n f runs on lies seat one low serving. elim (prefixes_meet f top whole lies top_whole) [
      | inl within ↦ mid.copies n f runs on within seat one low serving
      | inr beyond ↦
          let le = up present top f beyond lies cell in
          own_has cell epoch f lies (have_grown cell epoch mid.born (mid.now (omega arith)) f beyond lies low) n runs seat serving
    ];
  }

  -- ### What was told before the step

  -- a server's own copy after the step
  pub kept_own : (n : ℕ) → (v.servers n).life.running ≡ true → (f : List Command) → IsPrefix (w.servers n).log.applied f → IsPrefix f top → (cell : Cell)
      → stage_at (By f) cell ≤ 3 → IsServing (By f) n cell → (epoch : ℕ) → Has (chain_in (w.servers n).own.store.chains cell) epoch
      → Has (chain_in (v.servers n).own.store.chains cell) epoch
  kept_own n runs f on lies cell low serving epoch has = elim (gone it n) [
    | Goes_on g same ↦ has_on it all n f on lies cell low serving (v.servers n) g epoch has
    | Is_bare asleep bare same ↦ true_false (ap (λ (s : Server). s.life.running) (sym bare) ∙ runs) asleep
  ]

  pub there_before : (key : Key) → WasFilled w key → IsThere setting v (cell_of key) key.epoch
  there_before key told =
      let cell = cell_of key in
      let was = known.filled.filled key told in
      let born = known.born key told in
      there_now cell key.epoch (record {
        born = born;
        now = λ low n serving. kept_has it all n cell low serving key.epoch (was.now n born low serving);
        copies = λ n f runs on lies seat one low serving.
            let h = here it n runs f (prefix_on f top whole lies top_whole) seat in
            let on_was = prefix_on (w.servers n).log.applied (v.servers n).log.applied f h.onward on in
            kept_own n runs f on_was lies cell low serving key.epoch
            (was.own n f h.runs on_was lies (subst (λ i. is_in (By f) n i ≡ true) h.inc_is seat) one low serving);
      })

  -- ### What is told in the step

  -- while the region is on its way, all who serve the link have it
  told_coming : (key : Key) → stage_at (By top) (cell_of key) ≡ 1
      → ((n : ℕ) → IsServing (chosen_state setting w) n (cell_of key) → Has (chain_in (kept setting w n).chains (cell_of key)) key.epoch)
      → IsThere setting v (cell_of key) key.epoch
  told_coming key one have =
      let cell = cell_of key in
      let mid : HaveIt top cell key.epoch = λ n serving. kept_has it all n cell (omega arith) serving key.epoch (have n serving) in
      there_now cell key.epoch (record {
        born = omega arith;
        now = λ low. mid;
        copies = λ n f runs on lies seat born low serving.
            let lies_whole = prefix_on f top whole lies top_whole in
            let serves_top = serving_on present n runs f top lies top_whole seat cell (omega arith) serving in
            let seat_top = runs_on present n runs f top lies top_whole seat in
            own_has cell key.epoch top top_whole mid n runs seat_top serves_top;
      })

  module _ (letter : Letter) (key : Key) (is : letter.body ≡ body.Filled key) (p : IsPosted it letter) where
    abbrev n : ℕ
    n = p.n

    runs : (w.servers n).life.running ≡ true
    runs = p.job.runs

    abbrev Told : Key → Type 0
    Told k = (1 ≤ stage_at (By top) (cell_of k)) × IsThere setting v (cell_of k) k.epoch

    mine_up : (cell : Cell) → stage_at (server_state setting w n) cell ≤ stage_at (By top) cell
    mine_up cell = up prior (w.servers n).log.applied top (mine_top it n) (prefix_itself top) cell

    abbrev IdleAt : Cell → Type 0
    IdleAt cell = (lead : LeadsAt setting w cell n) → IsIdle prior cell n lead

    -- it is a frozen one, and the lead has it: so all have, or it was told before
    told_so : (was : Key) (rev : ℕ) (bytes : List ℕ) → was ≡ key → IsFrozen setting w rev was bytes
        → is_in (server_state setting w n) n (w.servers n).life.inc ≡ true → leads_link (server_state setting w n) n (cell_of was) ≡ true
        → 1 ≤ stage_at (server_state setting w n) (cell_of was) → IdleAt (cell_of was)
        → Has (chain_in (w.servers n).own.store.chains (cell_of was)) was.epoch → Told key
    told_so was rev bytes same frozen seat leads born idle has =
        let le = mine_up (cell_of was) in
        let lead : stage_at (By top) (cell_of was) ≤ 3 → LeadsAt setting w (cell_of was) n =
        λ low. record { runs = runs; seat = seat; low = low; leads = leads } in
        subst Told same (
          omega arith,
          elim (at_most_or_above (stage_at (By top) (cell_of was)) 1) [
            | inr two ↦ there_before was (told_already prior known.filled.moved rev was bytes frozen two)
            | inl one ↦ told_coming was (omega arith)
                (spread prior (cell_of was) n (lead (omega arith)) born (idle (lead (omega arith))) was.epoch has)
          ],
        )

    -- by a fill that it has pending, and has put
    told_op : (op : Pending) (cell : Cell) → at cell_cmp (w.servers n).own.pairs.pending cell ≡ Some op → op.key ≡ key → is_clients op.kind ≡ false
        → op.stage.put ≡ true → IdleAt cell → Told key
    told_op op cell there same fills put idle =
        let staged = ((rests prior).pending n).staged cell op there in
        let le = mine_up cell in
        let one = known.filled.opened n cell op runs there fills in
        let born = staged.born in
        let leads = staged.leads (stage_live (server_state setting w n) cell born (omega arith)) in
        let to : cell ≡ cell_of op.key = sym staged.keyed in
        told_so op.key op.rev op.bytes same (known.filled.asked n cell op there fills) ((rests prior).seated n cell op runs there)
        (subst (λ (q : Cell). leads_link (server_state setting w n) n q ≡ true) to leads)
        (subst (λ (q : Cell). 1 ≤ stage_at (server_state setting w n) q) to born) (subst IdleAt to idle)
        (subst (λ (q : Cell). Has (chain_in (w.servers n).own.store.chains q) op.key.epoch) to (known.puts n cell op runs there fills put))

    by_says : HasFilled (Handled w n) (own_place setting w n) (w.servers n).own p.job.done.own key → Told key
    by_says (Is_there moving filled of same) =
        let facts = (facts_at prior (w.servers n).log.applied (mine_top it n) (cell_of moving.key)).leads n filled.lead in
        told_so moving.key filled.wanted.letter.rev moving.bytes of
        (known.filled.sent filled.wanted.letter moving.key moving.bytes filled.wanted.sent filled.wanted.is) filled.seated facts.0 facts.1
        (λ lead. Nothing filled.none) filled.has
    by_says (Was_put op there of fill put how none) =
        told_op op op.cell there of (fill_not_client op fill) put (λ lead. elim how [
          | inl said ↦ Followed op there put said.1 said.0
          | inr alone ↦ Holds op there alone
        ])

    told_new : Told key
    told_new = by_says (did_says (Handled w n) (own_place setting w n) (w.servers n).own
        (never_retired prior known.filled.opened n runs) p.job.done p.job.did p.post p.there (body.Filled key) (sym p.body ∙ is))

  -- ### Both

  pub no_other : {A : Type 0} (letter : Letter) (key : Key) → letter.body ≡ body.Filled key → is_of_entries (subject_of letter.body) ≡ false → A
  no_other letter key is e = true_false (ap (λ (b : Body). is_of_entries (subject_of b)) is) e

  pub filled_next : (key : Key) → WasFilled v key → IsThere setting v (cell_of key) key.epoch
  filled_next key told = elim (sent it told.letter told.sent) [
    | Before i ↦ there_before key (record { letter = told.letter; sent = i; is = told.is })
    | Posted p ↦ (told_new told.letter key told.is p).1
    | Other e ↦ no_other told.letter key told.is e
  ]

  pub born_next : (key : Key) → WasFilled v key → 1 ≤ stage_at (chosen_state setting v) (cell_of key)
  born_next key told =
      let on = up present top whole top_whole (prefix_itself whole) (cell_of key) in
      elim (sent it told.letter told.sent) [
        | Before i ↦ (let one = known.born key (record { letter = told.letter; sent = i; is = told.is }) in omega arith)
        | Posted p ↦ (let one = (told_new told.letter key told.is p).0 in omega arith)
        | Other e ↦ no_other told.letter key told.is e
      ]
