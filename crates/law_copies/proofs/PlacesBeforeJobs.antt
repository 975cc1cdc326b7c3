-- What a server that is In as itself has before a job, at the place of each cell's link by its own entries.
use Rattle.law_copies.proofs.Imports.{if◌then◌else◌, ◌&&◌, ◌∙◌, ◌≡◌, ◌≢◌, ◌≤◌, Body, Bool, Both, ByBoth, ByNone, ByOne, Cell, Command, Copying, Handled}
use Rattle.law_copies.proofs.Imports.{IsRising, IsSteady, JobContext, LinkRow, List, None, Only, Option, PairState, Some, Store, about, ap, chain_in}
use Rattle.law_copies.proofs.Imports.{chosen_log, copying_on, has_server, holder_of, inl, inr, is_alone, is_between, live_stage, log_steady, nat_cmp}
use Rattle.law_copies.proofs.Imports.{number_itself, other_between, other_of, own_place, pending_on, prefix_plain, refl, same_numbers, server_state}
use Rattle.law_copies.proofs.Imports.{state_after, subject_of, subst, sym, true, true_false, ℕ}
use Rattle.law_copies.specs.CopyProgress.{AreCopying, IsTold, links_of}
use Rattle.law_copies.specs.GoodCopies.{AloneOk, AreTwins, SaidOk, pair_at}
use Rattle.law_copies.specs.Pair.{HaveMarks, Known, PairOk, pair_of, Pair}
use Rattle.law_copies.specs.LoneSteps.{AreFilled, IsBare, IsFit, IsFollowing, IsHolding, PagesOf}
use Rattle.law_copies.specs.Visits.{AliveIn, IsLinked, half, place_by, store_by, with_stores}
use Rattle.law_copies.proofs.AtSeat.{AtSeat}
use Rattle.law_copies.proofs.ServedAtLaterPrefixes.{both_last}
use Rattle.law_copies.proofs.RolesOfWorkers.{copying_held, other_alone}
use Rattle.petal_msg.specs.declared.body.Body.TheVariants as body

-- ### The other one of a link's two servers

-- of two servers of a link each is the other one's
pub other_back : (row : LinkRow) (n m : ℕ) → has_server n row ≡ true → has_server m row ≡ true → n ≢ m → other_of n row ≡ m
other_back row n m one two ne = elim (other_between row n one) [
  | inl p ↦ elim (other_between row m two) [ inl q ↦ absurd (ne (sym p.1 ∙ q.1)) | inr q ↦ sym p.0 ∙ q.0 ]
  | inr p ↦ elim (other_between row m two) [ inl q ↦ sym p.1 ∙ q.1 | inr q ↦ absurd (ne (sym p.0 ∙ q.0)) ]
]

-- it knows the other one as the holder
pub holder_other : {whole : Bool} (row : LinkRow) (n holder : ℕ) → has_server n row ≡ true → other_of n row ≡ holder → row.state ≡ Only holder whole
    → holder_of n row ≡ Some holder
holder_other row n holder has other alone =
    ap (λ b. if b && is_alone (other_of n row) row.state then Some (other_of n row) else None) has
    ∙ ap (λ b. if b then Some (other_of n row) else None)
    (ap (λ m. is_alone m row.state) other ∙ ap (is_alone holder) alone ∙ number_itself holder)
    ∙ ap Some other

-- ### At its own place

module _ (it : AtSeat) where
  open it use {setting, records, w, stores, k, good, firm, rests, works}

  abbrev pub prefix : List Command
  prefix = (w.servers k).log.applied

  abbrev pub here : JobContext
  here = own_place setting w k

  abbrev pub own : PairState
  own = (w.servers k).own

  abbrev pub heard : Body → Type 0
  heard = Handled w k

  -- the stores by the server's own entries
  abbrev pub by : ℕ → Store
  by = store_by setting good.stores prefix

  pub steady : IsSteady (server_state setting w k)
  steady = log_steady setting.servers prefix (prefix_plain setting.servers prefix (chosen_log setting w) firm.plain (firm.servers k))

  pub own_same : ((with_stores w stores).servers k).own ≡ own
  own_same = λ i. record (w.servers k).own { store = works.real i }

  -- its own one is as it is now
  pub own_store : by k ≡ own.store
  own_store = ap (good.stores k) works.counts ∙ good.now k ∙ works.real

  pub here_visit : (cell : Cell) (row : LinkRow) → IsLinked setting prefix cell row → AliveIn (server_state setting w k) cell
      → good.visits k (place_by setting prefix row) cell ≡ Some own
  here_visit cell row is alive = let h = good.here k cell row is works.seat alive in h.is ∙ ap Some (h.same ∙ own_same)

  -- what it handles tells what is known of it at the place
  pub heard_said : (said : Body) → heard said → (cell : Cell) (row : LinkRow) → IsLinked setting prefix cell row → AliveIn (server_state setting w k) cell
      → SaidOk setting (chosen_log setting w) good.stores good.visits good.reached prefix said cell row
  heard_said said h cell row is alive =
      subst (λ b. SaidOk setting (chosen_log setting w) good.stores good.visits good.reached prefix b cell row) h.is
      (good.letters h.letter h.sent prefix cell row (firm.servers k) (sym h.at) is alive)

  pub marks : HaveMarks (server_state setting w k) own.pairs.pending own.store
  marks = subst (HaveMarks (server_state setting w k) own.pairs.pending) works.real (good.marks k (inl works.runs))

  pub rising : (cell : Cell) → IsRising nat_cmp (chain_in own.store.chains cell)
  rising cell = subst (λ (s : Store). IsRising nat_cmp (chain_in s.chains cell)) works.real (good.rising k cell)

  pub filled : AreFilled own.store.chains
  filled = subst (λ (s : Store). AreFilled s.chains) works.real (good.filled k)

  pub fit : IsFit heard here own
  fit = record {
    steady = steady;
    ready = rests.pending k;
    resting = rests.resting k;
    marks = marks;
    rising = rising;
    filled = filled;
    bare = λ q none. subst (λ (o : PairState). IsBare o q) own_same (good.unheard k q none).bare;
    lives = λ said h between q of.
        good.lives h.letter h.sent (ap (λ (b : Body). is_between (subject_of b)) h.is ∙ between) prefix (firm.servers k) (sym h.at) q
        (ap (λ (b : Body). (about b).cell) h.is ∙ of);
    copied = good.copied k;
    pages = λ q link after h. good.pages h.letter h.sent prefix (firm.servers k) (sym h.at) q.map link q.block after h.is;
  }

  module _ (cell : Cell) (row : LinkRow) (is : IsLinked setting prefix cell row) (alive : AliveIn (server_state setting w k) cell) where
    abbrev place : ℕ
    place = place_by setting prefix row

    -- the cell is not retired by what is chosen, either
    abbrev IsAliveLast : Type 0
    IsAliveLast = AliveIn (state_after setting.servers (chosen_log setting w)) cell

    -- ### In Both

    module _ (lives : IsAliveLast) (both : row.state ≡ Both) (has : has_server k row ≡ true) where
      -- no server of the link has been at a later place
      pub last_here : good.reached cell ≤ place
      last_here = both_last setting records w stores firm good k works.runs works.seat cell row is both has

      pub twins_here : AreTwins by good.visits place cell row.primary row.secondary
      twins_here = (good.both prefix cell row (firm.servers k) is both).twins lives last_here

      pub known_here : (said : Body) → heard said → (about said).cell ≡ Some cell → Known (pair_at by good.visits place cell row.primary row.secondary) said
      known_here said h of = (heard_said said h cell row is alive).both lives both last_here of

      -- where the two are this pair
      module _ {pair : Pair} (at : pair_at by good.visits place cell row.primary row.secondary ≡ pair) where
        pub pair_ok : PairOk pair
        pair_ok = subst PairOk at twins_here.pair

        pub pair_known : (said : Body) → heard said → (about said).cell ≡ Some cell → Known pair said
        pair_known said h of = subst (λ p. Known p said) at (known_here said h of)

    -- what the other server is, by its store as it is now
    abbrev pub beside : ℕ → PairState
    beside n = half (good.visits n place cell) (by n)

    -- the server is the first one, or the second one
    pub first_at : row.primary ≡ k → pair_at by good.visits place cell row.primary row.secondary ≡ pair_of own (beside row.secondary) cell
    first_at leads = (λ i. pair_at by good.visits place cell (leads i) row.secondary)
        ∙ (λ i. pair_of (half (here_visit cell row is alive i) (own_store i)) (beside row.secondary) cell)

    pub second_at : row.secondary ≡ k → pair_at by good.visits place cell row.primary row.secondary ≡ pair_of (beside row.primary) own cell
    second_at follows = (λ i. pair_at by good.visits place cell row.primary (follows i))
        ∙ (λ i. pair_of (beside row.primary) (half (here_visit cell row is alive i) (own_store i)) cell)

    -- ### Alone

    abbrev pub links : ℕ
    links = links_of (server_state setting w k) cell.map

    pub alone_here : (holder : ℕ) (whole : Bool) → row.state ≡ Only holder whole
        → AloneOk setting (chosen_log setting w) good.stores good.visits good.reached prefix cell row holder
    alone_here holder whole alone = good.alone prefix cell row holder whole (firm.servers k) is alone

    -- as the holder
    module _ (whole : Bool) (alone : row.state ≡ Only k whole) where
      abbrev pub visit_beside : Option PairState
      visit_beside = good.visits (other_of k row) place cell

      pub copying_here : AreCopying links row cell (Some own) visit_beside
      copying_here = subst (λ o. AreCopying links row cell o visit_beside) (here_visit cell row is alive) (alone_here k whole alone).copying

      pub holding : IsHolding heard here links row cell own visit_beside
      holding = record {
        fit = fit;
        is = is;
        alive = alive;
        links_are = refl;
        whole = whole;
        held = alone;
        old = copying_here;
        told = λ said h of. subst (λ o. IsTold row o visit_beside said) (here_visit cell row is alive)
            ((heard_said said h cell row is alive).alone k whole alone of);
        met = λ after block h. (heard_said (body.Hello row.map row.link after block) h cell row is alive).met k whole after block alone refl;
      }

      -- pages that it handles tell of the other server's store as it is now, where no server has been at a later place
      pub pages_here : IsAliveLast → good.reached cell ≤ place → PagesOf heard row cell (by (other_of k row)) visit_beside
      pages_here lives last after block h =
          (heard_said (body.Hello row.map row.link after block) h cell row is alive).page lives k whole after block alone refl last

    -- as the other server
    module _ (holder : ℕ) (whole : Bool) (alone : row.state ≡ Only holder whole) (other : other_of holder row ≡ k) where
      abbrev pub visit_holder : Option PairState
      visit_holder = good.visits holder place cell

      other_visit : good.visits (other_of holder row) place cell ≡ Some own
      other_visit = ap (λ n. good.visits n place cell) other ∙ here_visit cell row is alive

      pub follows_here : AreCopying links row cell visit_holder (Some own)
      follows_here = subst (AreCopying links row cell visit_holder) other_visit (alone_here holder whole alone).copying

      pub following : has_server k row ≡ true → other_of k row ≡ holder → IsFollowing heard here links row cell visit_holder own
      following has back = record {
        fit = fit;
        is = is;
        alive = alive;
        by = holder;
        held = holder_other row k holder has back alone;
        old = follows_here;
        told = λ said h of. subst (λ o. IsTold row visit_holder o said) other_visit ((heard_said said h cell row is alive).alone holder whole alone of);
      }

  -- a cell of which a copy is under way has no operation
  pub idle_copies : (q : Cell) (copy : Copying) → copying_on own q ≡ Some copy → pending_on own q ≡ None
  idle_copies q copy there =
      let held = copying_held heard here own fit q copy there in
      let alive = (live_stage (server_state setting w k) q ((rests.resting k).copying q copy there).live).1 in
      let alone = other_alone here.state k held.other held.row held.other_is in
      elim (steady.linked q held.row held.is).served [
        | ByBoth so one other ↦ true_false alone (ap (is_alone k) so)
        | ByNone one other so pair out ↦ true_false alone (ap (is_alone k) so)
        | ByOne holder other whole so pair out ↦ (
            let mine : holder ≡ k = same_numbers holder k (sym (ap (is_alone k) so) ∙ alone) in
            let is_mine : held.row.state ≡ Only k whole = so ∙ ap (λ n. Only n whole) mine in
            ((copying_here q held.row held.is alive whole is_mine).copying own copy refl there).free)
      ]
