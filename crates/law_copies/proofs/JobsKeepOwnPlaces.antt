-- What a job of a server that is In as itself keeps at the places of its own entries.
use Rattle.law_copies.proofs.Imports.{[], ◌<◌, ◌∙◌, ◌≡◌, ◌≢◌, ◌≤◌, ◌⊎◌, Body, Bool, Both, Cell, Command, Handled, In, IsMarked, IsToBeCopied, LinkRow, List}
use Rattle.law_copies.proofs.Imports.{None, Only, Option, PairState, Post, Some, Store, about, ap, blank_joins_in, chain_in, chosen_log, has_server, id_of}
use Rattle.law_copies.proofs.Imports.{inl, inr, is_alone, is_flagged, is_in, is_some, needs_full_copy, other_between, other_of, primary_is_one, refl}
use Rattle.law_copies.proofs.Imports.{same_numbers, same_or_apart, same_some, secondary_is_one, server_state, state_after, state_in, subst, sym, true, ℕ}
use Rattle.law_copies.specs.BothSteps.{IsLacking, SaysKnown}
use Rattle.law_copies.specs.CopyProgress.{AreAlike, AreCopying, IsCovered, IsLeft, IsPage, IsTold, Is_marked_here, Is_to_be_copied, NotCopied, links_of}
use Rattle.law_copies.specs.GoodCopies.{AreBeside, AreTwins, StaysLeft, pair_at}
use Rattle.law_copies.specs.Pair.{Keeps, Known, PairOk, pair_of, Pair}
use Rattle.law_copies.specs.LoneSteps.{HolderKeeps, IsLeftBy, OtherKeeps}
use Rattle.law_copies.specs.Visits.{AliveIn, HasFilled, IsLinked, Visits, half, place_by, store_by}
use Rattle.law_copies.proofs.PlacesByPrefixes.{has_filled_on}
use Rattle.law_copies.proofs.AtJob.{AtJob, seat_at, step_at}
use Rattle.law_copies.proofs.NewPlaces.{twins_lacking, twins_of, twins_recalled}
use Rattle.law_copies.proofs.UnequalIsMarked.{AreRecalled}
use Rattle.law_copies.proofs.FramesKeepPrefixes.{LeavesStore, alike_same, both_same, left_on, marks_back, store_same}
use Rattle.law_copies.proofs.ServedAtLaterPrefixes.{holder_is_one, unseen_beyond}
use Rattle.law_copies.proofs.CellChangesKeepCopies.{known_later}
use Rattle.law_copies.proofs.OtherIsNotHolder.{other_apart}
use Rattle.law_copies.proofs.PlacesBeforeJobs.{other_back}
use Rattle.law_copies.proofs.RolesOfWorkers.{other_row}
use Rattle.law_copies.proofs.VisitsAfterSteps.{counted, counted_up, later, none_before, stored, stored_apart, stored_by, visited_apart, visited_here}
use Rattle.petal_msg.specs.declared.body.Body.TheVariants as body
use Rattle.law_copies.proofs.PlacesBeforeJobs as seated

module _ (it : AtJob) where
  open it use {setting, records, w, stores, v, k, server, good, firm, done, job}

  abbrev pub top : List Command
  top = chosen_log setting w

  abbrev pub prefix : List Command
  prefix = (w.servers k).log.applied

  abbrev pub own : PairState
  own = (w.servers k).own

  abbrev pub visits : Visits
  visits = later (step_at it)

  abbrev pub reached : Cell → ℕ
  reached = counted (step_at it)

  pub up : (cell : Cell) → good.reached cell ≤ reached cell
  up = counted_up (step_at it)

  pub nones : (n place : ℕ) (cell : Cell) → visits n place cell ≡ None → good.visits n place cell ≡ None
  nones = none_before (step_at it)

  -- the stores by the server's own entries, before and then
  abbrev pub olds : ℕ → Store
  olds = store_by setting good.stores prefix

  abbrev pub news : ℕ → Store
  news = store_by setting (stored (step_at it)) prefix

  -- the server's own one was its store, and is what the job leaves
  pub store_was : olds k ≡ own.store
  store_was = seated.own_store (seat_at it)

  pub store_now : news k ≡ done.own.store
  store_now = stored_by (step_at it) prefix job.works.counts
      ∙ ap (λ (o : PairState). o.store) job.own_is

  pub store_apart : (n : ℕ) → n ≢ k → news n ≡ olds n
  store_apart n ne = stored_apart (step_at it) n (blank_joins_in setting prefix n) ne

  pub leaves_apart : (n : ℕ) (cell : Cell) → n ≢ k → LeavesStore (olds n) (news n) cell
  leaves_apart n cell ne = store_same (olds n) (news n) cell (store_apart n ne)

  pub visit_apart : (n place : ℕ) (cell : Cell) → n ≢ k → visits n place cell ≡ good.visits n place cell
  visit_apart = visited_apart (step_at it)

  pub visit_now : (cell : Cell) (row : LinkRow) → IsLinked setting prefix cell row → AliveIn (server_state setting w k) cell
      → visits k (place_by setting prefix row) cell ≡ Some done.own
  visit_now cell row is alive =
      ap (λ f. visits k (place_by setting f row) cell) (sym job.applied)
      ∙ visited_here (step_at it) cell row
      (subst (λ f. IsLinked setting f cell row) (sym job.applied) is) seat_now
      (subst (λ f. AliveIn (state_after setting.servers f) cell) (sym job.applied) alive)
      ∙ ap Some job.own_is
    where
      seat_now : is_in (state_in setting.servers server.log) k server.life.inc ≡ true
      seat_now = (λ i. is_in (state_after setting.servers (job.applied i)) k (job.inc i)) ∙ job.works.seat

  module _ (cell : Cell) (row : LinkRow) (is : IsLinked setting prefix cell row) (alive : AliveIn (server_state setting w k) cell) where
    abbrev place : ℕ
    place = place_by setting prefix row

    -- the cell is not retired by what is chosen, either
    abbrev IsAliveLast : Type 0
    IsAliveLast = AliveIn (state_after setting.servers top) cell

    -- ### In Both

    -- what is so of the pair then, and what letters tell of it
    pub record BothNow : Type 0 where
      pub twins : AreTwins news visits place cell row.primary row.secondary
      pub known : (said : Body) → Known (pair_at olds good.visits place cell row.primary row.secondary) said
          → Known (pair_at news visits place cell row.primary row.secondary) said
      pub says : (post : Post) → In post done.posts → (about post.body).cell ≡ Some cell
          → Known (pair_at news visits place cell row.primary row.secondary) post.body

    apart : row.primary ≢ row.secondary
    apart = ((seated.steady (seat_at it)).linked cell row is).apart

    abbrev beside : ℕ → PairState
    beside n = half (good.visits n place cell) (olds n)

    beside_now : (n : ℕ) → n ≢ k → beside n ≡ half (visits n place cell) (news n)
    beside_now n ne = λ i. half (sym (visit_apart n place cell ne) i) (sym (store_apart n ne) i)

    own_half : done.own ≡ half (visits k place cell) (news k)
    own_half = λ i. half (sym (visit_now cell row is alive) i) (sym store_now i)

    -- the server's visit was its own part
    was_here : good.visits k place cell ≡ Some own
    was_here = seated.here_visit (seat_at it) cell row is alive

    -- as one of the two servers
    mine_now : (n : ℕ) → n ≡ k → done.own ≡ half (visits n place cell) (news n)
    mine_now n e = own_half ∙ (λ i. half (visits (sym e i) place cell) (news (sym e i)))

    -- where the two are this pair
    both_so : (old new : Pair) → pair_at olds good.visits place cell row.primary row.secondary ≡ old
        → new ≡ pair_at news visits place cell row.primary row.secondary → AreTwins olds good.visits place cell row.primary row.secondary
        → Keeps old new → (IsLacking old → IsLacking new) → SaysKnown done.posts cell new
        → AreRecalled (half (visits row.primary place cell) (news row.primary)) cell → BothNow
    both_so old new old_at new_at twins keeps lacks says recalled = record {
      twins = twins_of news visits place cell row.primary row.secondary (subst PairOk new_at keeps.ok) recalled
          (subst IsLacking new_at (lacks (subst IsLacking old_at (twins_lacking olds good.visits place cell row.primary row.secondary twins))));
      known = λ said h. subst (λ p. Known p said) new_at (known_later old new keeps.grows said (subst (λ p. Known p said) old_at h));
      says = λ post i of. subst (λ p. Known p post.body) new_at (says post i of);
    }

    both_first : IsAliveLast → row.state ≡ Both → row.primary ≡ k → BothNow
    both_first lives both leads =
        let m = row.secondary in
        let ne : m ≢ k = λ f. apart (leads ∙ sym f) in
        let has = primary_is_one row k leads in
        let at = seated.first_at (seat_at it) cell row is alive leads in
        let keeps = job.keeping.lead cell row (beside m) is alive both leads
        (seated.pair_ok (seat_at it) cell row is alive lives both has at) (seated.pair_known (seat_at it) cell row is alive lives both has at) in
        both_so (pair_of own (beside m) cell) (pair_of done.own (beside m) cell) at
        ((λ i. pair_of (own_half i) (beside_now m ne i) cell) ∙ (λ i. pair_at news visits place cell (sym leads i) m))
        (seated.twins_here (seat_at it) cell row is alive lives both has)
        keeps.keeps keeps.lacks keeps.says (subst (λ a. AreRecalled a cell) (mine_now row.primary leads) keeps.recalled)

    both_second : IsAliveLast → row.state ≡ Both → row.secondary ≡ k → BothNow
    both_second lives both follows =
        let n = row.primary in
        let ne : n ≢ k = λ f. apart (f ∙ sym follows) in
        let has = secondary_is_one row k follows in
        let at = seated.second_at (seat_at it) cell row is alive follows in
        let keeps = job.keeping.second cell row (beside n) is alive both follows
        (seated.pair_ok (seat_at it) cell row is alive lives both has at) (seated.pair_known (seat_at it) cell row is alive lives both has at) in
        let twins = seated.twins_here (seat_at it) cell row is alive lives both has in
        both_so (pair_of (beside n) own cell) (pair_of (beside n) done.own cell) at
        ((λ i. pair_of (beside_now n ne i) (own_half i) cell) ∙ (λ i. pair_at news visits place cell n (sym follows i))) twins
        keeps.keeps keeps.lacks keeps.says
        (subst (λ a. AreRecalled a cell) (beside_now n ne) (twins_recalled olds good.visits place cell n row.secondary twins))

    pub both_now : IsAliveLast → row.state ≡ Both → has_server k row ≡ true → BothNow
    both_now lives both has = elim (other_between row k has) [ inl p ↦ both_second lives both p.1 | inr p ↦ both_first lives both p.0 ]

    -- ### Alone

    abbrev links : ℕ
    links = links_of (server_state setting w k) cell.map

    -- what is so of the two servers then, and what letters tell
    pub record AloneNow (holder other : ℕ) : Type 0 where
      pub copying : AreCopying links row cell (visits holder place cell) (visits other place cell)
      pub told : (said : Body) → (about said).cell ≡ Some cell → IsTold row (good.visits holder place cell) (good.visits other place cell) said
          → IsTold row (visits holder place cell) (visits other place cell) said
      pub says : (post : Post) → In post done.posts → (about post.body).cell ≡ Some cell
          → IsTold row (visits holder place cell) (visits other place cell) post.body
      pub beside : IsAliveLast → good.reached cell ≤ place → AreBeside news visits place row cell holder other
      pub stays : IsAliveLast → (o : PairState) → visits holder place cell ≡ Some o → ((p : ℕ) → place < p → visits other p cell ≡ None)
          → StaysLeft row cell o (news holder)
      pub unfilled : IsAliveLast → needs_full_copy row.state ≡ true
          → (chain_in (news other).chains cell ≡ []) ⊎ HasFilled setting top visits prefix cell holder other
      pub page : IsAliveLast → (after block : Option ℕ) → IsPage cell (olds other) (good.visits other place cell) after block
          → IsPage cell (news other) (visits other place cell) after block
      pub pages : (post : Post) → In post done.posts → (after block : Option ℕ) → post.body ≡ body.Hello row.map row.link after block
          → IsPage cell (news other) (visits other place cell) after block
      pub met : (post : Post) → In post done.posts → (after block : Option ℕ) → post.body ≡ body.Hello row.map row.link after block
          → is_some (visits other place cell) ≡ true
      pub some : is_some (good.visits other place cell) ≡ true → is_some (visits other place cell) ≡ true

    is_now : visits k place cell ≡ Some done.own
    is_now = visit_now cell row is alive

    filled_here : (h other : ℕ) (o : PairState) → visits h place cell ≡ Some o → HasFilled setting top visits prefix cell h other
    filled_here h other o visit =
        record { more = prefix; within = firm.servers k; row = row; linked = is; joins = refl; own = o; visited = visit }

    module _ (whole : Bool) (alone : row.state ≡ Only k whole) where
      abbrev o : ℕ
      o = other_of k row

      abbrev vo : Option PairState
      vo = good.visits o place cell

      o_apart : o ≢ k
      o_apart = other_apart row k apart

      o_visit : visits o place cell ≡ vo
      o_visit = visit_apart o place cell o_apart

      pub keeps_holder : HolderKeeps (Handled w k) links row cell own vo done
      keeps_holder = job.keeping.holder cell row vo (seated.holding (seat_at it) cell row is alive whole alone)

      holder_beside : IsAliveLast → good.reached cell ≤ place → AreBeside news visits place row cell k o
      holder_beside lives last =
          let old = (seated.alone_here (seat_at it) cell row is alive k whole alone).beside lives last in
          let was = subst (λ x. AreAlike row cell (olds k) (olds o) x) was_here old.alike in
          let alike = keeps_holder.alike (olds o) old.still
          (seated.pages_here (seat_at it) cell row is alive whole alone lives last)
          (good.ever o (blank_joins_in setting prefix o) cell)
          (subst (λ a. AreAlike row cell a (olds o) (Some own)) store_was was) in
          record {
            alike = subst (λ x. AreAlike row cell (news k) (news o) x) (sym is_now)
                (subst (λ a. AreAlike row cell a (news o) (Some done.own)) (sym store_now)
                (subst (λ b. AreAlike row cell done.own.store b (Some done.own)) (sym (store_apart o o_apart)) alike));
            still = λ by e. old.still by (sym o_visit ∙ e) ∙ ap (λ (x : Store). chain_in x.chains cell) (sym (store_apart o o_apart));
          }

      -- the holder sends no page of the link
      no_page : {B : Type 0} (post : Post) → In post done.posts → (after block : Option ℕ) → post.body ≡ body.Hello row.map row.link after block → B
      no_page post i after block e =
          let held = job.keeping.paged cell row is post i after block e in
          let other = other_row k row held.0 held.1 in
          absurd (o_apart (sym (same_numbers k o (sym (ap (is_alone o) alone) ∙ other.alone))))

      holder_now : AloneNow k o
      holder_now = record {
        copying = both_same (λ x y. AreCopying links row cell x y) is_now o_visit keeps_holder.copying;
        told = λ said of h. both_same (λ x y. IsTold row x y said) is_now o_visit (keeps_holder.told said of (subst (λ x. IsTold row x vo said) was_here h));
        says = λ post i of. both_same (λ x y. IsTold row x y post.body) is_now o_visit (keeps_holder.says post i of);
        beside = holder_beside;
        stays = λ lives by e beyond. (
          (λ marked. subst (λ a. IsMarked a cell) (sym store_now) (subst (λ (x : PairState). IsMarked x.store cell) (same_some (sym e ∙ is_now)) marked)),
          (λ all copied. subst (λ a. IsToBeCopied row a cell) (sym store_now)
              (subst (λ (x : PairState). IsToBeCopied row x.store cell) (same_some (sym e ∙ is_now)) all)),
        );
        unfilled = λ lives all. inr (filled_here k o done.own is_now);
        page = λ lives after block page. subst (λ x. IsPage cell (news o) x after block) (sym o_visit)
            (subst (λ b. IsPage cell b vo after block) (sym (store_apart o o_apart)) page);
        pages = λ post i after block e. no_page post i after block e;
        met = λ post i after block e. no_page post i after block e;
        some = λ there. ap is_some o_visit ∙ there;
      }

    module _ (h : ℕ) (whole : Bool) (alone : row.state ≡ Only h whole) (other : other_of h row ≡ k) (has : has_server k row ≡ true) where
      abbrev vh : Option PairState
      vh = good.visits h place cell

      h_apart : h ≢ k
      h_apart e = other_apart row h apart (other ∙ sym e)

      h_visit : visits h place cell ≡ vh
      h_visit = visit_apart h place cell h_apart

      back : other_of k row ≡ h
      back = other_back row k h has
          (holder_is_one (server_state setting w k) (seated.steady (seat_at it)) h cell row is alone)
          (λ e. h_apart (sym e))

      pub keeps_other : OtherKeeps links row cell vh own done
      keeps_other = job.keeping.other cell row vh
          (seated.following (seat_at it) cell row is alive h whole alone other has back)

      -- the block that the holder had left to copy is so still
      pub left_still : IsAliveLast → (m : IsLeftBy row vh cell) → IsMarked (olds h) cell
          ⊎ (IsToBeCopied row (olds h) cell × NotCopied (Some m.by) row cell.block)
      left_still lives m =
          let stays = (seated.alone_here (seat_at it) cell row is alive h whole alone).stays lives m.by m.met
          (λ p lt. ap (λ n. good.visits n p cell) other ∙ unseen_beyond setting records w stores firm good k cell row is p lt) in
          elim m.left [ inl marked ↦ inl (stays.0 marked) | inr all ↦ inr (stays.1 all.0 all.1, all.1) ]

      -- and then the holder has not started its ballot
      pub not_caught : {B : Type 0} → IsLeftBy row vh cell → (by : PairState) → vh ≡ Some by → is_flagged by (id_of row) ≡ true → B
      not_caught m by e flagged =
          let caught = (seated.alone_here (seat_at it) cell row is alive h whole alone).copying.caught
          by e flagged in
          elim (subst (λ (x : PairState). IsLeft x row cell) (same_some (sym m.met ∙ e)) m.left) [
            | inl marked ↦ absurd (caught.unmarked marked)
            | inr all ↦ absurd (caught.copied all.0 all.1)
          ]

      -- the copies are covered by that
      left_covers : IsAliveLast → (m : IsLeftBy row vh cell) → IsCovered row cell (news h) (news k) vh
      left_covers lives m = elim (left_still lives m) [
        | inl marked ↦ Is_marked_here (subst (λ a. IsMarked a cell) (sym (store_apart h h_apart)) marked)
        | inr all ↦ Is_to_be_copied (subst (λ a. IsToBeCopied row a cell) (sym (store_apart h h_apart)) all.0)
            (subst (λ x. NotCopied x row cell.block) (sym m.met) all.1)
      ]

      other_alike : IsAliveLast → good.reached cell ≤ place → AreAlike row cell (news h) (news k) vh
      other_alike lives last = elim keeps_other.changes [
        | inl chain ↦
            alike_same row cell (olds h) own.store (news h) (news k) vh (leaves_apart h cell h_apart)
            (subst (λ b. LeavesStore own.store b cell) (sym store_now) (record { chain = chain; marks = keeps_other.marks }))
            (subst (λ a. AreAlike row cell (olds h) a vh) (ap olds other ∙ store_was)
            ((seated.alone_here (seat_at it) cell row is alive h whole alone).beside lives last).alike)
        | inr m ↦ record {
          covered = left_covers lives m;
          caught = λ by e flagged. not_caught m by e flagged;
        }
      ]

      -- where the server's copy changed, the holder has been here
      unfilled_now : (chain_in (olds k).chains cell ≡ []) ⊎ HasFilled setting top good.visits prefix cell h k
          → (chain_in (news k).chains cell ≡ []) ⊎ HasFilled setting top visits prefix cell h k
      unfilled_now (inr f) = inr (has_filled_on f f.within refl f.own (visit_apart h (place_by setting f.more f.row) cell h_apart ∙ f.visited))
      unfilled_now (inl empty) = elim keeps_other.changes [
        | inl chain ↦ inl (ap (λ (a : Store). chain_in a.chains cell) store_now ∙ chain
            ∙ ap (λ (a : Store). chain_in a.chains cell) (sym store_was) ∙ empty)
        | inr m ↦ inr (filled_here h k m.by (h_visit ∙ m.met))
      ]

      other_now : AloneNow h k
      other_now = record {
        copying = both_same (λ x y. AreCopying links row cell x y) h_visit is_now keeps_other.copying;
        told = λ said of t. both_same (λ x y. IsTold row x y said) h_visit is_now (keeps_other.told said of (subst (λ y. IsTold row vh y said) was_here t));
        says = λ post i of. both_same (λ x y. IsTold row x y post.body) h_visit is_now (keeps_other.says post i of);
        beside = λ lives last. record {
          alike = subst (AreAlike row cell (news h) (news k)) (sym h_visit) (other_alike lives last);
          still = λ by e. ap (λ (x : PairState). chain_in x.store.chains cell) (same_some (sym e ∙ is_now))
              ∙ ap (λ (a : Store). chain_in a.chains cell) (sym store_now);
        };
        stays = λ lives by e beyond. left_on row cell by (olds h) (news h) (leaves_apart h cell h_apart)
            ((seated.alone_here (seat_at it) cell row is alive h whole alone).stays lives by (sym h_visit ∙ e)
            (λ p lt. ap (λ n. good.visits n p cell) other ∙ nones k p cell (beyond p lt)));
        unfilled = λ lives all. unfilled_now
            (subst (λ n. (chain_in (olds n).chains cell ≡ []) ⊎ HasFilled setting top good.visits prefix cell h n) other
            ((seated.alone_here (seat_at it) cell row is alive h whole alone).unfilled lives all));
        page = λ lives after block page. record {
          met = ap is_some is_now;
          least = λ ahead upto marked. page.least ahead upto
              (subst (λ a. IsMarked a cell) (sym store_was)
              (marks_back own.store done.own.store cell keeps_other.marks (subst (λ a. IsMarked a cell) store_now marked)));
        };
        pages = λ post i after block e. subst (λ x. IsPage cell (news k) x after block) (sym is_now)
            (subst (λ b. IsPage cell b (Some done.own) after block) (sym store_now) (keeps_other.pages post i after block e));
        met = λ post i after block e. ap is_some is_now;
        some = λ there. ap is_some is_now;
      }

    pub alone_now : (h : ℕ) (whole : Bool) → row.state ≡ Only h whole → has_server k row ≡ true → AloneNow h (other_of h row)
    alone_now h whole alone has = elim (same_or_apart h k) [
      | inl e ↦ subst (λ n. AloneNow n (other_of n row)) (sym e) (holder_now whole (alone ∙ ap (λ n. Only n whole) e))
      | inr ne ↦ (
          let one = holder_is_one (server_state setting w k) (seated.steady (seat_at it)) h cell row is alone in
          let other = other_back row h k one has ne in
          subst (AloneNow h) (sym other) (other_now h whole alone other has))
    ]
