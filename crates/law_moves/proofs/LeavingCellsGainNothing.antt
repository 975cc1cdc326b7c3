-- What a step leaves of a cell at a server that serves its link: no entry goes, and of a cell that is leaving, or has left, none comes.
use Rattle.law_moves.proofs.Imports.{[], if◌then◌else◌, ◌+◌, ◌==◌, ◌∙◌, ◌≡◌, ◌≤◌, BeforeBlank, Cell, Chain, Command, Handled, IsPrefix, IsServing, Key, List}
use Rattle.law_moves.proofs.Imports.{Named, None, OneMore, Option, PairState, Pending, Server, Some, Store, ap, append-nil, arith, at, at_apart, at_same}
use Rattle.law_moves.proofs.Imports.{blank_joins_in, by_bool, cell_cmp, cell_of, chain_in, chosen_state, ends_of, false, inl, inr, is_clients, is_in}
use Rattle.law_moves.proofs.Imports.{is_second, is_some, is_the_one, kept, kept_by, kept_store, last_on, nat_cmp, number_itself, prefix_itself, progress, put}
use Rattle.law_moves.proofs.Imports.{running_timely, same_or_apart, second, second_by, server_state, stage_at, state_after, subst, sym, true, ℕ}
use Rattle.law_moves.proofs.StepsTellEntries.{knows, Keeps, gone, Awakes, Goes_on, HasGone, HasStore, Is_bare, Works}
use Rattle.law_moves.specs.Fills.{Has}
use Rattle.law_moves.proofs.ServedCellChanges.{Asked_put, IsPutOn, Own_put, Same, chain_so}
use Rattle.law_moves.proofs.AllKeptOfMoves.{Known, WereKnown}
use Rattle.law_moves.proofs.MoveWorlds.{steady_at, up}
use Rattle.law_moves.proofs.MoveScenes.{IsSecondAt}
use Rattle.petal_msg.specs.declared.body.Body.TheVariants as body
use Rattle.petal_msg.specs.declared.operation.FollowProgress.TheVariants as follow_progress

-- what an entry leaves of a chain
pub has_put : (old new : Chain) (epoch e : ℕ) (bytes : List ℕ) → IsPutOn old new epoch bytes → Has old e → Has new e
has_put old new epoch e bytes p has = ap (λ (c : Chain). is_some (at nat_cmp c e)) p.2 ∙ elim (same_or_apart e epoch) [
  | inl same ↦ ap (λ k. is_some (at nat_cmp (put nat_cmp old epoch p.0) k)) same ∙ ap is_some (at_same old epoch p.0)
  | inr ne ↦ ap is_some (at_apart old epoch p.0 e ne) ∙ has
]

-- what is so of the store that counts, and goes on to be so of the server's own
kept_map : (P : Store → Type 0) (joins : ℕ) (o : Option BeforeBlank) (s t : Store) → P (kept_store joins o s) → (P s → P t) → P (kept_store joins o t)
kept_map P joins None s t was step = step was
kept_map P joins (Some b) s t was step = by_bool (b.joins == joins)
    (λ yes. subst P (ap (λ x. if x then b.store else t) (sym yes)) (subst P (ap (λ x. if x then b.store else s) yes) was))
    (λ no. subst P (ap (λ x. if x then b.store else t) (sym no)) (step (subst P (ap (λ x. if x then b.store else s) no) was)))

module _ (it : OneMore) (all : WereKnown it) where
  open it use {prior, prior.{script, sound, records as prefix}}
  open ends_of it use {setting, w, v, top}

  pub before : Known script prefix
  before = all prefix [] (sym (append-nil prefix))

  abbrev chain_of : Server → Cell → Chain
  chain_of server cell = chain_in server.own.store.chains cell

  -- ### A server's own copy

  module _ (n : ℕ) (f : List Command) (on : IsPrefix (w.servers n).log.applied f) (lies : IsPrefix f top) (cell : Cell)
      (low : stage_at (state_after script.servers f) cell ≤ 3) (serving : IsServing (state_after script.servers f) n cell) where
    -- it stays so, or an operation was put that is pending here, or one that the lead asked for
    pub data HasChanged (new : Chain) : Type 0 where
      Stays_so : new ≡ chain_of (w.servers n) cell → HasChanged new
      Put_own : (op : Pending) → (w.servers n).life.running ≡ true → at cell_cmp (w.servers n).own.pairs.pending cell ≡ Some op → op.stage.put ≡ false
          → IsPutOn (chain_of (w.servers n) cell) new op.key.epoch op.bytes → HasChanged new
      Put_asked : (number : ℕ) (key : Key) (version : ℕ) (origin : Option Named) (bytes : List ℕ) → (w.servers n).life.running ≡ true
          → is_in (server_state setting w n) n (w.servers n).life.inc ≡ true → Handled w n (body.Replicate number key version origin bytes) → cell_of key ≡ cell
          → is_second (server_state setting w n) n cell ≡ true
          → last_on (w.servers n).own cell ≡ Some (record { op = number; progress = follow_progress.Reserved })
          → IsPutOn (chain_of (w.servers n) cell) new key.epoch bytes → HasChanged new

    changed_by : (to : Server) → HasGone it n to → HasChanged (chain_of to cell)
    changed_by to (Keeps kept) = Stays_so (ap (λ c. chain_in c cell) kept.chains)
    changed_by to (Works job) = elim job.seat [
      | inr apart ↦ Stays_so (ap (λ (o : PairState). chain_in o.store.chains cell) (job.own_is ∙ apart.same))
      | inl seat ↦ elim (chain_so prior before.filled.opened n job.runs f on lies seat cell low serving job.done job.did job.seat) [
        | Same e ↦ Stays_so (ap (λ (o : PairState). chain_in o.store.chains cell) job.own_is ∙ e)
        | Own_put op is fresh p ↦ Put_own op job.runs is fresh (p.0, p.1, ap (λ (o : PairState). chain_in o.store.chains cell) job.own_is ∙ p.2)
        | Asked_put number key version origin bytes hears of seconds last p ↦ Put_asked number key version origin bytes job.runs seat hears of seconds last
            (p.0, p.1, ap (λ (o : PairState). chain_in o.store.chains cell) job.own_is ∙ p.2)
      ]
    ]
    changed_by to (Awakes asleep same) = Stays_so (ap (λ (s : Server). chain_of s cell) same)

    -- no entry goes
    pub has_on : (to : Server) → HasGone it n to → (epoch : ℕ) → Has (chain_of (w.servers n) cell) epoch → Has (chain_of to cell) epoch
    has_on to g epoch has = elim (changed_by to g) [
      | Stays_so e ↦ subst (λ (c : Chain). Has c epoch) (sym e) has
      | Put_own op runs is fresh p ↦ has_put (chain_of (w.servers n) cell) (chain_of to cell) op.key.epoch epoch op.bytes p has
      | Put_asked number key version origin bytes runs seat hears of seconds last p ↦
          has_put (chain_of (w.servers n) cell) (chain_of to cell) key.epoch epoch bytes p has
    ]

    -- and none comes where the cell leaves by what is chosen, or has left
    module _ (three : 3 ≤ stage_at (chosen_state setting w) cell) where
      not_own : (op : Pending) → (w.servers n).life.running ≡ true → at cell_cmp (w.servers n).own.pairs.pending cell ≡ Some op → ⊥
      not_own op runs is = by_bool (is_clients op.kind)
          (λ clients. let stays = (running_timely script prefix sound prior.legal n cell op runs is clients).stays in absurd (omega arith))
          (λ fills. let one = before.filled.opened n cell op runs is fills in absurd (omega arith))

      not_asked : (number : ℕ) (key : Key) (version : ℕ) (origin : Option Named) (bytes : List ℕ) → (w.servers n).life.running ≡ true
          → is_in (server_state setting w n) n (w.servers n).life.inc ≡ true → Handled w n (body.Replicate number key version origin bytes) → cell_of key ≡ cell
          → is_second (server_state setting w n) n cell ≡ true
          → last_on (w.servers n).own cell ≡ Some (record { op = number; progress = follow_progress.Reserved }) → ⊥
      not_asked number key version origin bytes runs seat hears of seconds last =
          let mine = (w.servers n).log.applied in
          let mine_top = (knows it).servers n in
          let b = second_by (server_state setting w n) (steady_at prior mine mine_top) cell n
          (is_the_one (second (server_state setting w n) cell) n seconds) in
          let le = up prior mine f on lies cell in
          let here : IsSecondAt setting w = record {
            m = n;
            f = mine;
            cell = cell;
            row = b.0.row;
            runs = runs;
            on = prefix_itself mine;
            lies = mine_top;
            seat = seat;
            linked = b.0.is;
            both = b.0.so;
            second = b.1;
            low = omega arith;
          } in
          let past = before.followed here (record {
            letter = hears.letter;
            number = number;
            key = key;
            version = version;
            origin = origin;
            bytes = bytes;
            is = hears.is;
            of = of;
            rev = hears.at;
          }) three hears.sent in
          let e : progress (last_on (w.servers n).own cell) ≡ number + number = ap progress last in
          let lt = past.1 in absurd (omega arith)

      pub same_on : (to : Server) → HasGone it n to → chain_of to cell ≡ chain_of (w.servers n) cell
      same_on to g = elim (changed_by to g) [
        | Stays_so e ↦ e
        | Put_own op runs is fresh p ↦ absurd (not_own op runs is)
        | Put_asked number key version origin bytes runs seat hears of seconds last p ↦
            absurd (not_asked number key version origin bytes runs seat hears of seconds last)
      ]

  -- ### The copy that counts

  abbrev now_kept : ℕ → Store
  now_kept n = kept_by setting top v n

  -- what goes on to be so of the server's own store, goes on to be so of the one that counts
  kept_from : (n : ℕ) (P : Store → Type 0) → P (kept setting w n)
      → (HasGone it n (v.servers n) → P (w.servers n).own.store → P (v.servers n).own.store) → P (now_kept n)
  kept_from n P was step = by (v.before_blank n) (gone it n)
    where
      by : (b : Option BeforeBlank) → HasStore it n (v.servers n) b
          → P (kept_store (blank_joins_in setting top n) b (v.servers n).own.store)
      by b (Goes_on g same) =
          subst (λ o. P (kept_store (blank_joins_in setting top n) o (v.servers n).own.store)) (sym same)
          (kept_map P (blank_joins_in setting top n) (w.before_blank n) (w.servers n).own.store (v.servers n).own.store was (step g))
      by b (Is_bare asleep bare same) =
          subst (λ o. P (kept_store (blank_joins_in setting top n) o (v.servers n).own.store)) (sym same)
          (subst P (ap (λ x. if x then kept setting w n else (v.servers n).own.store) (sym (number_itself (blank_joins_in setting top n)))) was)

  module _ (n : ℕ) (cell : Cell) (low : stage_at (chosen_state setting w) cell ≤ 3) (serving : IsServing (chosen_state setting w) n cell) where
    mine_on : IsPrefix (w.servers n).log.applied top
    mine_on = (knows it).servers n

    pub kept_has : (epoch : ℕ) → Has (chain_in (kept setting w n).chains cell) epoch → Has (chain_in (now_kept n).chains cell) epoch
    kept_has epoch has = kept_from n (λ (s : Store). Has (chain_in s.chains cell) epoch) has
        (λ g was. has_on n top mine_on (prefix_itself top) cell low serving (v.servers n) g epoch was)

    pub kept_same : 3 ≤ stage_at (chosen_state setting w) cell → (chain : Chain) → chain_in (kept setting w n).chains cell ≡ chain
        → chain_in (now_kept n).chains cell ≡ chain
    kept_same three chain is = kept_from n (λ (s : Store). chain_in s.chains cell ≡ chain) is
        (λ g was. same_on n top mine_on (prefix_itself top) cell low serving three (v.servers n) g ∙ was)
