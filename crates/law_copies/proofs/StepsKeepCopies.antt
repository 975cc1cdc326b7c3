-- What is kept after a step of one server, from what the step keeps at each prefix, and of what it sends.
use Rattle.law_copies.proofs.Imports.{[], ◌++◌, ◌∙◌, ◌∷◌, ◌≡◌, ◌≤◌, ◌⊎◌, Bool, Both, Cell, Command, In, IsPrefix, IsRising, LastCopy, Letter, LinkRow, List}
use Rattle.law_copies.proofs.Imports.{None, Only, Option, PairState, Record, Server, Setting, Some, State, Store, World, about, arith, chain_in, inl, inr}
use Rattle.law_copies.proofs.Imports.{is_between, last_copy, length, live, nat_cmp, prefix_itself, same_or_apart, server_state, stage_at, state_after}
use Rattle.law_copies.proofs.Imports.{state_in, subject_of, subst, sym, true, ℕ}
use Rattle.law_copies.specs.CopyProgress.{IsOfLink}
use Rattle.law_copies.specs.GoodCopies.{AloneOk, BothOk, Good, IsUnheard, SaidOk, store_of}
use Rattle.law_copies.specs.Pair.{HaveMarks}
use Rattle.law_copies.specs.LoneSteps.{AreFilled}
use Rattle.law_copies.specs.Visits.{AliveIn, IsLinked}
use Rattle.law_copies.proofs.VisitsAfterSteps.{IsThen, KeepsFlags, all_visited, been_now, counted_up, ever_then, here_now, now_then, reaching_now, seen}
use Rattle.law_copies.proofs.VisitsAfterSteps.{started_now, then_of}
use Rattle.law_copies.proofs.AtStep.{AtStep}
use Rattle.law_copies.proofs.VisitsComeFromMoments.{came_then}
use Rattle.law_copies.proofs.PlacesByPrefixes.{below_at}
use Rattle.petal_msg.specs.declared.body.Body.TheVariants as body

-- a letter that is sent tells what is so, by the link at the front of its sender
pub record IsTrue (setting : Setting) (top : List Command) (stores : ℕ → ℕ → Store) (visits : (n place : ℕ) → Cell → Option PairState) (reached : Cell → ℕ)
    (letter : Letter) : Type 0 where
  pub rev : is_between (subject_of letter.body) ≡ true → letter.rev ≤ length top
  pub said : (prefix : List Command) (cell : Cell) (row : LinkRow) → IsPrefix prefix top → length prefix ≡ letter.rev → IsLinked setting prefix cell row
      → AliveIn (state_after setting.servers prefix) cell → SaidOk setting top stores visits reached prefix letter.body cell row
  pub lives : is_between (subject_of letter.body) ≡ true → (prefix : List Command) → IsPrefix prefix top → length prefix ≡ letter.rev → (cell : Cell)
      → (about letter.body).cell ≡ Some cell → live (state_after setting.servers prefix) cell ≡ true
  pub page : (prefix : List Command) → IsPrefix prefix top → length prefix ≡ letter.rev → (map link block : ℕ) (after : Option ℕ)
      → letter.body ≡ body.Hello map link after (Some block) → IsOfLink (state_after setting.servers prefix) (record { map = map; block = block }) link

-- what is kept after one record more; with where servers have been then; places that count only rise, and no server has
-- applied an entry beyond those known before
pub record GoesOn (setting : Setting) (records : List Record) (top next : List Command) (w v : World) (old : Good setting records top w)
    (own : Record) : Type 0 where
  pub good : Good setting (records ++ own ∷ []) next v
  pub visits : (n place : ℕ) (cell : Cell) → good.visits n place cell ≡ seen setting old.visits v n place cell
  pub reached : (cell : Cell) → old.reached cell ≤ good.reached cell
  pub following : (n : ℕ) → IsPrefix (v.servers n).log.applied top

-- a server's own part, by its own state: its operations find their marks in this case
pub record IsSoundPart (state : State) (own : PairState) (marked : Type 0) : Type 0 where
  pub unheard : (cell : Cell) → stage_at state cell ≡ 0 → IsUnheard state own cell
  pub copied : (cell : Cell) (last : LastCopy) → last_copy own cell ≡ Some last → live state cell ≡ true
  pub rising : (cell : Cell) → IsRising nat_cmp (chain_in own.store.chains cell)
  pub counts : 1 ≤ own.pairs.next
  pub filled : AreFilled own.store.chains
  pub marks : marked → HaveMarks state own.pairs.pending own.store

abbrev pub IsMarkedOne : World → ℕ → Server → Type 0
IsMarkedOne v k server = (server.life.running ≡ true) ⊎ (v.before_blank k ≡ None)

abbrev pub IsSoundOwn : Setting → World → ℕ → Server → Type 0
IsSoundOwn setting v k server = IsSoundPart (state_in setting.servers server.log) server.own (IsMarkedOne v k server)

-- each server's is so
pub sound_part : {setting : Setting} {records : List Record} {top : List Command} {w : World} {marked : Type 0} → Good setting records top w → (k : ℕ)
    → (marked → IsMarkedOne w k (w.servers k)) → IsSoundPart (server_state setting w k) (w.servers k).own marked
sound_part good k when = record {
  unheard = good.unheard k;
  copied = good.copied k;
  rising = good.rising k;
  counts = good.counts k;
  filled = good.filled k;
  marks = λ marked. good.marks k (when marked);
}

-- and by the same state, of the same part
pub sound_at : {marked : Type 0} (servers : ℕ) (prefix later : List Command) (own new : PairState) → later ≡ prefix → new ≡ own
    → IsSoundPart (state_after servers prefix) own marked → IsSoundPart (state_after servers later) new marked
sound_at {marked} servers prefix later own new applied same sound =
    subst (λ f. IsSoundPart (state_after servers f) new marked) (sym applied)
    (subst (λ (o : PairState). IsSoundPart (state_after servers prefix) o marked) (sym same) sound)

module _ (it : AtStep) where
  open it use {setting, records, top, w, v, k, server, good, step}
  open then_of it use {visits, reached, next as stores}

  -- what holds of each server holds then
  all_servers : (P : ℕ → Server → Type 0) → ((n : ℕ) → P n (w.servers n)) → P k server → (n : ℕ) → P n (v.servers n)
  all_servers P old new n = elim (same_or_apart n k) [
    | inl e ↦ subst (λ m. P m (v.servers m)) (sym e) (subst (P k) (sym step.here) new)
    | inr ne ↦ subst (P n) (sym (step.others n ne)) (old n)
  ]

  -- at each prefix, what the step keeps
  pub record KeepsPrefixes : Type 0 where
    pub both : (prefix : List Command) (cell : Cell) (row : LinkRow) → IsPrefix prefix top → IsLinked setting prefix cell row → row.state ≡ Both
        → BothOk setting top stores visits reached prefix cell row
    pub alone : (prefix : List Command) (cell : Cell) (row : LinkRow) (holder : ℕ) (whole : Bool) → IsPrefix prefix top → IsLinked setting prefix cell row
        → row.state ≡ Only holder whole → AloneOk setting top stores visits reached prefix cell row holder
    pub said : (letter : Letter) → In letter w.sent → (prefix : List Command) (cell : Cell) (row : LinkRow) → IsPrefix prefix top
        → length prefix ≡ letter.rev → IsLinked setting prefix cell row → AliveIn (state_after setting.servers prefix) cell
        → SaidOk setting top stores visits reached prefix letter.body cell row

  unheard_now : IsSoundOwn setting v k server → (n : ℕ) (cell : Cell) → stage_at (server_state setting v n) cell ≡ 0
      → IsUnheard (server_state setting v n) (v.servers n).own cell
  unheard_now sound = all_servers (λ n (s : Server). (cell : Cell) → stage_at (state_in setting.servers s.log) cell ≡ 0
      → IsUnheard (state_in setting.servers s.log) s.own cell) good.unheard sound.unheard

  -- what is not live yet by what is chosen is not by a server's own state
  born_now : IsSoundOwn setting v k server → (cell : Cell) → stage_at (state_after setting.servers top) cell ≡ 0 → (n : ℕ)
      → chain_in (store_of v n).chains cell ≡ []
  born_now sound cell none n =
      let within = all_servers (λ m (s : Server). IsPrefix s.log.applied top) step.before step.within n in
      let le = (below_at setting top step.plain (v.servers n).log.applied top within (prefix_itself top)).stages cell in
      (unheard_now sound n cell (omega arith)).bare.chain

  good_now : (own : Record) → IsThen setting (records ++ own ∷ []) v → KeepsFlags it
      → IsSoundOwn setting v k server → KeepsPrefixes
      → ((letter : Letter) → In letter v.sent → In letter w.sent ⊎ IsTrue setting top stores visits reached letter)
      → Good setting (records ++ own ∷ []) top v
  good_now own then_is flags sound keeps sent = record {
    visits = visits;
    reached = reached;
    reaching = reaching_now it;
    stores = stores;
    now = now_then it;
    here = here_now it;
    been = been_now it;
    came = λ n place cell o visit. came_then setting records own v then_is n place cell good.visits (good.came n place cell) o
        (sym (all_visited it n place cell) ∙ visit);
    born = born_now sound;
    unheard = unheard_now sound;
    copied = all_servers (λ n (s : Server). (cell : Cell) (last : LastCopy) → last_copy s.own cell ≡ Some last
        → live (state_in setting.servers s.log) cell ≡ true) good.copied sound.copied;
    rising = all_servers (λ n (s : Server). (cell : Cell) → IsRising nat_cmp (chain_in s.own.store.chains cell)) good.rising sound.rising;
    ever = ever_then it sound.rising;
    counts = all_servers (λ n (s : Server). 1 ≤ s.own.pairs.next) good.counts sound.counts;
    filled = all_servers (λ n (s : Server). AreFilled s.own.store.chains) good.filled sound.filled;
    marks = all_servers (λ n (s : Server). (s.life.running ≡ true) ⊎ (v.before_blank n ≡ None)
        → HaveMarks (state_in setting.servers s.log) s.own.pairs.pending s.own.store)
        (λ n when. good.marks n (elim when [ inl runs ↦ inl runs | inr none ↦ inr (step.blanks n none) ])) sound.marks;
    both = keeps.both;
    alone = keeps.alone;
    revs = λ letter i. elim (sent letter i) [ inl old ↦ good.revs letter old | inr new ↦ new.rev ];
    letters = λ letter i. elim (sent letter i) [ inl old ↦ keeps.said letter old | inr new ↦ new.said ];
    lives = λ letter i. elim (sent letter i) [ inl old ↦ good.lives letter old | inr new ↦ new.lives ];
    pages = λ letter i. elim (sent letter i) [ inl old ↦ good.pages letter old | inr new ↦ new.page ];
    started = started_now it own then_is flags;
  }

  pub good_after : (own : Record) → IsThen setting (records ++ own ∷ []) v → KeepsFlags it
      → IsSoundOwn setting v k server → KeepsPrefixes
      → ((letter : Letter) → In letter v.sent → In letter w.sent ⊎ IsTrue setting top stores visits reached letter)
      → GoesOn setting records top top w v good own
  unfolding good_now
  good_after own then_is flags sound keeps sent = record {
    good = good_now own then_is flags sound keeps sent;
    visits = all_visited it;
    reached = counted_up it;
    following = all_servers (λ n (s : Server). IsPrefix s.log.applied top) step.before step.within;
  }
