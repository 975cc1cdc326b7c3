-- A server that says that the new map has nothing: what the old map answers then is what the machine has.
use Rattle.law_run.proofs.Imports.{[], ◌++◌, ◌∙◌, ◌∷◌, ◌≡◌, ◌≤◌, AreDisks, AreStepsFrom, Body, Bool, Cell, Chain, Handled, Has, HasStage, In, IsPrefix}
use Rattle.law_run.proofs.Imports.{IsRead, IsReadable, IsRising, IsSettledState, Letter, Line, List, None, NotThere, Option, Some, State, Store, Stored}
use Rattle.law_run.proofs.Imports.{World, ap, arith, at, by_bool, bytes_of, cases_lt, cell_asked, cell_cmp, chain_in, chosen_log, chosen_state, coming}
use Rattle.law_run.proofs.Imports.{counted, entry_at, entry_of, epoch_at, epoch_for, false, find, flat_map, has_map, inl, inr, is_lead, is_some, kept}
use Rattle.law_run.proofs.Imports.{leaving, log_disks, log_plain, log_rev, look_for, look_for_data, look_of, named_cell, nat_cmp, none_some, old_cell}
use Rattle.law_run.proofs.Imports.{old_data, one_prefix, option_and_then, own_below, own_place, own_plain, owns_of, prefix_itself, prefix_on, refl, same_some}
use Rattle.law_run.proofs.Imports.{server_state, source, stage_at, stage_facts, state_after, subst, sym, true, true_false, ℕ}
use Rattle.law_run.proofs.ChosenDisks.{cell_comes, cell_lives, cell_old, content_is, disks_now, has_content_is, plain_now}
use Rattle.law_run.proofs.MachineTakesWrites.{was_has, was_kept}
use Rattle.law_run.proofs.EntryAtEpoch.{AreUpTo}
use Rattle.law_run.proofs.ReadsLookWhereSent.{Accepts, AreGrounded, Looked, letter_looks, one_client}
use Rattle.law_run.proofs.ContentsByCells.{entry_over, has_over}
use Rattle.law_run.proofs.OldReads.{IsFoundAt, found}
use Rattle.law_run.proofs.Overlay.{entry_there, has_below}
use Rattle.law_run.proofs.ContentsAsked.{IsAskedAt, IsKnownRead, IsOfDisk, known_read}
use Rattle.law_run.proofs.ReadersHaveContents.{IsReading, entry_is, now_high, now_low, serving_now, shown_none, some_is}
use Rattle.law_run.proofs.ReadsShowContents.{AreUnchanged, all_looked, look_may, nothing_looked, of, row_has, same_above, same_chain}
use Rattle.law_run.proofs.SourceCells.{source_here, source_stays}
use Rattle.law_run.proofs.EventsOfServerSteps.{LooksTold, ServerStep, ends_of, frozen_same, grounded, later_world, letters, look_here}
use Rattle.petal_msg.specs.declared.body.Body.TheVariants as body
use Rattle.petal_msg.specs.declared.letter.Actor.TheVariants as actor
use Rattle.script_lines.specs.declared.request.Request.TheVariants as request

-- two reads of one request by the same state differ in whether the client was told to ask the old map
record IsTwin (state : State) {lines : List Line} {client seq : ℕ} {told told_old : Bool} {cell old : Cell} {epoch epoch_old : ℕ}
    (one : IsRead state lines client seq told cell epoch) (other : IsRead state lines client seq told_old old epoch_old) : Type 0 where
  same_epoch : epoch_old ≡ epoch
  cell_is : old ≡ cell_asked state one.disk one.block told_old

twins : (state : State) (lines : List Line) (client seq : ℕ) (told told_old : Bool) (cell old : Cell) (epoch epoch_old : ℕ)
    (one : IsRead state lines client seq told cell epoch) (other : IsRead state lines client seq told_old old epoch_old) → IsTwin state one other
twins state lines client seq told told_old cell old epoch epoch_old one other =
    let line : other.line ≡ one.line = same_some (sym other.is ∙ one.is) in
    let asked : request.Read other.name other.snap other.block ≡ request.Read one.name one.snap one.block =
    sym other.asks ∙ ap (λ (l : Line). l.request) line ∙ one.asks in
    let name : other.name ≡ one.name = cc in
    let snap : other.snap ≡ one.snap = cc in
    let block : other.block ≡ one.block = cc in
    let disk : other.disk ≡ one.disk = same_some (sym other.found ∙ ap (find state) name ∙ one.found) in
    record {
      same_epoch = same_some (sym other.epoch_is ∙ (λ i. epoch_for state (disk i) (snap i)) ∙ one.epoch_is);
      cell_is = other.cell_is ∙ (λ i. cell_asked state (disk i) (block i) told_old);
    }

module _ (this : ServerStep) where
  open ends_of this use {chosen, own, own_state, prefix}

  -- a read of a cell that is coming, of which the server has nothing, and the data that another server then finds for it
  pub record IsFoundElsewhere : Type 0 where
    pub client : ℕ
    pub seq : ℕ
    pub cell : Cell
    pub epoch : ℕ
    pub r : IsReading this cell
    pub k : IsKnownRead this.setting this.w this.n client seq cell epoch
    pub comes : coming own_state cell ≡ true
    pub none : entry_at (chain_in own.store.chains cell) epoch ≡ None
    pub same : chosen_log this.setting (later_world this) ≡ chosen_log this.setting this.w
    pub letter : Letter
    pub to : letter.to ≡ actor.Client client
    pub rev : letter.rev ≡ own_state.rev
    pub given : ℕ × List ℕ
    pub f : IsFoundAt this.setting this.state this.along.steady (later_world this) (record { letter = letter; seq = seq }) given

  module _ (it : IsFoundElsewhere) where
    open it use {client, seq, cell, epoch, r, k, comes, none, same, to, rev, given, f}

    abbrev o : IsOfDisk this.setting this.w this.along.firm prefix (this.along.firm.servers this.n) this.setting.lines client seq k.told cell epoch k.read
    o = of this cell r client seq epoch k

    facts : HasStage own_state cell
    facts = stage_facts this.setting.servers prefix (own_plain this.setting this.w this.along.firm this.n) cell

    -- whoever answered had come as far
    prefix_is : (f.u.servers f.old.y).log.applied ≡ prefix
    prefix_is = one_prefix (f.u.servers f.old.y).log.applied prefix (chosen_log this.setting f.u) (f.firm.servers f.old.y)
        (prefix_on prefix (chosen_log this.setting (later_world this)) (chosen_log this.setting f.u)
        (subst (IsPrefix prefix) (sym same) (this.along.firm.servers this.n)) f.grows)
        (f.old.at ∙ rev ∙ log_rev this.setting.servers prefix)

    abbrev state_is : server_state this.setting f.u f.old.y ≡ own_state
    state_is = ap (state_after this.setting.servers) prefix_is

    same_client : f.client ≡ client
    same_client = one_client (sym f.to ∙ to)

    abbrev old : Cell
    old = f.old.cell

    old_read : IsRead own_state this.setting.lines client seq f.old.told old f.old.epoch
    old_read = subst (λ (s : State). IsRead s this.setting.lines client seq f.old.told old f.old.epoch) state_is
        (subst (λ c. IsRead (server_state this.setting f.u f.old.y) this.setting.lines c seq f.old.told old f.old.epoch) same_client f.old.read)

    twin : IsTwin own_state k.read old_read
    twin = twins own_state this.setting.lines client seq k.told f.old.told cell old epoch f.old.epoch k.read old_read

    old_leaves : stage_at own_state old ≡ 3
    old_leaves = ap (λ (s : State). stage_at s old) (sym state_is) ∙ f.old.leaves

    old_has : has_map old.map o.was ≡ true
    old_has = ap (λ (c : Cell). has_map c.map o.was) twin.cell_is ∙ o.asked f.old.told

    abbrev before : Chain
    before = chain_in (owns_of f.u f.old.y).store.chains old

    -- what it has of the old cell was frozen before
    frozen : this.w.frozen old ≡ Some before
    frozen =
        let up = (own_below this.setting this.w this.along.firm this.n).stages old in
        let three = old_leaves in
        let now : stage_at (chosen_state this.setting (later_world this)) old ≡ stage_at chosen old =
        ap (λ log. stage_at (state_after this.setting.servers log) old) same in
        sym (frozen_same this same old) ∙ sym (f.stays old (omega arith)) ∙ f.old.frozen

    -- it is the cell from which the new one is filled
    plain_own : IsSettledState this.setting.servers own_state
    plain_own = log_plain this.setting.servers prefix (own_plain this.setting this.w this.along.firm this.n)

    disks_own : AreDisks own_state
    disks_own = log_disks this.setting.servers prefix (own_plain this.setting this.w this.along.firm this.n)

    from_old : source own_state cell ≡ Some old
    from_old =
        source_here this.setting.servers own_state plain_own disks_own cell o.was o.was_there o.has (facts.comes comes)
        ∙ ap Some (ap (old_cell o.was) (o.block_is ∙ sym (ap (λ (c : Cell). c.block) twin.cell_is))
        ∙ sym (cell_old this.setting.servers own_state plain_own disks_own o.was o.was_there old old_has old_leaves))

    -- ### The contents

    none_at : (e : ℕ) → IsAskedAt epoch k.read.snap e → entry_at (chain_in own.store.chains cell) e ≡ None
    none_at e asked = same_above this cell r client seq epoch k e asked ∙ none

    given_at : (e : ℕ) → IsAskedAt epoch k.read.snap e → given.1 ≡ bytes_of (entry_at before e)
    given_at e asked = f.old.is ∙ ap (λ x. bytes_of (entry_at before x)) twin.same_epoch
        ∙ ap bytes_of (sym (same_chain this cell r client seq epoch k old old_has before
        (subst (λ (s : State). AreUpTo before (epoch_at s old)) state_is f.old.early) e asked))

    abbrev C : ℕ → Type 0
    C e = (was_has this o.row e cell.block ≡ true) × (was_kept this o.row e cell.block ≡ given.1)

    has : has_map cell.map o.row ≡ true
    has = row_has this cell r client seq epoch k

    -- while the region is on its way, the frozen entry is the content
    on_way : stage_at chosen cell ≡ 1 → (e : ℕ) → IsAskedAt epoch k.read.snap e → C e
    on_way one e asked =
        let plain = plain_now this.setting this.w this.along.firm in
        let disks = disks_now this.setting this.w this.along.firm in
        let between = cell_comes this.setting.servers chosen plain disks o.row o.there cell has one in
        let is_old : old ≡ old_cell o.row cell.block =
        source_stays this.setting.servers prefix (chosen_log this.setting this.w) this.along.firm.plain (this.along.firm.servers this.n) cell old from_old
        o.row o.there has one in
        let at_old : this.w.frozen (old_cell o.row cell.block) ≡ Some before = ap this.w.frozen (sym is_old) ∙ frozen in
        let top : entry_of chosen (counted this.setting this.w) (named_cell o.row cell.block) e ≡ None =
        entry_is this cell r o.row o.there has e ∙ none_at e asked in
        let some = some_is this cell r o.row o.there has in (
          has_content_is this.setting this.w this.along.firm o.row o.there e cell.block
              ∙ (λ i. has_over (between i) (some i) (top i) (is_some (at_old i))),
          content_is this.setting this.w this.along.firm o.row o.there e cell.block
              ∙ (λ i. bytes_of (entry_over (between i) (top i) (before_of (at_old i) e))) ∙ sym (given_at e asked),
        )
      where
        before_of : Option Chain → ℕ → Option Stored
        before_of o e = option_and_then (λ chain. entry_at chain e) o

    -- where it has moved, all that was frozen is there
    nothing_before : 2 ≤ stage_at chosen cell → (e : ℕ) → IsAskedAt epoch k.read.snap e → (o : Option Stored) → entry_at before e ≡ o → o ≡ None
    nothing_before two e asked None is = refl
    nothing_before two e asked (Some x) is =
        let low = has_below before e (this.ground.moves.frozen old before frozen).rising (ap is_some is) in
        let high = now_high this cell r in
        let kept_is : kept this.setting this.w this.n ≡ own.store = this.ground.own this.n r.runs r.seat own.store in
        let there : Has (chain_in own.store.chains cell) low.0 =
        subst (λ (x : Store). Has (chain_in x.chains cell) low.0) kept_is
        ((this.ground.moves.over cell two (omega arith)).all this.n low.0 before old prefix (this.along.firm.servers this.n) from_old frozen
        (serving_now this cell r) low.2) in
        let rises : IsRising nat_cmp (chain_in own.store.chains cell) =
        subst (λ (x : Store). IsRising nat_cmp (chain_in x.chains cell)) kept_is (this.ground.good.rising this.n cell) in
        none_some (none_at e asked) (is_some_of (entry_at (chain_in own.store.chains cell) e)
        (entry_there (chain_in own.store.chains cell) low.0 e rises there low.1)).1
      where
        is_some_of : (o : Option Stored) → is_some o ≡ true → (x : Stored) × (o ≡ Some x)
        is_some_of None e = true_false e refl
        is_some_of (Some x) e = (x, refl)

    moved : stage_at chosen cell ≡ 2 → (e : ℕ) → IsAskedAt epoch k.read.snap e → C e
    moved two e asked =
        let apart = cell_lives this.setting.servers chosen (plain_now this.setting this.w this.along.firm) (disks_now this.setting this.w this.along.firm)
        o.row o.there cell has two in
        let x = shown_none this cell r o.row o.there has apart e in
        let zero = nothing_before (omega (arith, two)) e asked (entry_at before e) refl in
        (x.0, x.1 ∙ ap bytes_of (none_at e asked ∙ sym zero) ∙ sym (given_at e asked))

    pub old_content : (e : ℕ) → IsAskedAt epoch k.read.snap e → (was_has this o.row e k.read.block ≡ true) × (was_kept this o.row e k.read.block ≡ given.1)
    old_content e asked =
        let low = now_low this cell r in
        let high = now_high this cell r in
        subst (λ b. (was_has this o.row e b ≡ true) × (was_kept this o.row e b ≡ given.1)) o.block_is
        (elim (cases_lt (stage_at chosen cell) 2) [
          | inl lt ↦ on_way (omega arith) e asked
          | inr le ↦ moved (omega arith) e asked
        ])

  -- ### What is told

  -- a server says that the new map has nothing, which is all that the step sends
  pub not_here_told : (numbered : (one other : Line) → In one this.setting.lines → In other this.setting.lines → one.number ≡ other.number → one ≡ other)
      → (this.w.servers this.n).life.running ≡ true → (client seq : ℕ) (cell : Cell) (epoch : ℕ)
      → IsReadable (Handled this.w this.n) (own_place this.setting this.w this.n) own client seq cell epoch
      → coming own_state cell ≡ true → entry_at (chain_in own.store.chains cell) epoch ≡ None
      → (is_lead own_state this.n cell ≡ true → at cell_cmp own.pairs.pending cell ≡ None)
      → (letter : Letter) → letters this ≡ letter ∷ [] → letter.to ≡ actor.Client client → letter.rev ≡ own_state.rev → letter.body ≡ body.NotHere seq
      → chosen_log this.setting (later_world this) ≡ chosen_log this.setting this.w → AreUnchanged this
      → AreGrounded this.setting this.state (later_world this) this.later → AreStepsFrom this.setting (later_world this) this.later
      → LooksTold this
  not_here_told numbered runs client seq cell epoch readable comes none idle letter all to rev says same calm grounds legal m following =
      subst (λ ls. Looked m (flat_map (look_here this) ls)) (sym all)
      (subst (λ (b : Body). Looked m (look_of this.setting this.w v (actor.Server this.n) this.later letter b ++ [])) (sym says)
      (by (old_data this.setting v this.later told false) refl))
    where
      v : World
      v = later_world this

      told : NotThere
      told = record { letter = letter; seq = seq }

      by : (o : Option (ℕ × List ℕ)) → old_data this.setting v this.later told false ≡ o → Looked m (look_for_data this.setting.lines o ++ [])
      by None e = nothing_looked this m following
      by (Some given) e =
          let facts = stage_facts this.setting.servers prefix (own_plain this.setting this.w this.along.firm this.n) cell in
          let one = facts.comes comes in
          let stays : leaving own_state cell ≡ false =
          by_bool (leaving own_state cell) (λ t. let three = facts.leaves t in absurd (omega arith)) (λ x. x) in
          let r : IsReading this cell =
          record { runs = runs; seat = readable.seated; may = readable.readable; unheld = readable.unheld; idle = idle; stays = stays } in
          let known = known_read (grounded this) this.n client seq cell epoch readable.asked in
          let o = of this cell r client seq epoch known in
          let f = found this.setting this.state this.along.steady v told given v this.later false grounds legal (prefix_itself _) (λ c left. refl) e in
          let may = look_may this same calm m following o.row o.there epoch known.read.block given.1 known.read.snap o.asks
          (old_content (record {
            client = client;
            seq = seq;
            cell = cell;
            epoch = epoch;
            r = r;
            k = known;
            comes = comes;
            none = none;
            same = same;
            letter = letter;
            to = to;
            rev = rev;
            given = given;
            f = f;
          })) in
          all_looked m o.row.name known.read.snap known.read.block given.1 may following.stores.mindful (look_for this.setting.lines (Some given.0) given.1)
          (letter_looks this.setting.lines numbered letter seq client o.row.name known.read.snap known.read.block given.1 known.read.line to known.read.is
          (known.read.asks ∙ λ i. request.Read (sym o.name_is i) known.read.snap known.read.block) (Some given.0)
          (λ number is. subst (Accepts this.setting.lines letter seq) (same_some is) f.accepts))
