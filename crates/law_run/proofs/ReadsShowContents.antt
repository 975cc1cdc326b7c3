-- A read's data are those that the machine has.
use Rattle.law_run.proofs.Imports.{[], if◌then◌else◌, ◌++◌, ◌∙◌, ◌∷◌, ◌≡◌, Body, Cell, Chain, Command, DiskRow, Event, Handled, In, IsReadable, Letter, Line}
use Rattle.law_run.proofs.Imports.{List, MayLook, None, Option, Plain, Some, accepted, ap, arith, at, by_bool, bytes_of, cell_cmp, chain_in, chosen_log}
use Rattle.law_run.proofs.Imports.{coming, entry_at, epoch_at, false, flat_map, has_map, in-append, inl, inr, is_lead, leaving, look_for, look_of, own_place}
use Rattle.law_run.proofs.Imports.{readable, refl, state_after, subst, sym, true, ℕ}
use Rattle.law_run.specs.MachineTies.{Follow}
use Rattle.law_run.specs.WritesGoOn.{IsMindful}
use Rattle.law_run.proofs.Machine.{onward_itself}
use Rattle.law_run.proofs.ContentsAsked.{AsksFor, IsAskedAt, IsKnownRead, IsOfDisk, known_read, may_look, of_disk, own_epoch, own_up_to, reads_old_is}
use Rattle.law_run.proofs.ContentsAsked.{same_disk}
use Rattle.law_run.proofs.ChosenDisks.{HasDisk, disk_here, disks_now, plain_now, rows_in}
use Rattle.law_run.proofs.ReadsLookWhereSent.{AllLooks, Looked, looked, Accepts, letter_looks}
use Rattle.law_run.proofs.MachineTakesWrites.{was_kept, now_has, now_kept, was_has}
use Rattle.law_run.proofs.EntryAtEpoch.{AreUpTo, entry_later}
use Rattle.law_run.proofs.EventsOfServerSteps.{LooksTold, ServerStep, ends_of, grounded, later_world, letters, look_here}
use Rattle.law_run.proofs.ReadersHaveContents.{IsReading, now_high, now_low, shown}
use Rattle.petal_msg.specs.declared.body.Body.TheVariants as body
use Rattle.petal_msg.specs.declared.letter.Actor.TheVariants as actor
use Rattle.script_lines.specs.declared.request.Request.TheVariants as request
pub use Rattle.law_run.proofs.ReadersHaveContents.{data_of}

-- looks that are allowed, one after another
pub all_looked : (k : Plain) (name : List ℕ) (snap : Option (List ℕ)) (block : ℕ) (bytes : List ℕ) → MayLook k.disks name snap block bytes → IsMindful k
    → (es : List Event) → AllLooks name snap block bytes es → Looked k (es ++ [])
unfolding In
all_looked k name snap block bytes may mindful es all = looked k name snap block bytes may mindful (es ++ [])
    (λ e i. elim (in-append e es [] i) [ inl j ↦ all e j | inr j ↦ absurd j ])

-- nothing is looked at
pub nothing_looked : (this : ServerStep) (k : Plain) → Follow this.setting (rows_in this.setting (later_world this)) (later_world this) k → Looked k []
nothing_looked this k following = record { may = tt; disks = refl; mindful = following.stores.mindful; onward = onward_itself k }

module _ (this : ServerStep) where
  open ends_of this use {chosen, own, own_state}

  abbrev lines : List Line
  lines = this.setting.lines

  -- ### The answer to a read

  -- where the contents are as before, the machine has what the server shows
  module _ (cell : Cell) (r : IsReading this cell) (client seq epoch : ℕ) (k : IsKnownRead this.setting this.w this.n client seq cell epoch) where
    abbrev pub of : IsOfDisk this.setting this.w this.along.firm (this.w.servers this.n).log.applied
        (this.along.firm.servers this.n) lines client seq k.told cell epoch
        k.read
    of = of_disk this.setting this.w this.along.firm (this.w.servers this.n).log.applied
        (this.along.firm.servers this.n) lines client seq k.told cell epoch k.read

    now_disk : HasDisk this.setting.servers chosen (plain_now this.setting this.w this.along.firm) (disks_now this.setting this.w this.along.firm) cell
    now_disk = disk_here this.setting.servers chosen (plain_now this.setting this.w this.along.firm) (disks_now this.setting this.w this.along.firm) cell
        (now_low this cell r) (let high = now_high this cell r in omega arith)

    row_is : now_disk.row ≡ of.row
    row_is = same_disk this.setting this.w this.along.firm (this.w.servers this.n).log.applied (this.along.firm.servers this.n) lines client seq k.told cell
        epoch k.read of cell of.has now_disk

    pub row_has : has_map cell.map of.row ≡ true
    row_has = ap (λ (x : DiskRow). has_map cell.map x) (sym row_is) ∙ now_disk.has

    -- at an epoch above that of the disk by the server's own state a chain has the same entry
    pub same_chain : (other : Cell) → has_map other.map of.was ≡ true → (chain : Chain) → AreUpTo chain (epoch_at own_state other) → (e : ℕ)
        → IsAskedAt epoch k.read.snap e → entry_at chain e ≡ entry_at chain epoch
    same_chain other has chain up e (inl same) = ap (entry_at chain) same
    same_chain other has chain up e (inr h) =
        let at_own = own_epoch this.setting this.w this.along.firm (this.w.servers this.n).log.applied (this.along.firm.servers this.n) lines client seq k.told
        cell epoch k.read of other has h.0 in
        entry_later chain epoch e (subst (AreUpTo chain) at_own up) h.1

    pub same_above : (e : ℕ) → IsAskedAt epoch k.read.snap e → entry_at (chain_in own.store.chains cell) e ≡ entry_at (chain_in own.store.chains cell) epoch
    same_above = same_chain cell of.has (chain_in own.store.chains cell)
        (own_up_to (grounded this) this.n cell r.runs r.seat)

    pub read_content : (there : entry_at (chain_in own.store.chains cell) epoch ≡ None → coming own_state cell ≡ false) → (e : ℕ)
        → IsAskedAt epoch k.read.snap e
        → (was_has this of.row e k.read.block ≡ true) × (was_kept this of.row e k.read.block ≡ data_of this cell epoch)
    read_content there e asked =
        let same = same_above e asked in
        let x = shown this cell r of.row of.there row_has e (λ none. there (sym same ∙ none)) in
        subst (λ b. (was_has this of.row e b ≡ true) × (was_kept this of.row e b ≡ data_of this cell epoch)) of.block_is
        (x.0, x.1 ∙ ap bytes_of same)

  -- the contents after the step are those before it
  abbrev pub AreUnchanged : Type 0
  AreUnchanged = (row : DiskRow) → In row (rows_in this.setting this.w) → (b epoch : ℕ)
      → (was_has this row epoch b ≡ now_has this row epoch b) × (was_kept this row epoch b ≡ now_kept this row epoch b)

  -- the machine has a block's content, where it is this before the step
  pub look_may : chosen_log this.setting (later_world this) ≡ chosen_log this.setting this.w → AreUnchanged
      → (k : Plain) → Follow this.setting (rows_in this.setting (later_world this)) (later_world this) k
      → (row : DiskRow) → In row (rows_in this.setting this.w) → (epoch block : ℕ) (bytes : List ℕ) (snap : Option (List ℕ)) → AsksFor row epoch snap
      → ((e : ℕ) → IsAskedAt epoch snap e → (was_has this row e block ≡ true) × (was_kept this row e block ≡ bytes))
      → MayLook k.disks row.name snap block bytes
  look_may same calm k following row there epoch block bytes snap asks so =
      let there_now : In row (rows_in this.setting (later_world this)) =
      subst (λ (log : List Command). In row (state_after this.setting.servers log).disks.rows) (sym same) there in
      may_look k.disks row (now_has this row) (now_kept this row) (following.stores.known row there_now) epoch block bytes snap asks (λ e asked.
      let was = so e asked in
      let c = calm row there block e in
      (sym c.0 ∙ was.0, sym c.1 ∙ was.1))

  -- a server's answer to a read, which is all that the step sends
  pub show_told : (numbered : (one other : Line) → In one lines → In other lines → one.number ≡ other.number → one ≡ other)
      → (this.w.servers this.n).life.running ≡ true → (client seq : ℕ) (cell : Cell) (epoch : ℕ)
      → IsReadable (Handled this.w this.n) (own_place this.setting this.w this.n) own client seq cell epoch
      → (entry_at (chain_in own.store.chains cell) epoch ≡ None → coming own_state cell ≡ false)
      → (is_lead own_state this.n cell ≡ true → at cell_cmp own.pairs.pending cell ≡ None)
      → (letter : Letter) → letters this ≡ letter ∷ [] → letter.to ≡ actor.Client client → letter.body ≡ body.Data seq (data_of this cell epoch)
      → chosen_log this.setting (later_world this) ≡ chosen_log this.setting this.w → AreUnchanged
      → ((number : ℕ) → accepted this.later letter ≡ Some number → Accepts lines letter seq number)
      → LooksTold this
  show_told numbered runs client seq cell epoch readable there none letter all to says same calm accepts k following =
      let bytes = data_of this cell epoch in
      let v = later_world this in
      let old_is = reads_old_is (grounded this) this.n client seq cell epoch readable.asked in
      let looks_for = look_for lines (accepted this.later letter) bytes in
      subst (λ ls. Looked k (flat_map (look_here this) ls)) (sym all)
      (subst (λ (b : Body). Looked k (look_of this.setting this.w v (actor.Server this.n) this.later letter b ++ [])) (sym says)
      (by_bool (leaving own_state cell)
      (λ t. subst (λ es. Looked k (es ++ [])) (sym (ap (λ b. if b then [] else looks_for) (old_is ∙ t)))
      (nothing_looked this k following))
      (λ f.
      let r : IsReading this cell = record { runs = runs; seat = readable.seated; may = readable.readable; unheld = readable.unheld; idle = none; stays = f } in
      let known = known_read (grounded this) this.n client seq cell epoch readable.asked in
      let o = of cell r client seq epoch known in
      let may = look_may same calm k following o.row o.there epoch known.read.block bytes known.read.snap o.asks
      (read_content cell r client seq epoch known there) in
      subst (λ es. Looked k (es ++ [])) (sym (ap (λ b. if b then [] else looks_for) (old_is ∙ f)))
      (all_looked k o.row.name known.read.snap known.read.block bytes may following.stores.mindful looks_for
      (letter_looks lines numbered letter seq client o.row.name known.read.snap known.read.block bytes known.read.line to known.read.is
      (known.read.asks ∙ λ i. request.Read (sym o.name_is i) known.read.snap known.read.block) (accepted this.later letter) accepts)))))
