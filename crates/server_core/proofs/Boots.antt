-- A boot is the rule's.
use Rattle.std.proofs.Common.{◌≡◌, ◌⊎◌, ◌≤◌, ◌<◌, ◌==◌, nat_lt, Ok, ℕ, ◌+◌, Bool, false, List, [], ◌∷◌, length, length-append}
use Rattle.std.proofs.Common.{if◌then◌else◌, inl, inr, refl, sym, ap, subst, ◌∙◌, arith}
use Rattle.std.proofs.lemmas.Bool.Decides.{nat_tests}
use Rattle.server_log.proofs.States.{rev_counts}
use Rattle.server_log.specs.Done.{HoldsAt}
use Rattle.server_log.specs.Part.{sender_of}
use Rattle.petal_command.specs.declared.command.Command.{Command}
use Rattle.petal_disk.specs.Disk.{LeavesOnly}
use Rattle.petal_disk.specs.declared.disk.Disk.{Ghosts}
use Rattle.petal_msg.specs.declared.letter.Actor.TheVariants as actor
use Rattle.petal_msg.specs.declared.letter.Letter.{Letter}
use Rattle.spec_paxos.specs.Kept.{committed, inc_of}
use Rattle.spec_paxos.specs.declared.record.StateRecord.{StateRecord}
use Rattle.spec_paxos.specs.declared.record.StateRecord.TheVariants.{Inc}
use Rattle.spec_rules.proofs.Applied.{servers_after}
use Rattle.spec_rules.specs.Boots.{awake, boots, known_prefix, raised, stays, wakes}
use Rattle.spec_rules.specs.Entries.{known_run}
use Rattle.spec_rules.specs.Jobs.{down_posts, has_full_log}
use Rattle.petal_base.specs.Limits.{journal_records}
use Rattle.spec_rules.specs.Log.{Log, first_log}
use Rattle.spec_rules.specs.World.{greatest_u32}
use Rattle.spec_rules.specs.Server.{JobContext, Sender, Server, letters_of}
use Rattle.spec_rules.specs.Store.{Store}
use Rattle.spec_rules.specs.declared.step.WorkEnd.TheVariants.{Done}
use Rattle.server_core.specs.Boots.{IsBoot, booted, raised_records, shut}
use Rattle.server_core.specs.ServerView.{ServerView, acted, here_in, server_of}
use Rattle.server_core.proofs.Rooms.{few_records}
use Rattle.server_core.proofs.Works.{few}
use Rattle.state_store.specs.Device.{Keeping, StandsForEither, WithOrWithout}

-- a record of a greater incarnation is needed
raised_adds : (records : List StateRecord) (inc : ℕ) → inc ≡ inc_of records → committed records (Inc (inc + 1)) ≡ raised_records records
raised_adds records inc is =
    let other : (inc_of records == inc + 1) ≡ false = grind (arith, nat_tests) in
    rw (other, is) refl

pub raised_count : (records : List StateRecord) → length (raised_records records) ≡ length records + 1
raised_count records = length-append records (Inc (inc_of records + 1) ∷ [])

module _ (old : ServerView) (store : Store) (before : List StateRecord) (known : old.log.voter.inc ≡ inc_of before) where
  abbrev was : Server
  was = server_of old store before

  abbrev at : JobContext
  at = here_in old

  pub raised_are : (raised was).log.records ≡ raised_records before
  raised_are = raised_adds before old.log.voter.inc known

  -- there is room
  pub room : length (raised_records before) ≤ journal_records → has_full_log (raised was) ≡ false
  room few_log = rw raised_are (few journal_records (length (raised_records before)) few_log)

  chosen : (full : Bool) → has_full_log (raised was) ≡ full → boots at was Done ≡ (if full then stays was else wakes at (awake (raised was)))
  chosen full is = ap (λ (b : Bool). if b then stays was else wakes at (awake (raised was))) is

  -- the server that runs, and its letters, are the rule's
  pub woken : (new : ServerView) (after : List StateRecord) (letters : List Letter) (count : ℕ)
      → after ≡ raised_records before → count ≡ length after
      → ((log : Log) → log.records ≡ after → new ≡ booted old.log.voter (known_run log 1 count))
      → letters ≡ letters_of (sender_of new.log) 0 (down_posts old.log.voter.me old.log.voter.inc old.log.voter.servers)
      → length after ≤ journal_records
      → acted new (shut store) after letters ≡ boots at was Done
  woken new after letters count made counted is sent few_log =
      let records : (raised was).log.records ≡ after = raised_are ∙ sym made in
      let applied : known_run (raised was).log 1 count ≡ known_prefix (raised was).log
      = ap (λ (n : ℕ). known_run (raised was).log 1 n) (counted ∙ ap (λ (rs : List StateRecord). length rs) (sym records)) in
      let core : new ≡ booted old.log.voter (known_prefix (raised was).log)
      = is (raised was).log records ∙ ap (λ (entries : List Command). booted old.log.voter entries) applied in
      let fits : length (raised_records before) ≤ journal_records = subst (λ (rs : List StateRecord). length rs ≤ journal_records) made few_log in
      let who : sender_of new.log ≡ record { from = actor.Server old.log.voter.me; inc = old.log.voter.inc + 1; rev = length (known_prefix (raised was).log) }
      = ap (λ (it : ServerView). sender_of it.log) core
      ∙ ap (λ (rev : ℕ). record { from = actor.Server old.log.voter.me; inc = old.log.voter.inc + 1; rev = rev })
      (rev_counts old.log.voter.servers (known_prefix (raised was).log)) in
      let observed : letters ≡ (wakes at (awake (raised was))).letters
      = sent ∙ ap (λ (from : Sender). letters_of from 0 (down_posts old.log.voter.me old.log.voter.inc old.log.voter.servers)) who
      ∙ ap (λ (n : ℕ). letters_of (record { from = actor.Server old.log.voter.me; inc = old.log.voter.inc + 1; rev = length (known_prefix (raised was).log) }) 0
      (down_posts old.log.voter.me old.log.voter.inc n)) (sym (servers_after old.log.voter.servers old.log.applied)) in
      (λ i. acted (core i) (shut store) (sym records i) (observed i))
      ∙ sym (chosen false (room fits))

-- what a crash leaves, by how many records there are
pub with_or_without : {D : Type 0} (device : Ghosts D) (old new : D) (records : List StateRecord)
    → LeavesOnly device.moment device.left_since old new (λ c. WithOrWithout c records (Inc (inc_of records + 1)))
    → LeavesOnly device.moment device.left_since old new (StandsForEither records (raised_records records))
with_or_without device old new records left = record {
  later = left.later;
  each = λ c since. either c (left.each c since);
  before = λ t c within since. earlier t c (left.before t c within since);
}
  where
    either : (c : List ℕ) → WithOrWithout c records (Inc (inc_of records + 1)) → StandsForEither records (raised_records records) c
    either c (inl without) = inl without
    either c (inr with) = inr (with, raised_count records)

    earlier : (t : ℕ) (c : List ℕ) → device.left_since old t c ⊎ WithOrWithout c records (Inc (inc_of records + 1))
        → device.left_since old t c ⊎ StandsForEither records (raised_records records) c
    earlier t c (inl since) = inl since
    earlier t c (inr now) = inr (either c now)

-- the incarnation is raised, as it can be
pub raised_as : (records : List StateRecord) → inc_of records < greatest_u32
    → (if inc_of records == 4294967295 then records else raised_records records) ≡ raised_records records
raised_as records less = let other : (inc_of records == 4294967295) ≡ false = grind (arith, nat_tests) in rw other refl

module _ {D : Type 0} (device : Ghosts D) (old : ServerView) (before : Keeping D) (known : old.log.voter.inc ≡ inc_of before.records) where
  -- what a crash within the call that raises the incarnation leaves
  abbrev Leaves : Keeping D → Type 0
  Leaves after = device.observable → HoldsAt device before
      → LeavesOnly device.moment device.left_since before.disk after.disk (λ c. WithOrWithout c before.records (Inc (inc_of before.records + 1)))

  -- the server runs
  pub booted_done : (new : ServerView) (after : Keeping D) (letters : List Letter) → after.records ≡ raised_records before.records
      → ((log : Log) → log.records ≡ after.records → new ≡ booted old.log.voter (known_run log 1 after.region.count))
      → letters ≡ letters_of (sender_of new.log) 0 (down_posts old.log.voter.me old.log.voter.inc old.log.voter.servers)
      → (device.observable → HoldsAt device before → HoldsAt device after)
      → Leaves after → device.faults before.disk ≤ device.faults after.disk → device.came_to before.disk after.disk
      → IsBoot device old new before after (Ok letters)
  booted_done new after letters made is sent holds left later run =
      let core = is (record first_log { records = after.records }) refl in
      record {
        step = λ observed held store.
            let after_holds = holds observed held in
            woken old store before.records known new after.records letters after.region.count made after_holds.count is sent
            (few_records device after after_holds);
        runs = ap (λ (it : ServerView). it.running) core;
        voter = ap (λ (it : ServerView). it.log.voter) core;
        side = ap (λ (it : ServerView). it.side) core;
        raised = made;
        holds = holds;
        moments = λ observed held. with_or_without device before.disk after.disk before.records (left observed held);
        same = tt;
        kept = λ no. absurd (cc);
        full = λ no. absurd (cc);
        cause = record { later = later; failed = λ no. absurd (cc) };
        run = run;
      }
