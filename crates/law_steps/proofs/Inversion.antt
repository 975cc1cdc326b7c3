-- What a server does with a job is one of the kinds that the relation names.
use Rattle.law_steps.proofs.Imports.{◌==◌, ◌≡◌, Actor, Body, Cell, IsSteady, Job, JobContext, JobResult, Letter, None, Option, PairState, Pending, Some}
use Rattle.law_steps.proofs.Imports.{at_other_rev, by_test, cell_of, copies_on, copying_on, does, goes_on, handles, has_proposed, is_from_in, is_in}
use Rattle.law_steps.proofs.Imports.{is_second, is_some, not, on_pair_full, on_replicate, on_replicated, on_reserve, on_reserved, pending_on, refl}
use Rattle.law_steps.proofs.Imports.{same_numbers, true, was_true, wrong_rev, ℕ}
use Rattle.law_steps.specs.Operations.{IsStaged}
use Rattle.law_steps.specs.Did.{Did, Ignores, Refuses}
use Rattle.law_steps.proofs.InvertRead.{did_read}
use Rattle.law_steps.proofs.InvertLead.{did_fill, did_next, did_write, did_reserved, did_pair_full, did_replicated}
use Rattle.law_steps.proofs.InvertFiller.{did_filled, did_fill_full}
use Rattle.law_steps.proofs.InvertSweep.{did_sweeps}
use Rattle.law_steps.proofs.InvertSecond.{did_reserve, did_replicate}
use Rattle.law_steps.proofs.InvertHolder.{did_copies, did_mends, did_hello, did_trimmed, did_synced, did_sync_full}
use Rattle.law_steps.proofs.InvertOther.{did_hello_ask, did_trim, did_trims, did_sync}
use Rattle.petal_msg.specs.declared.body.Body.TheVariants as body
use Rattle.petal_msg.specs.declared.letter.Actor.TheVariants as actor
use Rattle.spec_rules.specs.declared.job.Job.TheVariants as job

module _ (heard : Body → Type 0) (here : JobContext) (own : PairState) (steady : IsSteady here.state)
    (staged : (cell : Cell) (op : Pending) → pending_on own cell ≡ Some op → IsStaged here.state here.me (has_proposed here.state own) cell op) where
  abbrev D : JobResult → Type 0
  D done = Did heard here own done

  did_handle : is_in here.state here.me here.inc ≡ true → (said : Body) → heard said → D (handles here own said)
  unfolding handles on_reserve on_reserved on_pair_full on_replicate on_replicated
  did_handle seated (body.Read client seq cell epoch) h = did_read heard here own seated client seq cell epoch h
  did_handle seated (body.Write client seq cell epoch bytes) h =
      did_write heard here own steady staged (record { client = client; seq = seq; cell = cell; epoch = epoch; bytes = bytes }) h
  did_handle seated (body.Reserve number cell) h =
      by_test D (is_second here.state here.me cell) _ _ (λ s. did_reserve heard here own number cell _ h s refl) (λ t. Ignores)
  did_handle seated (body.Reserved number cell) h = did_reserved heard here own steady staged number cell _ h refl
  did_handle seated (body.PairFull number cell) h = did_pair_full heard here own steady staged number cell _ h refl
  did_handle seated (body.Replicate number key version origin bytes) h =
      by_test D (is_second here.state here.me (cell_of key)) _ _ (λ s. did_replicate heard here own number key version origin bytes _ h s refl) (λ t. Ignores)
  did_handle seated (body.Replicated number cell) h = did_replicated heard here own steady staged number cell _ h refl
  did_handle seated (body.HelloAsk map link after) h = did_hello_ask heard here own (record { map = map; link = link }) after h
  did_handle seated (body.Hello map link after block) h = did_hello heard here own (record { map = map; link = link }) after block h
  did_handle seated (body.Trim number cell epochs) h = did_trim heard here own number cell epochs h
  did_handle seated (body.Trimmed number cell) h = did_trimmed heard here own number cell h
  did_handle seated (body.Sync number key version index bytes) h =
      did_sync heard here own (record { op = number; key = key; index = index; stored = record { version = version; bytes = bytes } }) h
  did_handle seated (body.Synced number cell index) h = did_synced heard here own number cell index h
  did_handle seated (body.SyncFull number cell) h = did_sync_full heard here own number cell h
  did_handle seated (body.Fill key bytes) h = did_fill heard here own steady staged seated (record { key = key; bytes = bytes }) h
  did_handle seated (body.Filled key) h = did_filled heard here own seated key h
  did_handle seated (body.FillFull key) h = did_fill_full heard here own seated key h
  did_handle seated _ h = Ignores

  told_rev : (client : ℕ) (o : Option ℕ) → D (wrong_rev own client o)
  told_rev client None = Ignores
  told_rev client (Some seq) = Refuses (actor.Client client) (body.WrongRev seq) (record { refused = refl; other = refl })
      (λ k g. absurd (let f : body.WrongRev seq ≡ body.BlockBusy k = g in cc))
      (λ k g. absurd (let f : body.WrongRev seq ≡ body.Held k = g in cc))

  other_rev : (letter : Letter) (from : Actor) → D (at_other_rev own letter from)
  other_rev letter (actor.Server n) = Ignores
  other_rev letter (actor.Client c) = told_rev c _

  -- the job is a letter that is heard where it has the server's revision, or a stage
  abbrev pub IsHeard : Job → Type 0
  IsHeard (job.Letter letter) = letter.rev ≡ here.state.rev → heard letter.body
  IsHeard _ = Unit {0}

  pub did : (what : Job) → IsHeard what → D (does here own what)
  unfolding does goes_on copies_on
  did (job.Letter letter) h =
      by_test D (not (is_in here.state here.me here.inc)) _ _ (λ t. Ignores) (λ seat.
      by_test D (not (letter.rev == here.state.rev)) _ _ (λ t. other_rev letter letter.from) (λ same.
      by_test D (not (is_from_in here.state letter.inc letter.from)) _ _ (λ t. Ignores)
      (λ t. did_handle (was_true (is_in here.state here.me here.inc) seat) letter.body
      (h (same_numbers letter.rev here.state.rev (was_true (letter.rev == here.state.rev) same))))))
  did (job.Stage cell) h = by_test D (is_in here.state here.me here.inc) _ _
      (λ t. by_test D (is_some (pending_on own cell)) _ _ (λ s. did_next heard here own steady staged cell _ refl)
      (λ s. by_test D (is_some (copying_on own cell)) _ _ (λ u. did_copies heard here own cell (copying_on own cell) refl)
      (λ u. did_trims heard here own cell)))
      (λ t. Ignores)
  did (job.Repair link) h = by_test D (is_in here.state here.me here.inc) _ _ (λ t. did_mends heard here own link) (λ t. Ignores)
  did job.Sweep h = by_test D (is_in here.state here.me here.inc) _ _ (λ t. did_sweeps heard here own t) (λ t. Ignores)
  did job.Apply h = Ignores
  did job.Start h = Ignores
