-- What a job of each subject leaves as it is: a law that does not speak of the subject goes by this alone.
use Rattle.law_steps.proofs.Imports.{[], ◌∙◌, ◌≡◌, ◌⊎◌, Action, Body, Busy, Cell, Copies, Ending, Filling, FollowProgress, Full, In, Job, JobContext}
use Rattle.law_steps.proofs.Imports.{JobResult, Letter, LinkRow, List, None, OpKind, Option, PairState, Paired, Pending, Post, Some, Stale, State, Written}
use Rattle.law_steps.proofs.Imports.{acts, ap, at, by_test, cell_cmp, cell_link, ends, false, gives_back, has_proposed, id_of, inl, inr, link_cmp, next_stage}
use Rattle.law_steps.proofs.Imports.{no_progress, option_map_or, progress_on, refl, subject_of, subst, sym, tells, unwrap_or, without_pending, ℕ}
use Rattle.law_steps.specs.Ready.{IsRising}
use Rattle.law_steps.specs.DidRead.{DidRead, Not_here, Shows}
use Rattle.law_steps.specs.DidLead.{DidLead, Repeats, Marks, Puts, Gives_up, Closes, Opens_alone, Marks_alone, Puts_alone, Unmarks_alone, Closes_alone}
use Rattle.law_steps.specs.DidLead.{Opens_fill_alone, Goes_on_retired, Taken}
use Rattle.law_steps.specs.DidSecond.{DidSecond, Sets_apart, Promises, Declines, Follows}
use Rattle.law_steps.specs.DidFiller.{DidFiller, Is_filled, Is_out_of_slots}
use Rattle.law_steps.specs.DidSweep.{DidSweep, Sweeps}
use Rattle.law_steps.specs.Did.{Did, Ignores, Refuses, By_read, By_lead, By_second, By_holder, By_other, By_filler, By_sweep}
use Rattle.law_steps.proofs.CopyFrames.{of_holder, of_other}
use Rattle.law_steps.proofs.Letters.{one_post, posted}
use Rattle.law_steps.proofs.TakenUpAlone.{taking}
use Rattle.petal_msg.specs.declared.body.Body.TheVariants as body
use Rattle.petal_msg.specs.declared.operation.FollowProgress.TheVariants as follow_progress
use Rattle.petal_msg.specs.declared.operation.Action.TheVariants as action
use Rattle.petal_msg.specs.declared.operation.OpKind.TheVariants as kind
use Rattle.spec_rules.specs.declared.job.Job.TheVariants as job

-- the letter is a read's answer
pub record HasData (post : Post) : Type 0 where
  pub seq : ℕ
  pub bytes : List ℕ
  pub is : post.body ≡ body.Data seq bytes

-- the letter tells a read that the new map has nothing
pub record HasNothing (post : Post) : Type 0 where
  pub seq : ℕ
  pub is : post.body ≡ body.NotHere seq

-- a read's job leaves the server's own part, and sends nothing but data, or that there is nothing
pub record ReadFrame (own : PairState) (done : JobResult) : Type 0 where
  pub same : done.own ≡ own
  pub no_jobs : done.jobs ≡ []
  pub says : (post : Post) → In post done.posts → HasData post ⊎ HasNothing post

-- a second server's job leaves what the server remembers as a lead, and speaks to the lead of the pair alone
pub record SecondFrame (own : PairState) (done : JobResult) : Type 0 where
  pub pending : done.own.pairs.pending ≡ own.pairs.pending
  pub next : done.own.pairs.next ≡ own.pairs.next
  pub finished : done.own.pairs.finished ≡ own.pairs.finished
  pub copies : done.own.copies ≡ own.copies
  pub no_jobs : done.jobs ≡ []
  pub says : (post : Post) → In post done.posts → subject_of post.body ≡ Paired

-- a lead's job leaves what the server remembers as a second server, and no letter follows it up
pub record LeadFrame (own : PairState) (done : JobResult) : Type 0 where
  pub last : done.own.pairs.last ≡ own.pairs.last
  pub copies : done.own.copies ≡ own.copies
  pub no_letters : (letter : Letter) → In (job.Letter letter) done.jobs → ⊥

-- the job of a lead of a link of an old map leaves its pairs and store, and of copies whether one found no slot alone may change; it speaks
-- of entries that move
pub record FillerFrame (own : PairState) (done : JobResult) : Type 0 where
  pub pairs : done.own.pairs ≡ own.pairs
  pub store : done.own.store ≡ own.store
  pub progress : done.own.copies.progress ≡ own.copies.progress
  pub pending : done.own.copies.pending ≡ own.copies.pending
  pub last : done.own.copies.last ≡ own.copies.last
  pub no_jobs : done.jobs ≡ []
  pub says : (post : Post) → In post done.posts → subject_of post.body ≡ Filling

-- a sweep changes the store alone, and says nothing
pub record SweepFrame (own : PairState) (done : JobResult) : Type 0 where
  pub pairs : done.own.pairs ≡ own.pairs
  pub copies : done.own.copies ≡ own.copies
  pub filled : done.own.filled ≡ own.filled
  pub no_letters : (letter : Letter) → In (job.Letter letter) done.jobs → ⊥
  pub silent : (post : Post) → In post done.posts → ⊥

-- what ends an operation changes at most which requests are finished
pub record EndsFrame (own : PairState) (done : JobResult) : Type 0 where
  pub pending : done.own.pairs.pending ≡ own.pairs.pending
  pub last : done.own.pairs.last ≡ own.pairs.last
  pub next : done.own.pairs.next ≡ own.pairs.next
  pub copies : done.own.copies ≡ own.copies
  pub filled : done.own.filled ≡ own.filled
  pub store : done.own.store ≡ own.store
  pub no_jobs : done.jobs ≡ []

-- of each job: copies under way stand in the order of their cells; it starts no ballot for a Caught, and forgets none; and what follows it
-- up is a stage, and no letter
pub record DidFrame (own : PairState) (done : JobResult) : Type 0 where
  pub rises : IsRising cell_cmp own.copies.pending → IsRising cell_cmp done.own.copies.pending
  pub caught : (row : LinkRow) → (progress_on done.own row).caught ≡ (progress_on own row).caught
  pub no_letters : (letter : Letter) → In (job.Letter letter) done.jobs → ⊥

pub of_ending : (here : JobContext) (own : PairState) (op : Pending) (of : OpKind) (how : Ending) → EndsFrame own (ends here own op of how)
of_ending here own op kind.Write how = record { pending = refl; last = refl; next = refl; copies = refl; filled = refl; store = refl; no_jobs = refl }
of_ending here own op kind.Fill how = record { pending = refl; last = refl; next = refl; copies = refl; filled = refl; store = refl; no_jobs = refl }
of_ending here own op kind.Copy how = record { pending = refl; last = refl; next = refl; copies = refl; filled = refl; store = refl; no_jobs = refl }

-- an end's job brings no letter
no_ending : (done : JobResult) → done.jobs ≡ [] → (letter : Letter) → In (job.Letter letter) done.jobs → ⊥
unfolding In
no_ending done e letter i = let none : In (job.Letter letter) [] = subst (λ (jobs : List Job). In (job.Letter letter) jobs) e i in none

ends_frame : (here : JobContext) (own : PairState) (op : Pending) (of : OpKind) (how : Ending) → LeadFrame own (ends here own op of how)
ends_frame here own op of how =
    let f = of_ending here own op of how in
    record { last = f.last; copies = f.copies; no_letters = no_ending (ends here own op of how) f.no_jobs }

-- where the job took the operation up first, or removed it
frame_on : (own now : PairState) (done : JobResult) → now.pairs.last ≡ own.pairs.last → now.copies ≡ own.copies → LeadFrame now done → LeadFrame own done
frame_on own now done last copies f = record { last = f.last ∙ last; copies = f.copies ∙ copies; no_letters = f.no_letters }

-- whatever an operation does next
pub acts_frame : (here : JobContext) (own : PairState) (op : Pending) (next : Action) → LeadFrame own (acts here own op next)
unfolding In
acts_frame here own op action.Reserve = record { last = refl; copies = refl; no_letters = λ letter i. i }
acts_frame here own op (action.Mark which) = record { last = refl; copies = refl; no_letters = λ letter i. elim i [ inl e ↦ cc | inr none ↦ none ] }
acts_frame here own op action.Put = record { last = refl; copies = refl; no_letters = λ letter i. elim i [ inl e ↦ cc | inr none ↦ none ] }
acts_frame here own op action.Replicate = record { last = refl; copies = refl; no_letters = λ letter i. i }
acts_frame here own op (action.Unmark which) = record { last = refl; copies = refl; no_letters = λ letter i. elim i [ inl e ↦ cc | inr none ↦ none ] }
acts_frame here own op action.Answer =
    frame_on own (without_pending own op.cell) _ refl refl (ends_frame here (without_pending own op.cell) op op.kind Written)
acts_frame here own op action.Drop = record {
  last = by_test (λ (o : PairState). o.pairs.last ≡ own.pairs.last) op.stage.put (without_pending own op.cell)
      (gives_back (without_pending own op.cell)) (λ t. refl) (λ t. refl);
  copies = by_test (λ (o : PairState). o.copies ≡ own.copies) op.stage.put (without_pending own op.cell)
      (gives_back (without_pending own op.cell)) (λ t. refl) (λ t. refl);
  no_letters = λ letter i. i;
}

module _ (heard : Body → Type 0) (here : JobContext) (own : PairState) where
  pub of_read : (done : JobResult) → DidRead heard here own done → ReadFrame own done
  of_read _ (Shows client seq cell epoch may there) = record {
    same = refl;
    no_jobs = refl;
    says = λ post i. inl (record { seq = seq; bytes = _; is = (one_post _ _ post i).1 });
  }
  of_read _ (Not_here client seq cell epoch may coming none) = record {
    same = refl;
    no_jobs = refl;
    says = λ post i. inr (record { seq = seq; is = (one_post _ _ post i).1 });
  }

  taken_frame : (now : PairState) (op : Pending) → Taken own now op → (next : Action) → LeadFrame own (acts here now op next)
  taken_frame now op taken next =
      frame_on own now (acts here now op next) (taking own now op taken).last (taking own now op taken).copies (acts_frame here now op next)

  pub of_lead : (done : JobResult) → DidLead heard here own done → LeadFrame own done
  unfolding In
  of_lead _ (Repeats want last h lead is e) = record { last = refl; copies = refl; no_letters = λ letter i. i }
  of_lead _ (Gives_up op h is reserved put) =
      frame_on own (gives_back (without_pending own op.cell)) _ refl refl (ends_frame here (gives_back (without_pending own op.cell)) op op.kind Full)
  of_lead _ (Marks op h is both stage) = record { last = refl; copies = refl; no_letters = λ letter i. elim i [ inl e ↦ cc | inr none ↦ none ] }
  of_lead _ (Puts op is both stage) = record { last = refl; copies = refl; no_letters = λ letter i. elim i [ inl e ↦ cc | inr none ↦ none ] }
  of_lead _ (Closes op h is both stage) =
      frame_on own (without_pending own op.cell) _ refl refl (ends_frame here (without_pending own op.cell) op op.kind Written)
  of_lead _ (Opens_alone want new alone) = record { last = refl; copies = refl; no_letters = λ letter i. elim i [ inl e ↦ cc | inr none ↦ none ] }
  of_lead _ (Marks_alone now op taken alone fresh) = taken_frame now op taken (action.Mark Stale)
  of_lead _ (Puts_alone now op taken alone stale put) = taken_frame now op taken action.Put
  of_lead _ (Unmarks_alone now op taken alone stale put busy) = taken_frame now op taken (action.Unmark Busy)
  of_lead _ (Closes_alone now op taken alone stale put free) = taken_frame now op taken action.Answer
  of_lead _ (Opens_fill_alone moving new room alone) =
      record { last = refl; copies = refl; no_letters = λ letter i. elim i [ inl e ↦ cc | inr none ↦ none ] }
  of_lead _ (Goes_on_retired now op taken off) = taken_frame now op taken (next_stage here.state here.me op)
  of_lead _ _ = record { last = refl; copies = refl; no_letters = λ letter i. i }

  -- what a second server tells the lead
  told : (new : PairState) (cell : Cell) (number : ℕ) (how : FollowProgress) → new.pairs.pending ≡ own.pairs.pending → new.pairs.next ≡ own.pairs.next
      → new.pairs.finished ≡ own.pairs.finished → new.copies ≡ own.copies
      → SecondFrame own (tells here new cell number how)
  told new cell number follow_progress.Reserved pending next finished copies =
      record { pending = pending; next = next; finished = finished; copies = copies; no_jobs = refl; says = λ post i. ap subject_of (posted _ _ post i) }
  told new cell number follow_progress.Replicated pending next finished copies =
      record { pending = pending; next = next; finished = finished; copies = copies; no_jobs = refl; says = λ post i. ap subject_of (posted _ _ post i) }

  pub of_second : (done : JobResult) → DidSecond heard here own done → SecondFrame own done
  of_second _ (Sets_apart number cell tickets h s le) = told _ cell number follow_progress.Reserved refl refl refl refl
  of_second _ (Promises number cell how s is) = told own cell number how refl refl refl refl
  of_second _ (Declines number cell h s no_room) =
      record { pending = refl; next = refl; finished = refl; copies = refl; no_jobs = refl; says = λ post i. ap subject_of (posted _ _ post i) }
  of_second _ (Follows number key version origin bytes h s is) = told _ _ number follow_progress.Replicated refl refl refl refl

  filled : (to : PairState) (posts : List Post) → to.pairs ≡ own.pairs → to.store ≡ own.store → to.copies.progress ≡ own.copies.progress
      → to.copies.pending ≡ own.copies.pending → to.copies.last ≡ own.copies.last
      → ((post : Post) → In post posts → subject_of post.body ≡ Filling) → FillerFrame own (record { own = to; posts = posts; jobs = [] })
  filled to posts pairs store progress pending last says =
      record { pairs = pairs; store = store; progress = progress; pending = pending; last = last; no_jobs = refl; says = says }

  pub of_filler : (done : JobResult) → DidFiller heard here own done → FillerFrame own done
  unfolding In
  of_filler _ (Is_filled key row posts h next fills) =
      filled _ posts refl refl refl refl refl (λ post i. ap (λ (p : Post). subject_of p.body) (fills post i).is)
  of_filler _ (Is_out_of_slots key row h next) = filled _ [] refl refl refl refl refl (λ post i. absurd i)

  pub of_sweep : (done : JobResult) → DidSweep here own done → SweepFrame own done
  unfolding In
  of_sweep _ (Sweeps what seated next off) = record {
    pairs = refl;
    copies = refl;
    filled = refl;
    no_letters = λ letter i. elim i [ inl e ↦ cc | inr none ↦ none ];
    silent = λ post i. i;
  }

  same_copies : (done : JobResult) → done.own.copies ≡ own.copies → ((letter : Letter) → In (job.Letter letter) done.jobs → ⊥) → DidFrame own done
  same_copies done same none = record {
    rises = λ h. subst (λ (c : Copies). IsRising cell_cmp c.pending) (sym same) h;
    caught = λ row. ap (λ (c : Copies). (unwrap_or (at link_cmp c.progress (id_of row)) no_progress).caught) same;
    no_letters = none;
  }

  pub of_did : (done : JobResult) → Did heard here own done → DidFrame own done
  unfolding In
  of_did _ Ignores = same_copies _ refl (λ letter i. i)
  of_did _ (Refuses to said is busy held) = same_copies _ refl (λ letter i. i)
  of_did _ (By_read done d) = let f = of_read done d in same_copies done (ap (λ (o : PairState). o.copies) f.same) (no_ending done f.no_jobs)
  of_did _ (By_lead done d) = let f = of_lead done d in same_copies done f.copies f.no_letters
  of_did _ (By_second done d) = let f = of_second done d in same_copies done f.copies (no_ending done f.no_jobs)
  of_did _ (By_holder done d) = let f = of_holder heard here own done d in record { rises = f.rises; caught = f.caught; no_letters = f.no_letters }
  of_did _ (By_other done d) = let f = of_other heard here own done d in record { rises = f.rises; caught = f.caught; no_letters = f.no_letters }
  of_did _ (By_filler done d) =
      let f = of_filler done d in
      record {
        rises = λ h. subst (IsRising cell_cmp) (sym f.pending) h;
        caught = λ row. ap (λ t. (unwrap_or (at link_cmp t (id_of row)) no_progress).caught) f.progress;
        no_letters = no_ending done f.no_jobs;
      }
  of_did _ (By_sweep done d) = let f = of_sweep done d in same_copies done f.copies f.no_letters

  pub unheld_stays : (done : JobResult) → Did heard here own done → (state : State) (cell : Cell) → has_proposed state own cell ≡ false
      → has_proposed state done.own cell ≡ false
  unheld_stays done did state cell e = by (cell_link state cell) ∙ e
    where
      by : (o : Option LinkRow) → option_map_or (λ row. (progress_on done.own row).caught) o false ≡ option_map_or (λ row. (progress_on own row).caught) o false
      by None = refl
      by (Some row) = (of_did done did).caught row
