-- What a job of copies leaves as it is: what the server remembers of writes, but that its numbers go on; and it speaks of copies alone.
use Rattle.law_steps.proofs.Imports.{◌∙◌, ◌≡◌, ◌≤◌, Body, Cell, Copied, Copying, In, JobContext, JobResult, LastCopy, Letter, LinkRow, None, Option, PairState}
use Rattle.law_steps.proofs.Imports.{Pairs, Post, Progress, Some, above, ap, arith, begins_copy, by_test, caught_put, cell_cmp, cell_cmp_total, cell_link}
use Rattle.law_steps.proofs.Imports.{cell_of, chain_in, epochs_of, key_at, mends_only, no_letter, no_posts, only_mend, only_stage, page_wanted, progress_on}
use Rattle.law_steps.proofs.Imports.{refl, subject_of, subst, sym, true, with_copied, with_last_copy, with_page, with_progress, without_copying, ℕ}
use Rattle.law_steps.specs.Ready.{IsRising}
use Rattle.law_steps.proofs.TablesOfPuts.{put_rises, without_rises}
use Rattle.law_steps.specs.DidHolder.{DidHolder, CopyStep, Asks_to_trim, Sends, Unmarks_copied, Closes_copy, TakenCopy, Copy_as_is, Copy_trimmed, Copy_synced}
use Rattle.law_steps.specs.DidHolder.{Asks_page, Turns_page, Begins_copy, Goes_on_copying, Finds_it_full, Tidies}
use Rattle.law_steps.specs.DidOther.{OtherReply, Replies, DidOther, first_last, TrimStep, Is_trimmed, Drops_entry, Answers_page, Is_copied_to}
use Rattle.law_steps.specs.DidOther.{Goes_on_trimming, Puts_entry}
use Rattle.law_steps.proofs.Letters.{posted}
use Rattle.petal_msg.specs.declared.body.Body.TheVariants as body
use Rattle.spec_rules.specs.declared.job.Job.TheVariants as job

pub record CopyFrame (own : PairState) (done : JobResult) : Type 0 where
  pub pending : done.own.pairs.pending ≡ own.pairs.pending
  pub finished : done.own.pairs.finished ≡ own.pairs.finished
  pub last : done.own.pairs.last ≡ own.pairs.last
  pub next : own.pairs.next ≤ done.own.pairs.next
  pub rises : IsRising cell_cmp own.copies.pending → IsRising cell_cmp done.own.copies.pending
  pub caught : (row : LinkRow) → (progress_on done.own row).caught ≡ (progress_on own row).caught
  pub says : (post : Post) → In post done.posts → subject_of post.body ≡ Copied
  pub no_letters : (letter : Letter) → In (job.Letter letter) done.jobs → ⊥

-- the pairs stay
abbrev same : (own : PairState) (done : JobResult) → done.own.pairs ≡ own.pairs
    → ((row : LinkRow) → (progress_on done.own row).caught ≡ (progress_on own row).caught)
    → (IsRising cell_cmp own.copies.pending → IsRising cell_cmp done.own.copies.pending)
    → ((post : Post) → In post done.posts → subject_of post.body ≡ Copied)
    → ((letter : Letter) → In (job.Letter letter) done.jobs → ⊥) → CopyFrame own done
same own done e caught rises says none = record {
  pending = ap (λ (p : Pairs). p.pending) e;
  finished = ap (λ (p : Pairs). p.finished) e;
  last = ap (λ (p : Pairs). p.last) e;
  next = (let f = ap (λ (p : Pairs). p.next) e in omega arith);
  rises = rises;
  caught = caught;
  says = says;
  no_letters = none;
}

-- what a link's progress does not change, a block that is copied leaves
pub copied_same : {X : Type 0} (f : PairState → X) (row : Option LinkRow) (own : PairState) (block : ℕ)
    → ((r : LinkRow) (p : Progress) → f (with_progress own r p) ≡ f own) → f (with_copied row own block) ≡ f own
copied_same f None own block same = refl
copied_same f (Some row) own block same = by_test (λ (left : PairState). f left ≡ f own) (above (progress_on own row).copied block)
    (with_progress own row (record (progress_on own row) { copied = Some block })) own (λ t. same row (record (progress_on own row) { copied = Some block }))
    (λ t. refl)

copied_pairs : (row : Option LinkRow) (own : PairState) (block : ℕ) → (with_copied row own block).pairs ≡ own.pairs
copied_pairs row own block = copied_same (λ o. o.pairs) row own block (λ r p. refl)

page_pairs : (own : PairState) (row : LinkRow) (before : Progress) (block : Option ℕ) → (with_page own row before block).pairs ≡ own.pairs
page_pairs own row before None = refl
page_pairs own row before (Some block) = refl

copied_pending : (row : Option LinkRow) (own : PairState) (block : ℕ) → (with_copied row own block).copies.pending ≡ own.copies.pending
copied_pending row own block = copied_same (λ o. o.copies.pending) row own block (λ r p. refl)

page_pending : (own : PairState) (row : LinkRow) (before : Progress) (block : Option ℕ) → (with_page own row before block).copies.pending ≡ own.copies.pending
page_pending own row before None = refl
page_pending own row before (Some block) = refl

copied_caught : (row : Option LinkRow) (own : PairState) (block : ℕ) (other : LinkRow)
    → (progress_on (with_copied row own block) other).caught ≡ (progress_on own other).caught
copied_caught None own block other = refl
copied_caught (Some row) own block other =
    by_test (λ (left : PairState). (progress_on left other).caught ≡ (progress_on own other).caught) (above (progress_on own row).copied block)
    (with_progress own row (record (progress_on own row) { copied = Some block })) own
    (λ t. caught_put own row (record (progress_on own row) { copied = Some block }) other refl) (λ t. refl)

page_caught : (own : PairState) (row : LinkRow) (block : Option ℕ) (other : LinkRow)
    → (progress_on (with_page own row (progress_on own row) block) other).caught ≡ (progress_on own other).caught
page_caught own row None other = caught_put own row (record (progress_on own row) { paged = true }) other refl
page_caught own row (Some block) other = caught_put own row (record (progress_on own row) { after = Some block }) other refl

-- where the copy was changed first
frame_from : (own now : PairState) (done : JobResult) → now.pairs.pending ≡ own.pairs.pending → now.pairs.finished ≡ own.pairs.finished
    → now.pairs.last ≡ own.pairs.last
    → own.pairs.next ≤ now.pairs.next → (IsRising cell_cmp own.copies.pending → IsRising cell_cmp now.copies.pending)
    → ((row : LinkRow) → (progress_on now row).caught ≡ (progress_on own row).caught) → CopyFrame now done → CopyFrame own done
frame_from own now done pending finished last le rises caught f = record {
  pending = f.pending ∙ pending;
  finished = f.finished ∙ finished;
  last = f.last ∙ last;
  next = (let more = f.next in omega arith);
  rises = λ h. f.rises (rises h);
  caught = λ row. f.caught row ∙ caught row;
  says = f.says;
  no_letters = f.no_letters;
}

step_frame : (here : JobContext) (own : PairState) (cell : Cell) (copy : Copying) (done : JobResult) → CopyStep here own cell copy done → CopyFrame own done
step_frame here own cell copy _ (Asks_to_trim fresh) = same own _ refl (λ r. refl) (λ h. h)
    (λ post i. ap subject_of (posted _ (body.Trim copy.op cell (epochs_of (chain_in own.store.chains cell))) post i)) no_letter
step_frame here own cell copy _ (Sends row trimmed is) = same own _ refl (λ r. refl) (λ h. h)
    (λ post i. ap subject_of (posted _ (body.Sync copy.op (key_at cell row.0) row.1.version copy.index row.1.bytes) post i)) no_letter
step_frame here own cell copy _ (Unmarks_copied kind synced left) = same own _ refl (λ r. refl) (λ h. h)
    (λ post i. no_posts post i) (λ letter. only_stage letter cell)
step_frame here own cell copy _ (Closes_copy synced left) =
    same own _ (copied_pairs (cell_link here.state cell) (without_copying own cell) cell.block)
    (copied_caught (cell_link here.state cell) (without_copying own cell) cell.block)
    (λ h. subst (IsRising cell_cmp) (sym (copied_pending (cell_link here.state cell) (without_copying own cell) cell.block))
    (without_rises cell_cmp own.copies.pending cell h))
    (λ post i. no_posts post i) (mends_only (cell_link here.state cell))

taken_frame : (heard : Body → Type 0) (own : PairState) (cell : Cell) (now : PairState) (copy : Copying) (done : JobResult)
    → TakenCopy heard own cell now copy → CopyFrame now done
    → CopyFrame own done
taken_frame heard own cell now copy done (Copy_as_is _ is) f = f
taken_frame heard own cell now copy done (Copy_trimmed old h is fresh) f =
    frame_from own now done refl refl refl (omega arith) (λ r. put_rises cell_cmp_total own.copies.pending cell _ r) (λ row. refl) f
taken_frame heard own cell now copy done (Copy_synced old h is trimmed lt) f =
    frame_from own now done refl refl refl (omega arith) (λ r. put_rises cell_cmp_total own.copies.pending cell _ r) (λ row. refl) f

pub of_holder : (heard : Body → Type 0) (here : JobContext) (own : PairState) (done : JobResult) → DidHolder heard here own done → CopyFrame own done
of_holder heard here own _ (Asks_page id row other held fresh) = same own _ refl (λ r. refl) (λ h. h)
    (λ post i. ap subject_of (posted (Some other) (page_wanted own row) post i)) no_letter
of_holder heard here own _ (Turns_page id row other after block h held fresh at) =
    same own _ (page_pairs own row (progress_on own row) block) (page_caught own row block)
    (λ h. subst (IsRising cell_cmp) (sym (page_pending own row (progress_on own row) block)) h)
    (λ post i. no_posts post i) (λ letter. only_mend letter _)
of_holder heard here own done (Begins_copy id row other cell _ held next step) =
    frame_from own (begins_copy own cell) done refl refl refl (omega arith) (λ r. put_rises cell_cmp_total own.copies.pending cell _ r) (λ row. refl)
    (step_frame here (begins_copy own cell) cell _ done step)
of_holder heard here own done (Goes_on_copying cell now copy _ taken step) =
    taken_frame heard own cell now copy done taken (step_frame here now cell copy done step)
of_holder heard here own _ (Finds_it_full cell copy h is trimmed lt) = same own _ refl (λ r. refl) (λ h. without_rises cell_cmp own.copies.pending cell h)
    (λ post i. no_posts post i) no_letter
of_holder heard here own _ (Tidies id row kind cells is both idle) = same own _ refl (λ r. refl) (λ h. h)
    (λ post i. no_posts post i) (λ letter. only_mend letter _)

trim_frame : (own : PairState) (cell : Cell) (last : LastCopy) (holder : ℕ) (done : JobResult) → TrimStep own cell last holder done → CopyFrame own done
trim_frame own cell last holder _ (Is_trimmed none) = same own _ refl (λ r. refl) (λ h. h)
    (λ post i. ap subject_of (posted (Some holder) (body.Trimmed last.op cell) post i)) no_letter
trim_frame own cell last holder _ (Drops_entry epoch epochs is) = same own _ refl (λ r. refl) (λ h. h)
    (λ post i. no_posts post i) (λ letter. only_stage letter cell)

-- what it answers is of copies
reply_copied : (heard : Body → Type 0) (here : JobContext) (own : PairState) (to : Option ℕ) (said : Body) → OtherReply heard here own to said
    → subject_of said ≡ Copied
reply_copied heard here own _ _ (Answers_page id row after h is) = refl
reply_copied heard here own _ _ _ = refl

pub of_other : (heard : Body → Type 0) (here : JobContext) (own : PairState) (done : JobResult) → DidOther heard here own done → CopyFrame own done
of_other heard here own _ (Replies to said reply) = same own _ refl (λ r. refl) (λ h. h)
    (λ post i. ap subject_of (posted to said post i) ∙ reply_copied heard here own to said reply) no_letter
of_other heard here own done (Is_copied_to number cell epochs holder _ h held newer step) =
    frame_from own (with_last_copy own cell (first_last number epochs)) done refl refl refl (omega arith) (λ r. r) (λ row. refl)
    (trim_frame (with_last_copy own cell (first_last number epochs)) cell (first_last number epochs) holder done step)
of_other heard here own done (Goes_on_trimming cell holder last _ held is step) = trim_frame own cell last holder done step
of_other heard here own _ (Puts_entry entry holder last of_copy at room) =
    same own _ refl (λ r. refl) (λ h. h)
    (λ post i. ap subject_of (posted (Some holder) (body.Synced entry.op (cell_of entry.key) entry.index) post i)) no_letter
