-- Each letter of a job is one that it may say.
use Rattle.law_jobs.proofs.Imports.{[], ◌+◌, ◌∷◌, ◌≡◌, A_copied_entry, A_copy, A_page, A_slot, A_trim, Action, An_entry_to_move, Answers_page, Asks, Asks_for}
use Rattle.law_jobs.proofs.Imports.{Asks_page, Asks_to_trim, Begins_copy, Body, By_filler, By_holder, By_lead, By_other, By_read, By_second, By_sweep, Cell}
use Rattle.law_jobs.proofs.Imports.{Closes, Closes_alone, CopyStep, Copy_as_is, Copying, Declines, Did, DidHolder, DidLead, DidOther, DidRead, DidSecond}
use Rattle.law_jobs.proofs.Imports.{Drops_entry, Ending, Finished, FollowProgress, Follows, Gives_up, Goes_on_copying, Goes_on_retired, Goes_on_trimming}
use Rattle.law_jobs.proofs.Imports.{Has_entry, Has_fill, Has_no_room, Has_no_slot, Ignores, In, Is_copied_to, Is_filled, Is_full, Is_out_of_slots, Is_trimmed}
use Rattle.law_jobs.proofs.Imports.{JobContext, JobResult, LastCopy, List, None, Not_here, Of_the_log, OpKind, Opens, Opens_fill, Option, OtherReply}
use Rattle.law_jobs.proofs.Imports.{PairState, Pending, Post, Promises, Puts_entry, Refuses, Repeats, Replies, Sends, Sets_apart, Shows, Some, Taken}
use Rattle.law_jobs.proofs.Imports.{TrimStep, acts, ap, arith, cell_gone, cell_holder, cell_of, cell_same, ends, false, fill_operation, first_last}
use Rattle.law_jobs.proofs.Imports.{gives_back, inl, inr, is_second, last_copy, last_on, live, nat_cmp, next_stage, none_some, of_sweep, operation}
use Rattle.law_jobs.proofs.Imports.{pending_on, post_to, put, refl, retired_second, subst, sym, taking, tells, true, without_pending, ℕ}
use Rattle.law_jobs.specs.Effects.{Alone_has, Both_have, By_operation, Had_no_slot, HasEnded, Is_retired, Is_declined}
use Rattle.law_jobs.specs.Sayings.{IsCopying, Says, SaysOf, to_server}
use Rattle.petal_msg.specs.declared.operation.Action.TheVariants as action
use Rattle.petal_msg.specs.declared.operation.Ending.TheVariants as ending
use Rattle.petal_msg.specs.declared.operation.FollowProgress.TheVariants as follow_progress
use Rattle.petal_msg.specs.declared.operation.OpKind.TheVariants as kind
use Rattle.law_jobs.specs.Sayings as says

pub none_in : {A : Type 0} (post : Post) → In post [] → A
unfolding In
none_in post i = absurd i

-- only a read's job answers a read
abbrev pub IsOfRead : {heard : Body → Type 0} {here : JobContext} {own : PairState} {done : JobResult} → Did heard here own done → Type 0
IsOfRead (By_read done d) = Unit {0}
IsOfRead _ = ⊥

module _ (reads : Type 0) (heard : Body → Type 0) (here : JobContext) (own : PairState) where
  abbrev AreSaid : PairState → List Post → Type 0
  AreSaid new posts = (post : Post) → In post posts → SaysOf reads heard here own new post

  alone : (new : PairState) (it : Post) → SaysOf reads heard here own new it → AreSaid new (it ∷ [])
  unfolding In
  alone new it so post (inl e) = subst (SaysOf reads heard here own new) (sym e) so
  alone new it so post (inr none) = absurd none

  -- one letter, where there is a server to send it to
  one : (new : PairState) (to : Option ℕ) (what : Body) → ((n : ℕ) → to ≡ Some n → SaysOf reads heard here own new (to_server n what))
      → AreSaid new (post_to to what)
  one new None what so post i = none_in post i
  one new (Some n) what so post i = alone new (to_server n what) (so n refl) post i

  -- what a server asks for
  pub asks_said : (post : Post) → Asks here own post → SaysOf reads heard here own own post
  asks_said _ (A_slot op to is stage so) = says.Asks_slot op to refl is stage so
  asks_said _ (A_copy op to is stage so) = says.Asks_copy op to refl is stage so
  asks_said _ (A_trim cell copy to is fresh so) = says.Trims cell copy to (says.Goes_on own copy (Copy_as_is copy is)) fresh so
  asks_said _ (A_copied_entry cell copy row to is trimmed spot so) =
      says.Syncs cell copy row to (says.Goes_on own copy (Copy_as_is copy is)) trimmed spot so
  asks_said _ (A_page row to there so fresh) = says.Asks_page row to refl so fresh
  asks_said post (An_entry_to_move _ next) = says.Moves post refl next
  asks_said post (Of_the_log _ logged) = says.Of_the_log post logged

  ends_said : (now : PairState) (op : Pending) (of : OpKind) (how : Ending) → op.kind ≡ of → HasEnded heard here own op how → pending_on now op.cell ≡ None
      → now.pairs.finished ≡ own.pairs.finished → AreSaid (ends here now op of how).own (ends here now op of how).posts
  ends_said now op kind.Write how is ended none same =
      let last : Finished = record { seq = op.seq; ending = how } in
      alone _ _ (says.Ends op.client last (By_operation op how ended is none) (ap (λ t. put nat_cmp t op.client last) same))
  ends_said now op kind.Fill how is ended none same = one _ _ _ (λ to so. says.Ends_fill op how to ended is none so)
  ends_said now op kind.Copy how is ended none same = λ post i. none_in post i

  -- a cell that is not live has no second server
  acts_said : (now : PairState) (op : Pending) → Taken own now op → live here.state op.cell ≡ false → (next : Action)
      → AreSaid (acts here now op next).own (acts here now op next).posts
  acts_said now op taken off action.Reserve = one _ _ _ (λ to so. none_some (retired_second here.state op.cell off) so)
  acts_said now op taken off (action.Mark which) = λ post i. none_in post i
  acts_said now op taken off action.Put = λ post i. none_in post i
  acts_said now op taken off action.Replicate = one _ _ _ (λ to so. none_some (retired_second here.state op.cell off) so)
  acts_said now op taken off (action.Unmark which) = λ post i. none_in post i
  acts_said now op taken off action.Answer =
      ends_said (without_pending now op.cell) op op.kind ending.Written refl (Is_retired now op taken off) (cell_gone now.pairs.pending op.cell)
      (taking own now op taken).finished
  acts_said now op taken off action.Drop = λ post i. none_in post i

  lead_said : (done : JobResult) → DidLead heard here own done → AreSaid done.own done.posts
  lead_said _ (Asks_for posts h) = λ post i. asks_said post (h post i)
  lead_said _ (Repeats want last h lead is e) = alone _ _ (says.Repeats want last refl h lead is e)
  lead_said _ (Is_full want new no_room) = alone _ _ (says.Ends want.client _ (Had_no_slot want new no_room new.none) refl)
  lead_said _ (Gives_up op h is reserved put) =
      ends_said (gives_back (without_pending own op.cell)) op op.kind ending.Full refl (Is_declined op h is reserved put)
      (cell_gone own.pairs.pending op.cell) refl
  lead_said _ (Opens want new both) =
      let op = operation here own.pairs.next want in
      one _ _ _ (λ to so. says.Opens op to new.lead both new.none (cell_same own.pairs.pending want.cell op) refl refl so)
  lead_said _ (Closes op h is both stage) =
      ends_said (without_pending own op.cell) op op.kind ending.Written refl (Both_have op h is both stage) (cell_gone own.pairs.pending op.cell) refl
  lead_said _ (Closes_alone now op taken alone stale put free) =
      ends_said (without_pending now op.cell) op op.kind ending.Written refl (Alone_has now op taken alone stale put free)
      (cell_gone now.pairs.pending op.cell) (taking own now op taken).finished
  lead_said _ (Opens_fill moving new room both) =
      let op = fill_operation here own.pairs.next moving in
      one _ _ _ (λ to so. says.Opens op to new.lead both new.none (cell_same own.pairs.pending (cell_of moving.key) op) refl refl so)
  lead_said _ (Has_fill moving filled) = one _ _ _ (λ to so. says.Has_fill moving to refl filled so)
  lead_said _ (Has_no_room moving new no_room) = one _ _ _ (λ to so. says.Has_no_room moving to refl new no_room so)
  lead_said _ (Goes_on_retired now op taken off) = acts_said now op taken off (next_stage here.state here.me op)
  lead_said _ _ = λ post i. none_in post i

  tells_said : (now : PairState) (cell : Cell) (number : ℕ) (how : FollowProgress) → is_second here.state here.me cell ≡ true
      → last_on now cell ≡ Some (record { op = number; progress = how }) → AreSaid (tells here now cell number how).own (tells here now cell number how).posts
  tells_said now cell number follow_progress.Reserved follows is = one _ _ _ (λ to so. says.Has_slot number cell to follows is so)
  tells_said now cell number follow_progress.Replicated follows is = one _ _ _ (λ to so. says.Has_copy number cell to follows is so)

  second_said : (done : JobResult) → DidSecond heard here own done → AreSaid done.own done.posts
  second_said _ (Sets_apart number cell tickets h so le) =
      tells_said _ cell number follow_progress.Reserved so (cell_same own.pairs.last cell (record { op = number; progress = follow_progress.Reserved }))
  second_said _ (Promises number cell how so is) = tells_said own cell number how so is
  second_said _ (Declines number cell h follows found) = one _ _ _ (λ to so. says.Has_no_slot number cell to refl h follows found so)
  second_said _ (Follows number key version origin bytes h so is) =
      tells_said _ (cell_of key) number follow_progress.Replicated so
      (cell_same own.pairs.last (cell_of key) (record { op = number; progress = follow_progress.Replicated }))

  step_said : (now : PairState) (cell : Cell) (copy : Copying) (done : JobResult) → IsCopying heard here own cell now copy → CopyStep here now cell copy done
      → AreSaid done.own done.posts
  step_said now cell copy _ so (Asks_to_trim fresh) = one _ _ _ (λ to is. says.Trims cell copy to so fresh is)
  step_said now cell copy _ so (Sends row trimmed spot) = one _ _ _ (λ to is. says.Syncs cell copy row to so trimmed spot is)
  step_said now cell copy _ so _ = λ post i. none_in post i

  holder_said : (done : JobResult) → DidHolder heard here own done → AreSaid done.own done.posts
  holder_said _ (Asks_page id row other held fresh) = alone _ _ (says.Asks_page row other refl held.other_is fresh)
  holder_said done (Begins_copy id row other cell _ held next step) = step_said _ cell _ done (says.Begins id row other held next) step
  holder_said done (Goes_on_copying cell now copy _ taken step) = step_said now cell copy done (says.Goes_on now copy taken) step
  holder_said _ _ = λ post i. none_in post i

  trim_said : (now : PairState) (cell : Cell) (last : LastCopy) (holder : ℕ) (done : JobResult) → cell_holder here cell ≡ Some holder
      → last_copy now cell ≡ Some last → TrimStep now cell last holder done → AreSaid done.own done.posts
  trim_said now cell last holder _ held is (Is_trimmed none) = alone _ _ (says.Is_trimmed cell last holder held is none)
  trim_said now cell last holder _ held is (Drops_entry epoch epochs more) = λ post i. none_in post i

  reply_said : (to : Option ℕ) (said : Body) → OtherReply heard here own to said → AreSaid own (post_to to said)
  reply_said _ _ (Answers_page id row after h named) = one _ _ _ (λ to so. says.Tells_page id row after to refl h named so)
  reply_said _ _ (Has_entry entry holder last of_copy lt) = alone _ _ (says.Is_synced entry holder last last of_copy of_copy.last_is refl lt)
  reply_said _ _ (Has_no_slot entry holder last of_copy spot full new) = alone _ _ (says.Is_sync_full entry holder last refl of_copy spot full new)

  other_said : (done : JobResult) → DidOther heard here own done → AreSaid done.own done.posts
  other_said _ (Replies to said reply) = reply_said to said reply
  other_said done (Is_copied_to number cell epochs holder _ h held newer step) =
      trim_said _ cell (first_last number epochs) holder done held (cell_same own.copies.last cell (first_last number epochs)) step
  other_said done (Goes_on_trimming cell holder last _ held is step) = trim_said own cell last holder done held is step
  other_said _ (Puts_entry entry holder last of_copy spot room) =
      let later : LastCopy = record last { index = last.index + 1 } in
      alone _ _ (says.Is_synced entry holder last later of_copy (cell_same own.copies.last (cell_of entry.key) later) refl (omega arith))

  read_said : (done : JobResult) → DidRead heard here own done → reads → AreSaid done.own done.posts
  read_said _ (Shows client seq cell epoch may so) is = alone _ _ (says.Shows client seq cell epoch may so is)
  read_said _ (Not_here client seq cell epoch may comes none) is = alone _ _ (says.Shows_nothing client seq cell epoch may comes none is)

  pub letters_by : (done : JobResult) (did : Did heard here own done) → (IsOfRead did → reads) → AreSaid done.own done.posts
  letters_by _ Ignores of_read = λ post i. none_in post i
  letters_by _ (Refuses to what is busy held) of_read = alone _ _ (says.Refuses to what is busy held)
  letters_by _ (By_read done d) of_read = read_said done d (of_read tt)
  letters_by _ (By_lead done d) of_read = lead_said done d
  letters_by _ (By_second done d) of_read = second_said done d
  letters_by _ (By_holder done d) of_read = holder_said done d
  letters_by _ (By_other done d) of_read = other_said done d
  letters_by _ (By_filler _ (Is_filled key row posts h next fills)) of_read = λ post i. says.Moves_on key row post refl h next (fills post i)
  letters_by _ (By_filler _ (Is_out_of_slots key row h next)) of_read = λ post i. none_in post i
  letters_by _ (By_sweep done d) of_read = λ post i. absurd ((of_sweep heard here own done d).silent post i)

pub letters_of_job : (heard : Body → Type 0) (here : JobContext) (own : PairState) (done : JobResult) → Did heard here own done → (post : Post)
    → In post done.posts → Says heard here own done.own post
letters_of_job heard here own done did = letters_by (Unit {0}) heard here own done did (λ is. tt)
