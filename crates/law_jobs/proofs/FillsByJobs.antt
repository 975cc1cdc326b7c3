-- What each job says of entries that move, and which operations it opens for them.
use Rattle.law_jobs.proofs.Imports.{◌≡◌, Body, Bool, Cell, Did, Ending, Filling, In, JobContext, JobResult, Key, Logged, PairState, Pending, Post, Some, Was}
use Rattle.law_jobs.proofs.Imports.{ap, at, by_bool, cell_cmp, cell_of, false, refl, sym, true, true_false, ℕ}
use Rattle.law_jobs.specs.Imports.{IsNewFill, IsNextFill, Moving, ended, is_logged, moved_as, subject_of}
use Rattle.law_steps.specs.Imports.{Subject}
use Rattle.law_jobs.specs.Effects.{For_a_fill, For_a_write}
use Rattle.law_jobs.specs.Sayings.{Says}
use Rattle.law_jobs.proofs.JobsSay.{letters_of_job}
use Rattle.petal_msg.specs.declared.body.Body.TheVariants as body
use Rattle.petal_msg.specs.declared.operation.Ending.TheVariants as ending
use Rattle.petal_msg.specs.declared.operation.OpKind.TheVariants as kind
use Rattle.law_jobs.proofs.OperationsCome as operations
use Rattle.law_jobs.specs.Sayings as says

-- the letter is an entry that moves
abbrev pub is_fill : Body → Bool
is_fill (body.Fill key bytes) = true
is_fill _ = false

abbrev pub is_filling : Subject → Bool
is_filling Filling = true
is_filling _ = false

fill_subject : (said : Body) → is_fill said ≡ true → is_filling (subject_of said) ≡ true
fill_subject (body.Fill key bytes) e = refl
fill_subject _ e = true_false e refl

pub other_subject : (said : Body) → is_filling (subject_of said) ≡ false → is_fill said ≡ false
other_subject said e = by_bool (is_fill said) (λ t. true_false (fill_subject said t) e) (λ no. no)

logged_other : (s : Subject) → is_logged s ≡ true → is_filling s ≡ false
logged_other Logged e = refl
logged_other _ e = true_false e refl

-- nor is it one that tells how an operation ended
ended_other : (seq : ℕ) (how : Ending) → is_fill (ended seq how) ≡ false
ended_other seq ending.Written = refl
ended_other seq ending.Full = refl

moved_other : (key : Key) (how : Ending) → is_fill (moved_as key how) ≡ false
moved_other key ending.Written = refl
moved_other key ending.Full = refl

-- it is none, or the next entry of a link by what the server then remembers, and by the store that it had
pub data SaysFill (here : JobContext) (own : PairState) (done : JobResult) (post : Post) : Type 0 where
  Is_other : is_fill post.body ≡ false → SaysFill here own done post
  Is_next : (now : PairState) → now.store ≡ own.store → now.filled ≡ done.own.filled → IsNextFill here now post → SaysFill here own done post

-- an operation that a job opened for an entry
pub record IsOpenedFill (heard : Body → Type 0) (here : JobContext) (own : PairState) (cell : Cell) (op : Pending) : Type 0 where
  pub moving : Moving
  pub new : IsNewFill heard here own moving
  pub asked : heard (body.Fill moving.key moving.bytes)
  pub cell_is : cell_of moving.key ≡ cell
  pub key : op.key ≡ moving.key
  pub bytes : op.bytes ≡ moving.bytes
  pub rev : op.rev ≡ here.state.rev

-- what is pending after a job was so before, or is of a client's write, or was opened for an entry
pub data HasCome (heard : Body → Type 0) (here : JobContext) (own : PairState) (cell : Cell) (op : Pending) : Type 0 where
  Stood : Was own cell op → HasCome heard here own cell op
  Writes : op.kind ≡ kind.Write → HasCome heard here own cell op
  Fills : IsOpenedFill heard here own cell op → HasCome heard here own cell op

module _ (heard : Body → Type 0) (here : JobContext) (own : PairState) where
  says_fill : (done : JobResult) (post : Post) → Says heard here own done.own post → SaysFill here own done post
  says_fill done _ (says.Refuses to said is busy held) = Is_other (other_subject said (ap is_filling is.refused))
  says_fill done _ (says.Repeats want last same h lead is e) = Is_other (ended_other want.seq last.ending)
  says_fill done _ (says.Ends client last why is) = Is_other (ended_other last.seq last.ending)
  says_fill done _ (says.Ends_fill op how to ended is none so) = Is_other (moved_other op.key how)
  says_fill done _ (says.Moves post same next) = Is_next own refl (ap (λ (o : PairState). o.filled) (sym same)) next
  says_fill done _ (says.Moves_on key row post same h before next) = Is_next done.own (ap (λ (o : PairState). o.store) same) refl next
  says_fill done _ (says.Of_the_log post logged) = Is_other (other_subject post.body (logged_other (subject_of post.body) logged))
  says_fill done _ _ = Is_other refl

  pub did_fills : (done : JobResult) → Did heard here own done → (post : Post) → In post done.posts → SaysFill here own done post
  did_fills done did post i = says_fill done post (letters_of_job heard here own done did post i)

  pub did_come : (done : JobResult) → Did heard here own done → (cell : Cell) (op : Pending) → at cell_cmp done.own.pairs.pending cell ≡ Some op
      → HasCome heard here own cell op
  did_come done did cell op there = elim (operations.did_come heard here own done did cell op there) [
    | operations.Stood was ↦ Stood was
    | operations.Is_new first (For_a_write want new) at_cell same le ↦ Writes (sym same.kind)
    | operations.Is_new first (For_a_fill moving new) at_cell same le ↦ Fills (record {
      moving = moving;
      new = new;
      asked = new.wanted;
      cell_is = sym at_cell;
      key = sym same.key;
      bytes = sym same.bytes;
      rev = sym same.rev;
    })
  ]
