-- What is so of each entry of a server, of what it has pending and of what it moves is so of the keys that it tells of in each job.
use Rattle.law_epochs.proofs.Imports.{◌≡◌, ◌⊎◌, Asks_copy, Becomes, Body, Cell, Did, Ending, Ends, Ends_fill, In, IsNextFill, IsNextKey, JobContext}
use Rattle.law_epochs.proofs.Imports.{JobResult, Key, LinkRow, Moves, Moves_on, Of_the_log, PairState, Pending, Post, Refuses, Repeats, Says, Some, Syncs, ap}
use Rattle.law_epochs.proofs.Imports.{at, cell_cmp, chain_in, effects_of, ended, filled_to, inl, inr, letters_of_job, moved_as, refl, subject_of, ℕ}
use Rattle.law_epochs.proofs.RowKeysHold.{at_key}
use Rattle.law_epochs.proofs.EntriesAfterJobs.{becomes_kept}
use Rattle.law_epochs.proofs.EntryPredicates.{AreWithin, IsWithin, OfKey, is_of_entries, logged_none, of_no_key}
use Rattle.petal_msg.specs.declared.body.Body.TheVariants as body
use Rattle.petal_msg.specs.declared.operation.Ending.TheVariants as ending

-- the own by which a server sends the next entry of a link: as it is, or once it was told of the next key
pub record IsToldNext (heard : Body → Type 0) (here : JobContext) (own now : PairState) : Type 0 where
  pub key : Key
  pub row : LinkRow
  pub told : heard (body.Filled key)
  pub next : IsNextKey here own key row
  pub is : now ≡ filled_to own row key

abbrev pub IsMoverOwn : (heard : Body → Type 0) → JobContext → (own now : PairState) → Type 0
IsMoverOwn heard here own now = (now ≡ own) ⊎ IsToldNext heard here own now

-- with the store that it had
pub mover_store : (heard : Body → Type 0) (here : JobContext) (own now : PairState) → IsMoverOwn heard here own now → now.store ≡ own.store
mover_store heard here own now (inl same) = ap (λ (o : PairState). o.store) same
mover_store heard here own now (inr told) = ap (λ (o : PairState). o.store) told.is

module _ (bound : Cell → ℕ → Type 0) (heard : Body → Type 0) (here : JobContext) (own : PairState) (all : AreWithin bound own.store.chains)
    (pending : (cell : Cell) (op : Pending) → at cell_cmp own.pairs.pending cell ≡ Some op → IsWithin bound op.key)
    (told : (said : Body) → heard said → OfKey (IsWithin bound) said)
    (moves : (now : PairState) (post : Post) → IsMoverOwn heard here own now → IsNextFill here now post → OfKey (IsWithin bound) post.body) where
  ended_within : (seq : ℕ) (how : Ending) → OfKey (IsWithin bound) (ended seq how)
  ended_within seq ending.Written = tt
  ended_within seq ending.Full = tt

  moved_within : (key : Key) (how : Ending) → OfKey (IsWithin bound) (moved_as key how)
  moved_within key ending.Written = tt
  moved_within key ending.Full = tt

  says_within : (new : PairState) → Becomes heard here own new → (post : Post) → Says heard here own new post → OfKey (IsWithin bound) post.body
  says_within new so _ (Refuses to said is busy held) = of_no_key (IsWithin bound) said (ap is_of_entries is.refused)
  says_within new so _ (Repeats want last same h lead is e) = ended_within want.seq last.ending
  says_within new so _ (Ends client last why is) = ended_within last.seq last.ending
  says_within new so _ (Asks_copy op to same is stage next) = pending op.cell op is
  says_within new so _ (Syncs cell copy row to copies trimmed is next) =
      let there = at_key (chain_in new.store.chains cell) copy.index row is in
      becomes_kept bound heard here own all pending told new so cell row.0 there.0 there.1
  says_within new so _ (Ends_fill op how to ended is none lead) = moved_within op.key how
  says_within new so _ (Moves post same next) = moves own post (inl refl) next
  says_within new so _ (Moves_on key row post is h next fills) =
      moves new post (inr (record { key = key; row = row; told = h; next = next; is = is })) fills
  says_within new so _ (Of_the_log post logged) = of_no_key (IsWithin bound) post.body (logged_none (subject_of post.body) logged)
  says_within new so _ _ = tt

  pub did_said : (done : JobResult) → Did heard here own done → (post : Post) → In post done.posts → OfKey (IsWithin bound) post.body
  did_said done d post i = says_within done.own (effects_of heard here own done d) post (letters_of_job heard here own done d post i)
