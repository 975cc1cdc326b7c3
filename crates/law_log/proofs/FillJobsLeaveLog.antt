-- Jobs of fills and sweeps: they say nothing of the log, put no letter into the queue, and forget no Caught for which a ballot was started.
use Rattle.law_log.proofs.Imports.{[], ◌∙◌, ◌∷◌, ◌≡◌, Among, Bool, Cell, Job, JobContext, Key, Letter, LinkId, LinkRow, List, Moving, None, Option, PairState}
use Rattle.law_log.proofs.Imports.{Post, Retired, Some, State, Stored, ap, at, at-put, by_test, cell_of, chain_in, cond, eq_by_cmp, false, fill_of}
use Rattle.law_log.proofs.Imports.{fill_operation, fill_posts, fills_row, flat_map, free_of, goes_after, has_epoch, has_proposed, hears_fill, hears_fill_full}
use Rattle.law_log.proofs.Imports.{hears_filled, id_of, in-append, inl, inr, is_eq, is_lead, is_next, is_some, is_under_way, key_at, lead, link_before}
use Rattle.law_log.proofs.Imports.{link_cmp, nat_cmp, nat_lt, next_retired, on_fill, on_fill_full, on_filled, opens_fill, refl, sends_key, sends_moving}
use Rattle.law_log.proofs.Imports.{sweep_jobs, sweeps, sweeps_with, target, tied_itself, true, with_filled, with_full, with_opened}
use Rattle.law_log.proofs.BallotFlags.{link_cmp_total}
use Rattle.law_log.proofs.PairJobsLeaveLog.{IsCalm, IsDated, IsKept, dated_moved, pair_goes, calm_says, calm_silent, posted_dated}
use Rattle.law_log.proofs.ScheduleTurns.{no_posts, no_letter}
use Rattle.petal_msg.specs.declared.body.Body.TheVariants as body
use Rattle.petal_msg.specs.declared.operation.Ending.TheVariants as ending
use Rattle.spec_rules.specs.declared.job.Job.TheVariants as job

-- ### The new lead

pair_opens : (here : JobContext) (own : PairState) (moving : Moving) (room : Bool) → IsCalm own (opens_fill here own moving room)
pair_opens here own moving false = calm_says own _ _ (dated_moved moving.key ending.Full)
pair_opens here own moving true = pair_goes here (with_opened own (fill_operation here own.pairs.next moving)) (cell_of moving.key)

pair_hears : (here : JobContext) (own : PairState) (moving : Moving) (busy has back : Bool) → IsCalm own (hears_fill here own moving busy has back)
pair_hears here own moving true has back = calm_silent own
pair_hears here own moving false true back = calm_says own _ _ (dated_moved moving.key ending.Written)
pair_hears here own moving false false true = calm_silent own
pair_hears here own moving false false false = pair_opens here own moving (nat_lt 0 (free_of own.store))

pub pair_fill : (here : JobContext) (own : PairState) (moving : Moving) → IsCalm own (on_fill here own moving)
unfolding on_fill
pair_fill here own moving =
    by_test (IsCalm own) (is_lead here.state here.me (cell_of moving.key)) _ _
    (λ e. pair_hears here own moving (is_under_way own (cell_of moving.key))
    (has_epoch (chain_in own.store.chains (cell_of moving.key)) moving.key.epoch) (has_proposed here.state own (cell_of moving.key)))
    (λ e. calm_silent own)

-- ### The old lead

dated_moving : (state : State) (key : Key) (entry : Option Stored) (cell : Option Cell) (post : Post) → Among post (sends_moving state key entry cell)
    → IsDated post.body
dated_moving state key None cell post i = no_posts post i
dated_moving state key (Some entry) None post i = no_posts post i
dated_moving state key (Some entry) (Some cell) post i = posted_dated (lead state cell) (body.Fill (key_at cell key.epoch) entry.bytes) refl post i

dated_key : (state : State) (own : PairState) (key : Option Key) (post : Post) → Among post (sends_key state own key) → IsDated post.body
dated_key state own None post i = no_posts post i
dated_key state own (Some key) post i =
    dated_moving state key (at nat_cmp (chain_in own.store.chains (cell_of key)) key.epoch) (target state (cell_of key)) post i

dated_row : (here : JobContext) (own : PairState) (row : LinkRow) (post : Post) → Among post (fills_row here own row) → IsDated post.body
dated_row here own row post i = dated_key here.state own (fill_of here.state here.me row own) post i

dated_rows : (here : JobContext) (own : PairState) (rows : List LinkRow) (post : Post) → Among post (flat_map (fills_row here own) rows) → IsDated post.body
dated_rows here own [] post i = no_posts post i
dated_rows here own (row ∷ rows) post i = elim (in-append post (fills_row here own row) (flat_map (fills_row here own) rows) i) [
  | inl now ↦ dated_row here own row post now
  | inr later ↦ dated_rows here own rows post later
]

-- what a tick sends for fills
pub dated_fill_posts : (here : JobContext) (own : PairState) (post : Post) → Among post (fill_posts here own) → IsDated post.body
dated_fill_posts here own post i = dated_rows here own here.state.links post i

calm_following : (here : JobContext) (own to : PairState) (row : LinkRow) → IsKept own to → IsCalm own (goes_after here to row)
calm_following here own to row kept = record { quiet = record { posts = dated_row here to row; jobs = no_letter }; kept = kept }

calm_hears_filled : (here : JobContext) (own : PairState) (key : Key) (o : Option LinkRow) → IsCalm own (hears_filled here own key o)
calm_hears_filled here own key None = calm_silent own
calm_hears_filled here own key (Some row) =
    by_test (IsCalm own) (is_next (fill_of here.state here.me row own) key) _ _
    (λ e. calm_following here own (with_full (with_filled own row (record { map = row.map; block = key.block; epoch = key.epoch })) false) row
    (record { flags = λ id h. h }))
    (λ e. calm_silent own)

pub calm_filled : (here : JobContext) (own : PairState) (key : Key) → IsCalm own (on_filled here own key)
unfolding on_filled
calm_filled here own key = calm_hears_filled here own key (link_before here.state key)

calm_hears_full : (here : JobContext) (own : PairState) (key : Key) (o : Option LinkRow) → IsCalm own (hears_fill_full here own key o)
calm_hears_full here own key None = calm_silent own
calm_hears_full here own key (Some row) =
    by_test (IsCalm own) (is_next (fill_of here.state here.me row own) key) _ _
    (λ e. calm_silent (with_full own true)) (λ e. calm_silent own)

pub calm_fill_full : (here : JobContext) (own : PairState) (key : Key) → IsCalm own (on_fill_full here own key)
unfolding on_fill_full
calm_fill_full here own key = calm_hears_full here own key (link_before here.state key)

-- of this link it remembers the key that it was told of
pub filled_here : (own : PairState) (row : LinkRow) (key : Key) → at link_cmp (with_filled own row key).filled (id_of row) ≡ Some key
filled_here own row key =
    at-put link_cmp_total own.filled (id_of row) key (id_of row)
    ∙ ap (λ b. cond b (Some key) (at link_cmp own.filled (id_of row))) (ap is_eq (tied_itself link_cmp_total (id_of row)))

-- and of another one what it did
pub filled_beside : (own : PairState) (row : LinkRow) (key : Key) (id : LinkId) → eq_by_cmp link_cmp id (id_of row) ≡ false
    → at link_cmp (with_filled own row key).filled id ≡ at link_cmp own.filled id
filled_beside own row key id apart =
    at-put link_cmp_total own.filled (id_of row) key id ∙ ap (λ b. cond b (Some key) (at link_cmp own.filled id)) apart

-- ### Sweeps

only_sweep : {A : Type 0} (letter : Letter) → Among (job.Letter letter) (job.Sweep ∷ []) → A
unfolding Among
only_sweep letter (inl e) = let f : job.Letter letter ≡ job.Sweep = e in absurd cc
only_sweep letter (inr h) = absurd h

calm_swept : (own : PairState) (o : Option Retired) → IsCalm own (sweeps_with own o)
calm_swept own None = calm_silent own
calm_swept own (Some what) = record {
  quiet = record { posts = λ post i. no_posts post i; jobs = λ letter i. only_sweep letter i };
  kept = record { flags = λ id h. h };
}

pub calm_sweeps : (here : JobContext) (own : PairState) → IsCalm own (sweeps here own)
unfolding sweeps
calm_sweeps here own = calm_swept own (next_retired here.state own.store)

-- a tick's sweep is no letter
pub no_sweep : {A : Type 0} (here : JobContext) (own : PairState) (letter : Letter) → Among (job.Letter letter) (sweep_jobs here own) → A
no_sweep {A} here own letter h =
    by_test (λ (xs : List Job). Among (job.Letter letter) xs → A) (is_some (next_retired here.state own.store)) (job.Sweep ∷ []) []
    (λ e i. only_sweep letter i) (λ e i. no_letter letter i) h
