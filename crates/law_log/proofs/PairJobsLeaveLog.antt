-- Operations of the pairs say nothing of the log, put no letter into the queue, and leave all copies as they are; neither does what a tick sends
-- for them say anything of the log.
use Rattle.law_log.proofs.Imports.{[], ◌&&◌, ◌==◌, ◌∷◌, ◌≡◌, Action, Actor, Again, Among, Body, Bool, Cell, Command, Ending, FollowProgress, JobContext}
use Rattle.law_log.proofs.Imports.{JobResult, Key, LastOp, Letter, LinkId, List, Named, Newer, None, Older, OpKind, Option, PairState, Pax, Pending, Post}
use Rattle.law_log.proofs.Imports.{Progress, Reply, Some, Standing, Table, Wanted, World, about, at, awaited, by_test, cell_of, client_limit, ended, ends}
use Rattle.law_log.proofs.Imports.{false, finishes, flat_map, follows_once, gives_back, gives_up, goes_on, goes_on_with, hears_pair_full, hears_replicate}
use Rattle.law_log.proofs.Imports.{hears_replicated, hears_reserve, hears_reserved, in-append, inl, inr, is_kept_back, is_lead, is_logged, is_pending_for}
use Rattle.law_log.proofs.Imports.{is_replicating, is_reserving, is_second, is_under_way, last_on, link_cmp, moved_as, nat_lt, not, on_pair_full, on_read}
use Rattle.law_log.proofs.Imports.{on_replicate, on_replicated, on_reserve, on_reserved, on_write, only, opened, opens, option_map_or, pending_on, post_to}
use Rattle.law_log.proofs.Imports.{readable, refl, reply_to, reserves, said, says, says_to, sent_again, silent, subject_of, takes, takes_newer, tells, true}
use Rattle.law_log.proofs.Imports.{true≢false, without_pending, ℕ}
use Rattle.spec_rules.specs.Writes.{acts}
use Rattle.law_log.specs.AgreedLog.{IsBacked}
use Rattle.law_log.proofs.ScheduleTurns.{no_posts, no_letter}
use Rattle.petal_msg.specs.declared.body.Body.TheVariants as body
use Rattle.petal_msg.specs.declared.letter.Actor.TheVariants as actor
use Rattle.petal_msg.specs.declared.operation.Action.TheVariants as action
use Rattle.petal_msg.specs.declared.operation.Ending.TheVariants as ending
use Rattle.petal_msg.specs.declared.operation.FollowProgress.TheVariants as follow_progress
use Rattle.petal_msg.specs.declared.operation.OpKind.TheVariants as kind
use Rattle.petal_msg.specs.declared.operation.Reply.TheVariants as reply
use Rattle.spec_rules.specs.declared.job.Job.TheVariants as job

-- it is handled at its sender's revision alone
abbrev pub IsDated : Body → Type 0
IsDated said = (about said).any_rev ≡ false

-- it is no letter of the log
abbrev pub IsOther : Body → Type 0
IsOther said = is_logged (subject_of said) ≡ false

pub other_dated : (what : Body) → IsDated what → IsOther what
other_dated (body.Down server inc) h = absurd (true≢false h)
other_dated (body.Propose command) h = absurd (true≢false h)
other_dated (body.Pax pax) h = absurd (true≢false h)
other_dated (body.Ask rev) h = absurd (true≢false h)
other_dated (body.News after commands) h = absurd (true≢false h)
other_dated _ h = refl

pub other_backed : (p : World) (Good : Command → Type 0) (Said : Pax → Type 0) (what : Body) → IsOther what → IsBacked p Good Said what
other_backed p Good Said (body.Down server inc) h = absurd (true≢false h)
other_backed p Good Said (body.Propose command) h = absurd (true≢false h)
other_backed p Good Said (body.Pax pax) h = absurd (true≢false h)
other_backed p Good Said (body.News after commands) h = absurd (true≢false h)
other_backed p Good Said _ h = tt

pub dated_backed : (p : World) (Good : Command → Type 0) (Said : Pax → Type 0) (what : Body) → IsDated what → IsBacked p Good Said what
dated_backed p Good Said what h = other_backed p Good Said what (other_dated what h)

pub record SaysDated (done : JobResult) : Type 0 where
  pub posts : (post : Post) → Among post done.posts → IsDated post.body
  pub jobs : (letter : Letter) → Among (job.Letter letter) done.jobs → ⊥

pub only_stage : (letter : Letter) (cell : Cell) → Among (job.Letter letter) (job.Stage cell ∷ []) → ⊥
unfolding Among
only_stage letter cell (inl e) = let f : job.Letter letter ≡ job.Stage cell = e in absurd cc
only_stage letter cell (inr h) = h

pub posted_dated : (server : Option ℕ) (what : Body) → IsDated what → (post : Post) → Among post (post_to server what) → IsDated post.body
posted_dated None what h post i = no_posts post i
posted_dated (Some n) what h post i = only (λ (x : Post). IsDated x.body) (record { to = actor.Server n; body = what }) post i h

-- what a job leaves of what it has started ballots for
pub record KeepsFlags (before after : Table LinkId Progress) : Type 0 where
  pub flags : (id : LinkId) → option_map_or (λ (p : Progress). p.caught) (at link_cmp before id) false ≡ true
      → option_map_or (λ (p : Progress). p.caught) (at link_cmp after id) false ≡ true

abbrev pub IsKept : PairState → PairState → Type 0
IsKept before after = KeepsFlags before.copies.progress after.copies.progress

-- what it says is handled at its revision alone, it puts no letter into the queue, and it forgets no Caught for which a ballot was started
pub record IsCalmFrom (before : Table LinkId Progress) (done : JobResult) : Type 0 where
  pub quiet : SaysDated done
  pub kept : KeepsFlags before done.own.copies.progress

abbrev pub IsCalm : PairState → JobResult → Type 0
IsCalm own done = IsCalmFrom own.copies.progress done

pub kept_itself : (own : PairState) → IsKept own own
kept_itself own = record { flags = λ id h. h }

pub calm_silent : (own : PairState) → IsCalm own (silent own)
calm_silent own = record { quiet = record { posts = λ post i. no_posts post i; jobs = no_letter }; kept = kept_itself own }

pub calm_stage : (own : PairState) (cell : Cell) → IsCalm own (record { own = own; posts = []; jobs = job.Stage cell ∷ [] })
calm_stage own cell =
    record { quiet = record { posts = λ post i. no_posts post i; jobs = λ letter i. only_stage letter cell i }; kept = kept_itself own }

pair_says : (own : PairState) (to : Actor) (what : Body) → IsDated what → IsCalm own (says own to what)
pair_says own to what h =
    record { quiet = record { posts = λ post i. only (λ (x : Post). IsDated x.body) _ post i h; jobs = no_letter }; kept = kept_itself own }

pub calm_says : (own : PairState) (server : Option ℕ) (what : Body) → IsDated what → IsCalm own (says_to own server what)
calm_says own server what h = record { quiet = record { posts = posted_dated server what h; jobs = no_letter }; kept = kept_itself own }

pair_up : (own : PairState) (op : Pending) → IsKept own (gives_up own op)
pair_up own op = by_test (IsKept own) op.stage.put _ _ (λ e. kept_itself own) (λ e. kept_itself own)

pair_ending : (own : PairState) (client seq : ℕ) (what : Ending) → IsCalm own (finishes own client seq what)
pair_ending own client seq ending.Written = pair_says _ _ _ refl
pair_ending own client seq ending.Full = pair_says _ _ _ refl

dated_ending : (seq : ℕ) (what : Ending) → IsDated (ended seq what)
dated_ending seq ending.Written = refl
dated_ending seq ending.Full = refl

pub dated_moved : (key : Key) (what : Ending) → IsDated (moved_as key what)
dated_moved key ending.Written = refl
dated_moved key ending.Full = refl

-- of a fill the old lead is told
pair_ends : (here : JobContext) (own : PairState) (op : Pending) (what : OpKind) (how : Ending) → IsCalm own (ends here own op what how)
pair_ends here own op kind.Write how = pair_ending own op.client op.seq how
pair_ends here own op kind.Fill how = calm_says own _ _ (dated_moved op.key how)
pair_ends here own op kind.Copy how = calm_silent own

pair_act : (here : JobContext) (own : PairState) (op : Pending) (what : Action) → IsCalm own (acts here own op what)
pair_act here own op action.Reserve = calm_says own _ _ refl
pair_act here own op (action.Mark kind) = calm_stage _ op.cell
pair_act here own op action.Put = calm_stage _ op.cell
pair_act here own op action.Replicate = calm_says own _ _ refl
pair_act here own op (action.Unmark kind) = calm_stage _ op.cell
pair_act here own op action.Answer = pair_ends here (without_pending own op.cell) op op.kind ending.Written
pair_act here own op action.Drop = record { quiet = record { posts = λ post i. no_posts post i; jobs = no_letter }; kept = pair_up own op }

pair_next : (here : JobContext) (own : PairState) (op : Option Pending) → IsCalm own (goes_on_with here own op)
pair_next here own None = calm_silent own
pair_next here own (Some op) = pair_act here own op _

pub pair_goes : (here : JobContext) (own : PairState) (cell : Cell) → IsCalm own (goes_on here own cell)
unfolding goes_on
pair_goes here own cell = pair_next here own (pending_on own cell)

dated_reply : (seq : ℕ) (what : Reply) → IsDated (said seq what)
dated_reply seq (reply.Data bytes) = refl
dated_reply seq _ = refl

pub pair_read : (here : JobContext) (own : PairState) (client seq : ℕ) (cell : Cell) (epoch : ℕ) → IsCalm own (on_read here own client seq cell epoch)
unfolding on_read
pair_read here own client seq cell epoch =
    by_test (IsCalm own) (readable here.state here.me cell) _ _ (λ e. pair_says own _ _ (dated_reply seq (reply_to here own cell epoch))) (λ e. calm_silent own)

pair_opens : (here : JobContext) (own : PairState) (want : Wanted) (room : Bool) → IsCalm own (opens here own want room)
pair_opens here own want false = pair_ending own want.client want.seq ending.Full
pair_opens here own want true = pair_goes here (opened here own want) want.cell

pair_newer : (here : JobContext) (own : PairState) (want : Wanted) (kept_back busy : Bool) → IsCalm own (takes_newer here own want kept_back busy)
pair_newer here own want true busy = pair_says own _ _ refl
pair_newer here own want false true = pair_says own _ _ refl
pair_newer here own want false false = pair_opens here own want _

pair_takes : (here : JobContext) (own : PairState) (want : Wanted) (how : Standing) → IsCalm own (takes here own want how)
pair_takes here own want Older = calm_silent own
pair_takes here own want (Again what) = pair_says own _ _ (dated_ending want.seq what)
pair_takes here own want Newer =
    by_test (IsCalm own) (is_pending_for (pending_on own want.cell) want) _ _ (λ e. calm_silent own)
    (λ e. pair_newer here own want (is_kept_back here.state own want.cell) (is_under_way own want.cell))

pub pair_write : (here : JobContext) (own : PairState) (want : Wanted) → IsCalm own (on_write here own want)
unfolding on_write
pair_write here own want =
    by_test (IsCalm own) (is_lead here.state here.me want.cell && nat_lt want.client client_limit) _ _ (λ e. pair_takes here own want _) (λ e. calm_silent own)

-- where an operation is pending, or none
pair_found : (own : PairState) (what : Option Pending → JobResult) → IsCalm own (what None)
    → ((op : Pending) → IsCalm own (what (Some op))) → (o : Option Pending)
    → IsCalm own (what o)
pair_found own what none some None = none
pair_found own what none some (Some op) = some op

pub pair_reserved : (here : JobContext) (own : PairState) (number : ℕ) (cell : Cell) → IsCalm own (on_reserved here own number cell)
unfolding on_reserved
pair_reserved here own number cell = pair_found own (hears_reserved here own number) (calm_silent own)
    (λ op. by_test (IsCalm own) (is_reserving op number) _ _ (λ e. pair_goes here _ op.cell) (λ e. calm_silent own)) (pending_on own cell)

pub pair_pair_full : (here : JobContext) (own : PairState) (number : ℕ) (cell : Cell) → IsCalm own (on_pair_full here own number cell)
unfolding on_pair_full
pair_pair_full here own number cell = pair_found own (hears_pair_full here own number) (calm_silent own)
    (λ op. by_test (IsCalm own) (is_reserving op number && not op.stage.put) _ _
    (λ e. pair_ends here (gives_back (without_pending own op.cell)) op op.kind ending.Full) (λ e. calm_silent own)) (pending_on own cell)

pub pair_replicated : (here : JobContext) (own : PairState) (number : ℕ) (cell : Cell) → IsCalm own (on_replicated here own number cell)
unfolding on_replicated
pair_replicated here own number cell = pair_found own (hears_replicated here own number) (calm_silent own)
    (λ op. by_test (IsCalm own) (is_replicating op number) _ _ (λ e. pair_goes here _ op.cell) (λ e. calm_silent own)) (pending_on own cell)

pair_tells : (here : JobContext) (own : PairState) (cell : Cell) (number : ℕ) (how : FollowProgress) → IsCalm own (tells here own cell number how)
pair_tells here own cell number follow_progress.Reserved = calm_says own _ _ refl
pair_tells here own cell number follow_progress.Replicated = calm_says own _ _ refl

pair_reserves : (here : JobContext) (own : PairState) (cell : Cell) (number : ℕ) (has room : Bool) → IsCalm own (reserves here own cell number has room)
pair_reserves here own cell number true room = pair_tells here _ cell number follow_progress.Reserved
pair_reserves here own cell number false true = pair_tells here _ cell number follow_progress.Reserved
pair_reserves here own cell number false false = calm_says own _ _ refl

pair_hears_reserve : (here : JobContext) (own : PairState) (cell : Cell) (number : ℕ) (o : Option LastOp) → IsCalm own (hears_reserve here own cell number o)
pair_hears_reserve here own cell number None = pair_reserves here own cell number false _
pair_hears_reserve here own cell number (Some last) =
    by_test (IsCalm own) (nat_lt number last.op) _ _ (λ e. calm_silent own)
    (λ e. by_test (IsCalm own) (number == last.op) _ _ (λ f. pair_tells here own cell number last.progress) (λ f. pair_reserves here own cell number _ _))

pub pair_reserve : (here : JobContext) (own : PairState) (number : ℕ) (cell : Cell) → IsCalm own (on_reserve here own number cell)
unfolding on_reserve
pair_reserve here own number cell =
    by_test (IsCalm own) (is_second here.state here.me cell) _ _ (λ e. pair_hears_reserve here own cell number (last_on own cell)) (λ e. calm_silent own)

pair_once : (here : JobContext) (own : PairState) (number : ℕ) (key : Key) (origin : Option Named) (bytes : List ℕ) (how : FollowProgress)
    → IsCalm own (follows_once here own number key origin bytes how)
pair_once here own number key origin bytes follow_progress.Reserved = pair_tells here _ (cell_of key) number follow_progress.Replicated
pair_once here own number key origin bytes follow_progress.Replicated = pair_tells here own (cell_of key) number follow_progress.Replicated

pair_hears_replicate : (here : JobContext) (own : PairState) (number : ℕ) (key : Key) (origin : Option Named) (bytes : List ℕ) (o : Option LastOp)
    → IsCalm own (hears_replicate here own number key origin bytes o)
pair_hears_replicate here own number key origin bytes None = calm_silent own
pair_hears_replicate here own number key origin bytes (Some last) =
    by_test (IsCalm own) (number == last.op) _ _ (λ e. pair_once here own number key origin bytes last.progress) (λ e. calm_silent own)

pub pair_replicate : (here : JobContext) (own : PairState) (number : ℕ) (key : Key) (origin : Option Named) (bytes : List ℕ)
    → IsCalm own (on_replicate here own number key origin bytes)
unfolding on_replicate
pair_replicate here own number key origin bytes =
    by_test (IsCalm own) (is_second here.state here.me (cell_of key)) _ _
    (λ e. pair_hears_replicate here own number key origin bytes (last_on own (cell_of key))) (λ e. calm_silent own)

-- ### A tick

dated_awaited : (here : JobContext) (own : PairState) (op : Pending) (what : Action) (post : Post) → Among post (awaited here own op what) → IsDated post.body
dated_awaited here own op action.Reserve post i = (pair_act here own op action.Reserve).quiet.posts post i
dated_awaited here own op action.Replicate post i = (pair_act here own op action.Replicate).quiet.posts post i
dated_awaited here own op _ post i = no_posts post i

pub dated_again : (here : JobContext) (own : PairState) (rows : List (Cell × Pending)) (post : Post)
    → Among post (flat_map (λ row. sent_again here own row.1) rows)
    → IsDated post.body
dated_again here own [] post i = no_posts post i
dated_again here own (row ∷ rows) post i = elim (in-append post (sent_again here own row.1) (flat_map (λ row. sent_again here own row.1) rows) i) [
  | inl now ↦ dated_awaited here own row.1 _ post now
  | inr later ↦ dated_again here own rows post later
]
