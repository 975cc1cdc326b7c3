-- What a tick sends, part after part.
use Rattle.std.proofs.Common.{◌≡◌, true, ℕ, suc, ◌+◌, List, [], ◌∷◌, ◌++◌, length, if◌then◌else◌, refl, sym, ap, ◌∙◌, arith}
use Rattle.std.specs.List.{flat_map}
use Rattle.std.specs.Prelude.{◌-◌, ◌%◌}
use Rattle.spec_rules.proofs.Applied.{servers_after}
use Rattle.spec_rules.proofs.Letters.{letters_append}
use Rattle.server_log.specs.Part.{log_of, sender_of}
use Rattle.petal_msg.specs.declared.letter.Letter.{Letter}
use Rattle.spec_paxos.specs.declared.record.StateRecord.{StateRecord}
use Rattle.spec_rules.specs.Ballots.{ballot_posts, ask_posts, start_jobs, wanted}
use Rattle.spec_rules.specs.Copies.{copy_posts, repair_jobs, page_posts}
use Rattle.spec_rules.specs.Fills.{fill_posts}
use Rattle.spec_rules.specs.Jobs.{copies_again, own_wants, sent_again, tick_jobs, tick_posts, ticks, voter_of}
use Rattle.spec_rules.specs.Log.{Voter}
use Rattle.spec_rules.specs.Server.{JobContext, PairState, Post, Sender, letters_of, sender}
use Rattle.spec_rules.specs.State.{is_in}
use Rattle.spec_rules.specs.Store.{Store}
use Rattle.spec_rules.specs.Sweeping.{sweep_jobs}
use Rattle.spec_rules.specs.declared.job.Job.{Job}
use Rattle.server_core.specs.ServerView.{ServerView, acted, here_in, server_of}
use Rattle.server_jobs.specs.Wants.{own_in, wants_in}
use Rattle.server_core.proofs.Works.{voter_is}

count_letters : (who : Sender) (n : ℕ) (ps : List Post) → length (letters_of who n ps) ≡ length ps
count_letters who n [] = refl
count_letters who n (p ∷ ps) = ap (λ (k : ℕ). suc k) (count_letters who (n + 1) ps)

with_more : (who : Sender) (b p : List Post) (before all : List Letter) → before ≡ letters_of who 0 b → all ≡ before ++ letters_of who (length before) p
    → all ≡ letters_of who 0 (b ++ p)
with_more who b p before all is more =
    let count : length (letters_of who 0 b) ≡ 0 + length b = let e = count_letters who 0 b in omega arith in
    more ∙ ap (λ (ls : List Letter). ls ++ letters_of who (length ls) p) is
    ∙ ap (λ (k : ℕ). letters_of who 0 b ++ letters_of who k p) count ∙ sym (letters_append who 0 b p)

tick_sent : (who : Sender) (b p k a : List Post) (ballot pending copies all : List Letter) → ballot ≡ letters_of who 0 b
    → pending ≡ ballot ++ letters_of who (length ballot) p → copies ≡ pending ++ letters_of who (length pending) k
    → all ≡ copies ++ letters_of who (length copies) a → all ≡ letters_of who 0 (b ++ p ++ k ++ a)
tick_sent who b p k a ballot pending copies all first second third last =
    with_more who (b ++ p ++ k) a copies all (with_more who (b ++ p) k pending copies (with_more who b p ballot pending first second) third) last

-- while the server is In as itself, those of copies and fills go out again
pub again_in : (here : JobContext) (own : PairState) → is_in here.state here.me here.inc ≡ true
    → copies_again here own ≡ copy_posts here own ++ page_posts here own ++ fill_posts here own
again_in here own may = rw may refl

-- all letters of a tick
pub tick_all : (core : ServerView) (store : Store) (records : List StateRecord) (ballot pending copies all : List Letter)
    → ballot ≡ letters_of (sender_of core.log) 0 (ballot_posts core.log.voter core.log.phase)
    → ((own : PairState)
    → pending ≡ ballot ++ letters_of (sender (here_in core)) (length ballot) (flat_map (λ row. sent_again (here_in core) own row.1) core.side.pending))
    → copies ≡ pending ++ letters_of (sender (here_in core)) (length pending) (copies_again (here_in core) (own_in core.side store))
    → all ≡ copies ++ letters_of (sender_of core.log) (length copies) (ask_posts core.log.voter (log_of core.log records))
    → all ≡ letters_of (sender (here_in core)) 0 (tick_posts (here_in core) (server_of core store records))
tick_all core store records ballot pending copies all first second third last = at_voter (voter_of (here_in core)) (voter_is core)
  where
    at_voter : (voter : Voter) → voter ≡ core.log.voter → all ≡ letters_of (sender_of core.log) 0
        (ballot_posts voter core.log.phase
        ++ flat_map (λ row. sent_again (here_in core) (server_of core store records).own row.1) core.side.pending
        ++ copies_again (here_in core) (own_in core.side store)
        ++ ask_posts voter (log_of core.log records))
    at_voter voter is =
        rw is (tick_sent (sender_of core.log) (ballot_posts core.log.voter core.log.phase) _ (copies_again (here_in core) (own_in core.side store))
        (ask_posts core.log.voter (log_of core.log records)) ballot pending copies all first (second (server_of core store records).own) third last)

-- the jobs of a tick that are of links and of what is kept
abbrev pub link_jobs : ServerView → Store → List Job
link_jobs core store =
    let here = here_in core in
    let own = own_in core.side store in
    if is_in here.state core.log.voter.me core.log.voter.inc then repair_jobs here own ++ sweep_jobs here own else []

-- the jobs that a tick queues
pub tick_queued : (core : ServerView) (store : Store) (records : List StateRecord) (starts links all : List Job)
    → starts ≡ start_jobs core.log.phase (wants_in core.log core.side store)
    → links ≡ link_jobs core store
    → all ≡ starts ++ links → all ≡ tick_jobs (here_in core) (server_of core store records)
tick_queued core store records starts links all first second is =
    is ∙ (λ i. first i ++ second i)
    ∙ ap (λ (voter : Voter). start_jobs core.log.phase (wanted voter (log_of core.log records) (own_wants (here_in core) (own_in core.side store)))
    ++ link_jobs core store)
    (sym (voter_is core))

-- a tick is done as the rule says
pub ticked : (old new : ServerView) (store : Store) (records : List StateRecord) (letters : List Letter) (asks : ℕ) (jobs : List Job)
    → letters ≡ letters_of (sender (here_in old)) 0 (tick_posts (here_in old) (server_of old store records))
    → asks ≡ (old.log.asks + 1) % (old.log.voter.servers - 1)
    → jobs ≡ tick_jobs (here_in old) (server_of old store records)
    → new ≡ record old { log = record old.log { asks = asks }; queue = old.queue ++ jobs }
    → acted new store records letters ≡ ticks (here_in old) (server_of old store records)
ticked old new store records letters asks jobs sent next queued is =
    rw (is, sent, next, queued) (rw (servers_after old.log.voter.servers old.log.applied) refl)
