-- Which answers are `failed`, what answers a line that names a server, and why a boot leaves its server stopped.
use Rattle.law_answers.proofs.Imports.{if◌then◌else◌, ◌∙◌, ◌≡◌, ◌≢◌, ◌⊎◌, Acted, Answer, Asked, Blanks_it, Bool, Boot, Booted, By_verdict, By_witness}
use Rattle.law_answers.proofs.Imports.{Command, Deed, Ending, Fails_it, Has_no_space, IsDone, IsReason, IsSeenAs, Is_settled, JobContext, Option, Request}
use Rattle.law_answers.proofs.Imports.{Shown_by, Some, Starts_it, State, Stops_at, Stops_it, WorkEnd, World, answer_of, ap, awake, boots, by_test, command_of}
use Rattle.law_answers.proofs.Imports.{false, has_full_log, inl, inr, is_read, is_write, names, none_some, raised, refl, refusal, same_some, stays, subst}
use Rattle.law_answers.proofs.Imports.{sym, true, true_false, wakes, ℕ}
use Rattle.law_answers.proofs.AnswersFitRequests.{is_of_entry, reason_told}
use Rattle.law_answers.specs.FailureCauses.{IsReasonToFail, Device_failed, Journal_full}
use Rattle.law_answers.specs.Glances.{Tells}
use Rattle.law_answers.specs.Lines.{AsksToBoot}
use Rattle.petal_msg.specs.declared.operation.Ending.TheVariants as ending
use Rattle.script_lines.specs.declared.answer.Answer.TheVariants as answer
use Rattle.script_lines.specs.declared.request.Request.TheVariants as request
use Rattle.spec_rules.specs.declared.step.WorkEnd.TheVariants as work_end

-- ### Which answers are `failed`

-- a glance alone says so, of a start or a blank whose server does not run
pub record IsFailed (asked : Request) (running : Bool) : Type 0 where
  pub server : ℕ
  pub boots : AsksToBoot asked server
  pub rests : running ≡ false

where_it_runs : (asked : Request) (running : Bool) (server : ℕ) → AsksToBoot asked server → answer.Failed ≡ (if running then answer.Ok else answer.Failed)
    → IsFailed asked running
where_it_runs asked running server boots =
    by_test (λ a. answer.Failed ≡ a → IsFailed asked running) running answer.Ok answer.Failed
    (λ on f. let g : answer.Failed ≡ answer.Ok = f in absurd (cc)) (λ off f. record { server = server; boots = boots; rests = off })

pub seen_failed : (state : State) (asked : Asked) (sight : Shown_by) → IsSeenAs state asked sight answer.Failed → IsFailed asked.request sight.running
seen_failed state asked sight (Stops_it server is e) = let f : answer.Failed ≡ answer.Ok = e in absurd (cc)
seen_failed state asked sight (Stops_at server at is e) = let f : answer.Failed ≡ answer.Ok = e in absurd (cc)
seen_failed state asked sight (Fails_it server which kind at is e) = let f : answer.Failed ≡ answer.Ok = e in absurd (cc)
seen_failed state asked sight (Starts_it server is e) = where_it_runs asked.request sight.running server (inl is) e
seen_failed state asked sight (Blanks_it server is e) = where_it_runs asked.request sight.running server (inr is) e
seen_failed state asked sight (Has_no_space is full e) = let f : answer.Failed ≡ answer.NoSpace = e in absurd (cc)
seen_failed state asked sight (Is_settled is round seen all e) = let f : answer.Failed ≡ answer.Ok = e in absurd (cc)

pub ending_not : (how : Ending) → answer_of how ≢ answer.Failed
ending_not ending.Written e = absurd (cc)
ending_not ending.Full e = absurd (cc)

pub reason_not : (c : ℕ) (asked : Asked) (given : Answer) (state : State) (entry : Command) → given ≡ answer.Failed
    → IsReason c asked given state entry → ⊥
reason_not c asked given state entry e reason = true_false (reason_told c asked given state entry reason) (ap is_of_entry e)

-- ### What answers a line that names a server

pub not_read : (asked : Request) (n : ℕ) → (names asked).server ≡ Some n → is_read asked ≡ true → ⊥
not_read (request.Read name snap block) n named read = none_some refl named
not_read _ n named read = true_false read refl

pub not_written : (asked : Request) (n : ℕ) → (names asked).server ≡ Some n → is_write asked ≡ true → ⊥
not_written (request.Write name block pattern) n named write = none_some refl named
not_written _ n named write = true_false write refl

no_command : (c seq : ℕ) (asked : Request) (n : ℕ) (command : Command) → (names asked).server ≡ Some n → command_of c seq asked ≡ Some command → ⊥
no_command c seq (request.Disk name tuple) n command named own = none_some refl named
no_command c seq (request.Snap name snap) n command named own = none_some refl named
no_command c seq (request.Move name tuple) n command named own = none_some refl named
no_command c seq _ n command named own = none_some refl own

no_refusal : (state : State) (told : Bool) (asked : Request) (n : ℕ) (given : Answer) → (names asked).server ≡ Some n
    → refusal state told asked ≡ Some given → ⊥
unfolding refusal
no_refusal state told (request.Write name block pattern) n given named so = none_some refl named
no_refusal state told (request.Read name snap block) n given named so = none_some refl named
no_refusal state told _ n given named so = none_some refl so

-- no entry does
pub not_judged : (c : ℕ) (asked : Asked) (n : ℕ) (given : Answer) (state : State) (entry : Command) → (names asked.request).server ≡ Some n
    → IsReason c asked given state entry → ⊥
not_judged c asked n given state entry named (By_verdict command own so) = no_command c asked.seq asked.request n command named own
not_judged c asked n given state entry named (By_witness none is so) = no_refusal state asked.saw_missing asked.request n given named so

-- a glance is at the server that its line names
pub glanced_at : (asked : Request) (n m : ℕ) (running : Bool) (before : Option (ℕ × Deed)) → IsDone asked n running before
    → (names asked).server ≡ Some m → n ≡ m
glanced_at (request.Stop server) n m running before done named = sym done.0 ∙ same_some named
glanced_at (request.StopAt server at) n m running before done named = sym done ∙ same_some named
glanced_at (request.Fault server which kind at) n m running before done named = sym done ∙ same_some named
glanced_at (request.Start server) n m running before done named = sym done.0 ∙ same_some named
glanced_at (request.Blank server) n m running before done named = sym done.0 ∙ same_some named
glanced_at _ n m running before never named = absurd never

-- what a line that names a server is answered, where its glance shows whether the server runs
abbrev pub AnsweredAs : Request → (running : Bool) → Answer → Type 0
AnsweredAs (request.Stop server) running given = given ≡ answer.Ok
AnsweredAs (request.StopAt server at) running given = given ≡ answer.Ok
AnsweredAs (request.Fault server which kind at) running given = given ≡ answer.Ok
AnsweredAs (request.Start server) running given = given ≡ (if running then answer.Ok else answer.Failed)
AnsweredAs (request.Blank server) running given = given ≡ (if running then answer.Ok else answer.Failed)
AnsweredAs _ running given = ⊥

pub seen_as : (state : State) (asked : Asked) (sight : Shown_by) (given : Answer) (n : ℕ) → (names asked.request).server ≡ Some n
    → IsSeenAs state asked sight given → AnsweredAs asked.request sight.running given
seen_as state asked sight given n named (Stops_it server is e) = subst (λ r. AnsweredAs r sight.running given) (sym is) e
seen_as state asked sight given n named (Stops_at server at is e) = subst (λ r. AnsweredAs r sight.running given) (sym is) e
seen_as state asked sight given n named (Fails_it server which kind at is e) = subst (λ r. AnsweredAs r sight.running given) (sym is) e
seen_as state asked sight given n named (Starts_it server is e) = subst (λ r. AnsweredAs r sight.running given) (sym is) e
seen_as state asked sight given n named (Blanks_it server is e) = subst (λ r. AnsweredAs r sight.running given) (sym is) e
seen_as state asked sight given n named (Has_no_space is full e) = none_some (ap (λ r. (names r).server) is) named
seen_as state asked sight given n named (Is_settled is round seen all e) = none_some (ap (λ r. (names r).server) is) named

-- and the answer tells what it saw
pub told_by : (asked : Request) (n : ℕ) (running : Bool) (before : Option (ℕ × Deed)) (given : Answer) → IsDone asked n running before
    → AnsweredAs asked running given → Tells asked running given
told_by (request.Stop server) n running before given done seen = (done.1, seen)
told_by (request.StopAt server at) n running before given done seen = seen
told_by (request.Fault server which kind at) n running before given done seen = seen
told_by (request.Start server) n running before given done seen = seen
told_by (request.Blank server) n running before given done seen = seen
told_by _ n running before given never seen = absurd never

-- ### Boots

-- a line that boots a server names it, and is done with it where the server runs or was booted
pub boots_named : (asked : Request) (n : ℕ) → AsksToBoot asked n → (names asked).server ≡ Some n
boots_named asked n (inl is) = ap (λ r. (names r).server) is
boots_named asked n (inr is) = ap (λ r. (names r).server) is

pub done_booted : (asked : Request) (m n : ℕ) (running : Bool) (before : Option (ℕ × Deed)) → AsksToBoot asked m → IsDone asked n running before
    → (running ≡ true) ⊎ (before ≡ Some (n, Booted))
done_booted asked m n running before (inl is) done = (subst (λ r. IsDone r n running before) is done).1
done_booted asked m n running before (inr is) done = inr (subst (λ r. IsDone r n running before) is done).1

-- a boot leaves its server stopped for a reason
pub boot_why : (w : World) (n : ℕ) (here : JobContext) (end : WorkEnd) → (boots here (w.servers n) end).server.life.running ≡ false
    → IsReasonToFail w n (Boot end)
boot_why w n here work_end.Done =
    by_test (λ (a : Acted). a.server.life.running ≡ false → IsReasonToFail w n (Boot work_end.Done)) (has_full_log (raised (w.servers n)))
    (stays (w.servers n)) (wakes here (awake (raised (w.servers n))))
    (λ full rests. Journal_full refl full) (λ room rests. true_false refl rests)
boot_why w n here (work_end.Fault end) = λ rests. Device_failed end refl
