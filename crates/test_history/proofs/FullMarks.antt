-- A mark that was not set is one more, for which there is no room where there are all already: the lead's job stops it.
use Rattle.std.proofs.Common.{◌≡◌, ◌+◌, ◌||◌, if◌then◌else◌, Bool, true, false, List, [], ◌∷◌, length, nat_lt, refl, sym, ap, ◌∙◌, arith}
use Rattle.std.specs.BTreeSet.{insert_key}
use Rattle.std.specs.Ordering.{is_eq, match_ordering}
use Rattle.std.specs.declared.cmp.Ordering.TheVariants.{Less, Equal, Greater}
use Rattle.busy_marks.specs.declared.marks.Mark.{Mark}
use Rattle.busy_marks.specs.declared.marks.MarkKind.{MarkKind}
use Rattle.busy_marks.specs.declared.marks.MarkKind.TheVariants.{Busy}
use Rattle.busy_marks.specs.Marks.{has_mark, mark_cmp, same_mark, with_mark}
use Rattle.busy_marks.proofs.Orders.{ties}
use Rattle.petal_base.specs.declared.cell.Cell.{Cell}
use Rattle.petal_base.specs.Limits.{marks_limit}
use Rattle.petal_table.specs.Table.{at, put}
use Rattle.spec_history.specs.Examples.{cell_at}
use Rattle.spec_rules.specs.Clients.{refusal}
use Rattle.spec_rules.specs.Jobs.{does, handles, here_of, is_overfull, job_done, stops, works}
use Rattle.spec_rules.specs.Lists.{put_at}
use Rattle.spec_rules.specs.Server.{JobContext, Server}
use Rattle.spec_rules.specs.Store.{Store, is_marked, mark_on, marked_by, with_mark_on}
use Rattle.spec_rules.specs.World.{server_state, step}
use Rattle.spec_rules.specs.Writes.{goes_on, on_write, on_reserve, on_reserved}
use Rattle.spec_rules.specs.declared.job.Job.{Job}
use Rattle.test_history.specs.Stops.{AreAllMarks, marked_world, trio}

length_more : (m : Mark) (ms : List Mark) → has_mark m ms ≡ false → length (with_mark ms m) ≡ length ms + 1
length_more m [] none = refl
length_more m (x ∷ ms) none =
    elim (mark_cmp m x) as (λ o. mark_cmp m x ≡ o → length (match_ordering o (m ∷ x ∷ ms) (x ∷ ms) (x ∷ insert_key mark_cmp ms m)) ≡ length (x ∷ ms) + 1) [
      | Less ↦ λ _. omega arith
      | Equal ↦ λ same.
          let there : same_mark x m ≡ true = sym (ties m x) ∙ ap is_eq same in
          let clash : true ≡ false = sym (ap (λ b. b || has_mark m ms) there) ∙ none in absurd (cc)
      | Greater ↦ λ more.
          let other : same_mark x m ≡ false = sym (ties m x) ∙ ap is_eq more in
          let rest = length_more m ms (sym (ap (λ b. b || has_mark m ms) other) ∙ none) in omega (arith, rest)
    ] refl

marked_more : (store : Store) (kind : MarkKind) (cell : Cell) → marked_by store ≡ marks_limit → is_marked store kind cell ≡ false
    → marked_by (with_mark_on store kind cell) ≡ marks_limit + 1
marked_more store kind cell all other = let more = length_more (mark_on kind cell) store.marks other in omega (arith, more, all)

-- there is no room for the first job
abbrev meets_full : JobContext → Server → List Job → Bool
meets_full here server [] = false
meets_full here server (first ∷ rest) = is_overfull (job_done here server first rest).server

stops_full : (here : JobContext) (server : Server) (queue : List Job) → meets_full here server queue ≡ true → works here server queue ≡ stops here server
stops_full here server [] full = absurd (cc)
stops_full here server (first ∷ rest) full = ap (λ b. if b then stops here server else job_done here server first rest) full

abbrev pub lead_in : List Mark → Server
lead_in marks = (marked_world marks).servers 0

abbrev pub here_in : List Mark → JobContext
here_in marks = here_of (server_state trio (marked_world marks) 0) 0 (lead_in marks)

pub lead_stops : (marks : List Mark) → AreAllMarks marks → works (here_in marks) (lead_in marks) (lead_in marks).queue ≡ stops (here_in marks) (lead_in marks)
unfolding at put put_at goes_on on_write on_reserve on_reserved handles does refusal step
lead_stops marks are =
    stops_full (here_in marks) (lead_in marks) (lead_in marks).queue
    (ap (nat_lt marks_limit) (marked_more (lead_in marks).own.store Busy (cell_at 0) are.all are.other))
