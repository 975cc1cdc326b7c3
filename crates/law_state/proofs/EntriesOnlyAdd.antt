-- Plain entries keep a state plain, and only add to its tables, but for servers that leave and join, and links that are in Both again.
use Rattle.law_state.proofs.Imports.{[], ◌+◌, ◌∷◌, ◌≡◌, Command, In, LinkRow, List, Member, Some, State, Whole, act, after, ap, arith, fold, inl, inr}
use Rattle.law_state.proofs.Imports.{last_inc, length-replicate, none_some, refl, replicate, same_some, settled, slice_get, start, state_after, suc, sym}
use Rattle.law_state.proofs.Imports.{with_disk, with_fence, with_move, zero, ℕ}
use Rattle.law_state.specs.Plain.{HasProperTuple, HasProperTuples}
use Rattle.law_state.specs.Tables.{IsSettledState}
use Rattle.law_state.proofs.Fences.{Acted, acts_not, renumbered, untabled}
use Rattle.law_state.proofs.GrownStates.{Step, grown_on, stays}
use Rattle.law_state.proofs.Leaves.{leaving}
use Rattle.law_state.proofs.Joins.{joining}
use Rattle.law_state.proofs.Caughts.{acting_caught, catching}
use Rattle.law_state.proofs.MapsAreAdded.{making}
use Rattle.law_state.proofs.MovesOfDisks.{begins, noting, onward, over}
use Rattle.law_state.proofs.FencesPass.{settling}
use Rattle.law_state.proofs.SnapsQueueFences.{draining, snapping}
use Rattle.law_state.proofs.EntryOutcomes.{Begins, Catches_up, Ends, Joins, Leaves, Makes, Moves_on, Notes, Outcome, Queues, Reports, Tells, Unchanged}
use Rattle.law_state.proofs.EntryOutcomes.{outcome}
use Rattle.global_tables.specs.declared.fence.Member.TheVariants as member

acted : (servers : ℕ) (s : State) (p : IsSettledState servers s) (entry : Command) (t : State) → Outcome servers s p entry t → Acted servers s t
acted servers s p _ _ (Unchanged entry old) = acts_not servers s p
acted servers s p _ _ (Tells entry client seq verdict asks new why) = untabled servers s.rev _ s s (acts_not servers s p)
acted servers s p _ _ (Joins server inc blank may) = joining servers s p server inc blank may
acted servers s p _ _ (Leaves server inc is) = leaving servers s p server inc is
acted servers s p _ _ (Catches_up of link holder inc other other_inc acts) = catching (acting_caught p acts)
acted servers s p _ _ (Makes client seq name tuple new fresh proper) =
    untabled servers s.rev _ s (with_disk s name tuple) (making servers s p name tuple fresh proper)
acted servers s p _ _ (Queues client seq disk name new row found free) =
    untabled servers s.rev _ s (with_fence s (Whole row.id name client seq)) (snapping servers s p client seq disk name row found free)
acted servers s p _ _ (Begins client seq disk tuple new row found still proper) =
    untabled servers s.rev _ s (with_move s tuple row.id) (begins servers s p disk tuple row found still proper)
acted servers s p _ _ (Reports server inc fence head up) = draining servers s p server
acted servers s p _ _ (Notes of region link h some) = noting servers s p of region link h some
acted servers s p _ _ (Moves_on of region link h every more) = onward servers s p of region link h every more
acted servers s p _ _ (Ends of region link h every last) = over servers s p of region link h every last

pub acting : (servers : ℕ) (s : State) (command : Command) → IsSettledState servers s → HasProperTuple servers command → Acted servers s (act command s)
acting servers s command p proper = acted servers s p command (act command s) (outcome servers s p command proper)

pub entering : (servers : ℕ) (s : State) (command : Command) → IsSettledState servers s → HasProperTuple servers command → Step servers s (after s command)
entering servers s command p is =
    let one = acting servers s command p is in
    let two = settling servers (act command s) one.plain in
    renumbered servers (s.rev + 1) s (settled (act command s))
    (record { plain = two.plain; grown = grown_on s (act command s) (settled (act command s)) one.grown two.grown })

pub folding : (servers : ℕ) (log : List Command) (s : State) → IsSettledState servers s → HasProperTuples servers log → Step servers s (fold after s log)
unfolding In
folding servers [] s p all = stays servers s p
folding servers (command ∷ log) s p all =
    let one = entering servers s command p (all command (inl refl)) in
    let later = folding servers log (after s command) one.plain (λ other h. all other (inr h)) in
    record { plain = later.plain; grown = grown_on s (after s command) _ one.grown later.grown }

-- at the start each server is In with incarnation 1
pub in_at_start : (servers n : ℕ) (m : Member) → slice_get (replicate servers (member.In 1)) n ≡ Some m → m ≡ member.In 1
in_at_start zero n m e = none_some refl e
in_at_start (suc servers) zero m e = sym (same_some e)
in_at_start (suc servers) (suc n) m e = in_at_start servers n m e

no_row : {A : Type 0} (row : LinkRow) → In row [] → A
unfolding In
no_row row h = absurd h

pub start_plain : (servers : ℕ) → IsSettledState servers (start servers)
start_plain servers = record {
  unsettled = record {
    many = length-replicate servers (member.In 1);
    members = λ n m e. let one : last_inc m ≡ 1 = ap last_inc (in_at_start servers n m e) in omega arith;
    fences = record {
      each = λ i fence e. none_some refl e;
      apart = λ i j one other disk client seq later again name e f kind like. none_some refl e;
      once = λ i j one other disk region later e f kind like. none_some refl e;
      present = λ fence n e waits. none_some refl e;
    };
    made = refl;
    homes = λ of disk e. none_some refl e;
    rows = λ i row e. none_some refl e;
    names = λ i j one other e. none_some refl e;
    tuples = λ of tuple e. none_some refl e;
    links = λ of link tuple e lt has. none_some refl e;
    unlinked = λ of link none. refl;
    found = λ row h. no_row row h;
  };
  waits = λ fence e. none_some refl e;
}

pub log_plain : (servers : ℕ) (log : List Command) → HasProperTuples servers log → IsSettledState servers (state_after servers log)
log_plain servers log all = (folding servers log (start servers) (start_plain servers) all).plain
