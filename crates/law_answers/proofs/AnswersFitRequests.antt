-- What a request is answered is of its kind: a verdict of its own command, what its Witness says, and what ends a read or a write.
use Rattle.law_answers.proofs.Imports.{◌==◌, ◌||◌, ◌≡◌, Answer, Asked, Bool, By_verdict, By_witness, CauseOf, Command, DiskView, Ending, IsReason, Latest}
use Rattle.law_answers.proofs.Imports.{List, None, Option, Request, Setting, Some, State, Verdict, World, answer_of, by_test, cell_asked, command_of}
use Rattle.law_answers.proofs.Imports.{epoch_for, false, find, is_moving, is_name_taken, is_read, is_some, is_unread, is_write, lacks_disk, latest, lead}
use Rattle.law_answers.proofs.Imports.{may_answer, none_some, read_refusal, read_refusal_at, refl, refusal, same_some, subst, true, true_false}
use Rattle.law_answers.proofs.Imports.{verdict_answer, verdict_for, write_refusal, ℕ}
use Rattle.global_tables.specs.declared.disk.Verdict.TheVariants as verdict
use Rattle.petal_msg.specs.declared.operation.Ending.TheVariants as ending
use Rattle.script_lines.specs.declared.answer.Answer.TheVariants as answer
use Rattle.script_lines.specs.declared.request.Request.TheVariants as request

-- ### Verdicts

-- what is so of each answer that a verdict may give
pub verdict_said : (P : Answer → Type 0) → P answer.Ok → P answer.Exists → P answer.NoDisk → P answer.Moving → (seq : ℕ) (o : Option Latest)
    (given : Answer) → verdict_for seq o ≡ Some given → P given
verdict_said P ok exists unknown moving seq None given e = none_some refl e
verdict_said P ok exists unknown moving seq (Some last) given e =
    by_test (λ x. x ≡ Some given → P given) (last.seq == seq) _ _ (λ t. by last.verdict) (λ f h. none_some refl h) e
  where
    by : (v : Verdict) → verdict_answer v ≡ Some given → P given
    by verdict.Ok h = subst P (same_some h) ok
    by verdict.Waiting h = none_some refl h
    by verdict.Exists h = subst P (same_some h) exists
    by verdict.NoDisk h = subst P (same_some h) unknown
    by verdict.Moving h = subst P (same_some h) moving

-- a verdict is of the request's kind, where a name is taken only of a disk or a snapshot, a disk unknown only to a snapshot or a move, and on
-- the move only to a move
pub verdict_fits : (state : State) (c seq : ℕ) (asked : Request) (given : Answer) (command : Command) (o : Option Latest)
    → command_of c seq asked ≡ Some command → verdict_for seq o ≡ Some given → (given ≡ answer.Exists → is_name_taken state asked ≡ true)
    → (given ≡ answer.NoDisk → lacks_disk state asked ≡ true) → (given ≡ answer.Moving → is_moving state asked ≡ true) → may_answer asked given ≡ true
verdict_fits state c seq asked given command o own so taken unknown moving =
    verdict_said (λ g. given ≡ g → may_answer asked g ≡ true) (λ e. ok asked own) (λ e. exists asked (taken e)) (λ e. lacks asked (unknown e))
    (λ e. moves asked (moving e)) seq o given so refl
  where
    ok : (r : Request) → command_of c seq r ≡ Some command → may_answer r answer.Ok ≡ true
    ok (request.Disk name tuple) e = refl
    ok (request.Snap name snap) e = refl
    ok (request.Move name tuple) e = refl
    ok _ e = none_some refl e

    exists : (r : Request) → is_name_taken state r ≡ true → may_answer r answer.Exists ≡ true
    exists (request.Disk name tuple) e = refl
    exists (request.Snap name snap) e = refl
    exists _ e = true_false e refl

    lacks : (r : Request) → lacks_disk state r ≡ true → may_answer r answer.NoDisk ≡ true
    lacks (request.Snap name snap) e = refl
    lacks (request.Move name tuple) e = refl
    lacks _ e = true_false e refl

    moves : (r : Request) → is_moving state r ≡ true → may_answer r answer.Moving ≡ true
    moves (request.Move name tuple) e = refl
    moves _ e = true_false e refl

-- ### Witnesses

-- what is so of each answer of a state that can't serve a write, or a read
write_refused : (P : Answer → Type 0) (state : State) (o : Option DiskView) (block : ℕ) → P answer.NoDisk → P answer.Unavailable → (given : Answer)
    → write_refusal state o block ≡ Some given → P given
write_refused P state None block unknown gone given e = subst P (same_some e) unknown
write_refused P state (Some disk) block unknown gone given e =
    by_test (λ x. x ≡ Some given → P given) (is_some (lead state (cell_asked state disk block false))) _ _ (λ t h. none_some refl h)
    (λ f h. subst P (same_some h) gone) e

read_refused : (P : Answer → Type 0) (state : State) (o : Option DiskView) (snap : Option (List ℕ)) (block : ℕ) (told : Bool) → P answer.NoDisk
    → ((disk : DiskView) → epoch_for state disk snap ≡ None → P answer.NoSnap) → P answer.Unavailable → (given : Answer)
    → read_refusal state o snap block told ≡ Some given → P given
read_refused P state None snap block told unknown none gone given e = subst P (same_some e) unknown
read_refused P state (Some disk) snap block told unknown none gone given e = by (epoch_for state disk snap) refl e
  where
    by : (o : Option ℕ) → epoch_for state disk snap ≡ o
        → read_refusal_at state (cell_asked state disk block false) (cell_asked state disk block told) o ≡ Some given → P given
    by None is h = subst P (same_some h) (none disk is)
    by (Some epoch) is h =
        by_test (λ x. x ≡ Some given → P given)
        (is_unread state (cell_asked state disk block false) || is_unread state (cell_asked state disk block told)) _ _
        (λ t k. subst P (same_some k) gone) (λ f k. none_some refl k) h

-- why a state can't serve a request is of the request's kind
pub refusal_fits : (state : State) (told : Bool) (asked : Request) (given : Answer) → refusal state told asked ≡ Some given → may_answer asked given ≡ true
unfolding refusal
refusal_fits state told (request.Write name block pattern) given e =
    write_refused (λ g. may_answer (request.Write name block pattern) g ≡ true) state (find state name) block refl refl given e
refusal_fits state told (request.Read name snap block) given e =
    read_refused (λ g. may_answer (request.Read name snap block) g ≡ true) state (find state name) snap block told refl (no_snap snap) refl given e
  where
    no_snap : (snap : Option (List ℕ)) (disk : DiskView) → epoch_for state disk snap ≡ None
        → may_answer (request.Read name snap block) answer.NoSnap ≡ true
    no_snap None disk none = none_some none refl
    no_snap (Some snap) disk none = refl
refusal_fits state told _ given e = none_some refl e

-- ### Entries

-- what an entry of the log may answer: a verdict, or why a state can't serve a request
abbrev pub is_of_entry : Answer → Bool
is_of_entry answer.Ok = true
is_of_entry answer.Exists = true
is_of_entry answer.Moving = true
is_of_entry answer.NoDisk = true
is_of_entry answer.NoSnap = true
is_of_entry answer.Unavailable = true
is_of_entry _ = false

refusal_told : (state : State) (told : Bool) (asked : Request) (given : Answer) → refusal state told asked ≡ Some given → is_of_entry given ≡ true
unfolding refusal
refusal_told state told (request.Write name block pattern) given e =
    write_refused (λ g. is_of_entry g ≡ true) state (find state name) block refl refl given e
refusal_told state told (request.Read name snap block) given e =
    read_refused (λ g. is_of_entry g ≡ true) state (find state name) snap block told refl (λ disk none. refl) refl given e
refusal_told state told _ given e = none_some refl e

pub reason_told : (c : ℕ) (asked : Asked) (given : Answer) (state : State) (entry : Command) → IsReason c asked given state entry
    → is_of_entry given ≡ true
reason_told c asked given state entry (By_verdict command own so) =
    verdict_said (λ g. is_of_entry g ≡ true) refl refl refl refl asked.seq (latest state c) given so
reason_told c asked given state entry (By_witness none is so) = refusal_told state asked.saw_missing asked.request given so

-- ### Reads and writes

pub read_may : (asked : Request) (bytes : List ℕ) → is_read asked ≡ true → may_answer asked (answer.Data bytes) ≡ true
read_may (request.Read name snap block) bytes e = refl
read_may _ bytes e = true_false e refl

pub write_may : (asked : Request) (how : Ending) → is_write asked ≡ true → may_answer asked (answer_of how) ≡ true
write_may (request.Write name block pattern) ending.Written e = refl
write_may (request.Write name block pattern) ending.Full e = refl
write_may _ how e = true_false e refl

-- ### Causes

-- what has its cause is of the request's kind
pub cause_fits : (setting : Setting) (w : World) (c seq : ℕ) (asked : Request) (o : Option Command) (given : Answer) → CauseOf setting w c seq asked o given
    → may_answer asked given ≡ true
cause_fits setting w c seq asked (Some command) given h = h.fits
cause_fits setting w c seq asked None answer.NoDisk h = h.fits
cause_fits setting w c seq asked None answer.NoSnap h = h.fits
cause_fits setting w c seq asked None answer.Unavailable h = h.fits
cause_fits setting w c seq asked None answer.Ok h = h
cause_fits setting w c seq asked None (answer.Data bytes) h = h
cause_fits setting w c seq asked None answer.NoSpace h = h
cause_fits setting w c seq asked None answer.Exists h = h
cause_fits setting w c seq asked None answer.Moving h = h
cause_fits setting w c seq asked None answer.Failed h = h
