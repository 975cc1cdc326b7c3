-- What a client's step makes of its open request, what it sends for a read, and which letter it answers with data.
use Rattle.law_answers.proofs.Imports.{◌+◌, ◌<◌, ◌∙◌, ◌≡◌, ◌≤◌, A_read, A_write, Anew, Answer, As_it_was, Asked, Begins, Blanks_it, Body, Bool, Cell, Client}
use Rattle.law_answers.proofs.Imports.{DiskView, Ending, Ends, Fails_it, Goes_on, Has_no_space, In, IsSame, IsSeenAs, Is_settled, Is_told, Judges, Line, List}
use Rattle.law_answers.proofs.Imports.{None, Of_the_log, Option, Post, Reaction, Reads, Says, Shown, Sight, Some, Starts_it, State, StaysOpen, Stops_at}
use Rattle.law_answers.proofs.Imports.{Stops_it, Turned, answer_of, ap, arith, by_bool, by_test, cell_asked, false, find, inl, inr, is_logged, is_read}
use Rattle.law_answers.proofs.Imports.{length, next_line, none_some, refl, same_or_apart, same_some, state_after, subject_of, subst, sym, true, true_false, ℕ}
use Rattle.law_answers.proofs.AnswersFitRequests.{is_of_entry, reason_told}
use Rattle.law_steps.specs.DidClient.{WasSent}
use Rattle.law_answers.proofs.OldMapByRevision.{Stays}
use Rattle.petal_msg.specs.declared.body.Body.TheVariants as body
use Rattle.petal_msg.specs.declared.operation.Ending.TheVariants as ending
use Rattle.script_lines.specs.declared.answer.Answer.TheVariants as answer

-- ### The way of an open request

-- how a request that stays open stands: as before; or sent at a later revision, by the new map; or told just now that the new map has
-- nothing, at the revision of its latest send, and so by the old one
pub data OnWay (heard : ℕ → Body → Type 0) (old new : Asked) : Type 0 where
  As_before : new.rev ≡ old.rev → new.old_way ≡ old.old_way → OnWay heard old new
  Later : old.rev < new.rev → new.old_way ≡ false → OnWay heard old new
  Turns : heard old.rev (body.NotHere old.seq) → old.old_way ≡ false → new.rev ≡ old.rev → new.old_way ≡ true → OnWay heard old new

-- the request that is open after the step was called in it, or was open before
pub data HasWay (heard : ℕ → Body → Type 0) (lines : List Line) (c : ℕ) (client : Client) (new : Asked) : Bool → Type 0 where
  Is_called : (line : Line) → next_line lines c client ≡ Some line → client.asked ≡ None → new.line ≡ line.number → new.seq ≡ client.seq + 1
      → new.old_way ≡ false → HasWay heard lines c client new true
  Was_open : (old : Asked) → client.asked ≡ Some old → new.seq ≡ old.seq → new.line ≡ old.line → OnWay heard old new
      → HasWay heard lines c client new false

module _ (heard : ℕ → Body → Type 0) (lines : List Line) (c : ℕ) (client : Client) (new : Asked) where
  -- sent anew where it did not go the old way at this revision, or where the revision is a later one
  anew : (old : Asked) (rev : ℕ) → old.rev ≤ rev → new.rev ≡ rev → new.old_way ≡ false → (old.old_way ≡ true → new.rev ≡ old.rev → new.old_way ≡ true)
      → OnWay heard old new
  anew old rev low at way stays = elim (same_or_apart new.rev old.rev) [
    | inr ne ↦ Later (omega arith) way
    | inl same ↦ by_bool old.old_way (λ t. true_false (stays t same) way) (λ f. As_before same (way ∙ sym f))
  ]

  told_way : (old : Asked) (rev : ℕ) → old.rev ≤ rev → heard old.rev (body.NotHere old.seq)
      → (old.old_way ≡ true → new.rev ≡ old.rev → new.old_way ≡ true)
      → WasSent rev (record old { saw_missing = true; old_way = true }) new → OnWay heard old new
  told_way old rev low told stays (As_it_was at way) = by_bool old.old_way (λ t. As_before at (way ∙ sym t)) (λ f. Turns told f at way)
  told_way old rev low told stays (Anew at way) = anew old rev low at way stays

  sent_way : (old : Asked) (rev : ℕ) → old.rev ≤ rev → (old.old_way ≡ true → new.rev ≡ old.rev → new.old_way ≡ true) → WasSent rev old new
      → OnWay heard old new
  sent_way old rev low stays (As_it_was at way) = As_before at way
  sent_way old rev low stays (Anew at way) = anew old rev low at way stays

  open_way : (rev : ℕ) (o : Option Asked) → client.asked ≡ o → ((old : Asked) → o ≡ Some old → old.rev ≤ rev)
      → ((old : Asked) → o ≡ Some old → old.old_way ≡ true → new.rev ≡ old.rev → new.old_way ≡ true) → StaysOpen rev o (Some new)
      → HasWay heard lines c client new false
  open_way rev None is low stays same = absurd same
  open_way rev (Some old) is low stays same = Was_open old is same.seq same.line (sent_way old rev (low old refl) (stays old refl) same.sent)

  pub turned_way : (servers : ℕ) (in_call : Bool) (reacted : Reaction) → Turned heard servers lines c client in_call reacted
      → (in_call ≡ false → Stays client.asked reacted.client.asked)
      → ((old : Asked) → client.asked ≡ Some old → old.rev ≤ length reacted.client.applied)
      → reacted.client.asked ≡ Some new → HasWay heard lines c client new in_call
  turned_way servers _ _ (Goes_on reacted seq stays says) way low is =
      open_way (length reacted.client.applied) client.asked refl low (λ old o t same. way refl old new o is t same)
      (subst (StaysOpen (length reacted.client.applied) client.asked) is stays)
  turned_way servers _ _ (Is_told reacted asked told was reads seq stays says) way low is =
      let same : IsSame (length reacted.client.applied) (record asked { saw_missing = true; old_way = true }) new =
      subst (StaysOpen (length reacted.client.applied) (Some (record asked { saw_missing = true; old_way = true }))) is stays in
      Was_open asked was same.seq same.line
      (told_way asked (length reacted.client.applied) (low asked was) told (λ t e. way refl asked new was is t e) same.sent)
  turned_way servers _ _ (Begins reacted line asked next free seq now called says) way low is =
      let same : asked ≡ new = same_some (sym now ∙ is) in
      Is_called line next free (ap (λ (a : Asked). a.line) (sym same) ∙ called.line_is) (ap (λ (a : Asked). a.seq) (sym same) ∙ called.seq_is)
      (ap (λ (a : Asked). a.old_way) (sym same) ∙ called.new_way)
  turned_way servers _ _ (Reads asked bytes told was reads) way low is = none_some refl is
  turned_way servers _ _ (Ends asked how told was writes) way low is = none_some refl is
  turned_way servers _ _ (Shown asked rev sight given told was seen) way low is = none_some refl is
  turned_way servers _ _ (Judges after asked given was gone seq judged) way low is = none_some gone is

-- ### What it sends for a read

-- the letter of the client's open request, by the state of its revision, and of the old map where the request goes that way
pub record Asks (state : State) (c : ℕ) (open_now : Option Asked) (client seq : ℕ) (cell : Cell) : Type 0 where
  pub same : client ≡ c
  pub asked : Asked
  pub is : open_now ≡ Some asked
  pub seq_is : asked.seq ≡ seq
  pub name : List ℕ
  pub block : ℕ
  pub disk : DiskView
  pub found : find state name ≡ Some disk
  pub cell_is : cell ≡ cell_asked state disk block asked.old_way
  pub rev_is : asked.rev ≡ state.rev

logged_no_read : {B : Type 0} (said : Body) (client seq : ℕ) (cell : Cell) (epoch : ℕ) → is_logged (subject_of said) ≡ true
    → said ≡ body.Read client seq cell epoch → B
logged_no_read said client seq cell epoch logged is = true_false logged (ap (λ (b : Body). is_logged (subject_of b)) is)

says_read : (state : State) (c : ℕ) (open_now : Option Asked) (post : Post) (client seq : ℕ) (cell : Cell) (epoch : ℕ)
    → Says state c open_now post → post.body ≡ body.Read client seq cell epoch → Asks state c open_now client seq cell
says_read state c open_now _ client seq cell epoch (Of_the_log post logged) e = logged_no_read post.body client seq cell epoch logged e
says_read state c open_now _ client seq cell epoch (A_write asked name block pattern disk to is asks found rev) e = absurd cc
says_read state c open_now _ client seq cell epoch (A_read asked name snap block disk epoch' to is asks found at rev) e = record {
  same = cc;
  asked = asked;
  is = is;
  seq_is = cc;
  name = name;
  block = block;
  disk = disk;
  found = found;
  cell_is = cc;
  rev_is = rev;
}

pub turned_asks_read : (heard : ℕ → Body → Type 0) (servers : ℕ) (lines : List Line) (c : ℕ) (before : Client) (in_call : Bool) (reacted : Reaction)
    → Turned heard servers lines c before in_call reacted → (post : Post) → In post reacted.posts → (client seq : ℕ) (cell : Cell) (epoch : ℕ)
    → post.body ≡ body.Read client seq cell epoch
    → Asks (state_after servers reacted.client.applied) c reacted.client.asked client seq cell
unfolding In
turned_asks_read heard servers lines c before _ _ (Goes_on reacted same stays says) post i client seq cell epoch e =
    says_read _ c _ post client seq cell epoch (says.says post i) e
turned_asks_read heard servers lines c before _ _ (Is_told reacted asked told was reads same stays says) post i client seq cell epoch e =
    says_read _ c _ post client seq cell epoch (says.says post i) e
turned_asks_read heard servers lines c before _ _ (Begins reacted line asked next free same now called says) post i client seq cell epoch e =
    says_read _ c _ post client seq cell epoch (says.says post i) e
turned_asks_read heard servers lines c before _ _ _ post i client seq cell epoch e = absurd i

-- ### Answers with data

-- whoever answers with data has a read open, and heard this data for it, at the revision of its latest send
pub record AnswersRead (heard : ℕ → Body → Type 0) (client : Client) (number : ℕ) (bytes : List ℕ) : Type 0 where
  pub asked : Asked
  pub is : client.asked ≡ Some asked
  pub reads : is_read asked.request ≡ true
  pub told : heard asked.rev (body.Data asked.seq bytes)
  pub line_is : asked.line ≡ number

-- an answer is of data
abbrev is_data : Answer → Bool
is_data (answer.Data bytes) = true
is_data _ = false

entry_no_data : (given : Answer) → is_of_entry given ≡ true → is_data given ≡ false
entry_no_data (answer.Data bytes) e = true_false e refl
entry_no_data _ e = refl

seen_no_data : (state : State) (asked : Asked) (sight : Sight) (given : Answer) → IsSeenAs state asked sight given → is_data given ≡ false
seen_no_data state asked sight given (Stops_it server is so) = ap is_data so
seen_no_data state asked sight given (Stops_at server at is so) = ap is_data so
seen_no_data state asked sight given (Fails_it server which kind at is so) = ap is_data so
seen_no_data state asked sight given (Starts_it server is so) =
    ap is_data so ∙ by_test (λ x. is_data x ≡ false) sight.running answer.Ok answer.Failed (λ t. refl) (λ f. refl)
seen_no_data state asked sight given (Blanks_it server is so) =
    ap is_data so ∙ by_test (λ x. is_data x ≡ false) sight.running answer.Ok answer.Failed (λ t. refl) (λ f. refl)
seen_no_data state asked sight given (Has_no_space is full so) = ap is_data so
seen_no_data state asked sight given (Is_settled is round all settled so) = ap is_data so

ending_no_data : (how : Ending) → is_data (answer_of how) ≡ false
ending_no_data ending.Written = refl
ending_no_data ending.Full = refl

-- what is no data is not this
other_answer : {B : Type 0} (line number : ℕ) (given : Answer) (bytes : List ℕ) → is_data given ≡ false
    → ◌≡◌ {A = Option (ℕ × Answer)} (Some (line, given)) (Some (number, answer.Data bytes)) → B
other_answer line number given bytes none e = true_false (ap (λ (x : ℕ × Answer). is_data x.1) (same_some e)) none

data_is : (one other : List ℕ) → answer.Data one ≡ answer.Data other → one ≡ other
data_is one other e = cc

pub turned_answers : (heard : ℕ → Body → Type 0) (servers : ℕ) (lines : List Line) (c : ℕ) (client : Client) (in_call : Bool) (reacted : Reaction)
    → Turned heard servers lines c client in_call reacted → (number : ℕ) (bytes : List ℕ) → reacted.answer ≡ Some (number, answer.Data bytes)
    → AnswersRead heard client number bytes
turned_answers heard servers lines c client _ _ (Goes_on reacted same stays says) number bytes e = none_some says.unanswered e
turned_answers heard servers lines c client _ _ (Is_told reacted asked told was reads same stays says) number bytes e = none_some says.unanswered e
turned_answers heard servers lines c client _ _ (Begins reacted line asked next free same now called says) number bytes e = none_some says.unanswered e
turned_answers heard servers lines c client _ _ (Reads asked shown told was reads) number bytes e =
    let both = same_some e in
    record {
      asked = asked;
      is = was;
      reads = reads;
      told = subst (λ bs. heard asked.rev (body.Data asked.seq bs)) (data_is shown bytes (ap (λ (x : ℕ × Answer). x.1) both)) told;
      line_is = ap (λ (x : ℕ × Answer). x.0) both;
    }
turned_answers heard servers lines c client _ _ (Ends asked how told was writes) number bytes e =
    other_answer asked.line number (answer_of how) bytes (ending_no_data how) e
turned_answers heard servers lines c client _ _ (Shown asked rev sight given told was seen) number bytes e =
    other_answer asked.line number given bytes (seen_no_data _ asked sight given seen) e
turned_answers heard servers lines c client _ _ (Judges after asked given was gone seq judged) number bytes e =
    other_answer asked.line number given bytes (entry_no_data given (reason_told c asked given _ _ judged.reason)) e
