-- A read that a server handles was called before; and where it is of an old map, its client was turned to that map before.
use Rattle.law_answers.proofs.Imports.{[], ◌++◌, ◌∙◌, ◌∷◌, ◌≡◌, AreSteps, Body, Bool, Call, Cell, Client, Command, DiskView, Handled, HasProperTuples, In}
use Rattle.law_answers.proofs.Imports.{IsPrefix, IsSound, Letter, Line, List, MayClient, Record, Script, Setting, Some, Step, World, ap, append_assoc, arith}
use Rattle.law_answers.proofs.Imports.{asked_takes, by_bool, cell_asked, chosen_log, false, find, history_grows, in_former, length, line_by, log_plain}
use Rattle.law_answers.proofs.Imports.{log_rev, none_some, one_prefix, prefix_on, prefix_plain, put_same, reacts, refl, rev_of, run_of, same_some, setting_of}
use Rattle.law_answers.proofs.Imports.{stage_facts, start, state_after, step, stepped, subst, sym, true, true_false, was_sent, world_after, ℕ}
use Rattle.spec_rules.specs.State.{leaving}
use Rattle.law_answers.proofs.ClientReadSteps.{Asks}
use Rattle.law_answers.proofs.RecordsInOrder.{From_client, From_server, IsSentFrom, asked_at, legal_upto, next_is, sent_by}
use Rattle.law_answers.proofs.OneReplyEachRead.{answers_read, is_of_read}
use Rattle.law_answers.proofs.LawsBelow.{stands_after}
use Rattle.law_answers.proofs.ClientHistorySteps.{own_asks, reacted_to}
use Rattle.law_answers.proofs.ReadsTurnToOldMap.{WasCalled, WasTurned, was_called, was_turned}
use Rattle.petal_msg.specs.declared.body.Body.TheVariants as body
use Rattle.petal_msg.specs.declared.letter.Actor.TheVariants as actor

-- the client's request by which a read was sent, as the step leaves it
record IsSentFor (setting : Setting) (v : World) (client seq : ℕ) (cell : Cell) (rev : ℕ) : Type 0 where
  asks : Asks (state_after setting.servers (v.clients client).applied) client (v.clients client).asked client seq cell
  long : rev ≡ length (v.clients client).applied

-- the letter is the client's own
client_sent : (setting : Setting) (w : World) (c : ℕ) (what : Step) (stamp : ℕ) → MayClient what setting w c → (letter : Letter)
    → In letter (reacts w c stamp (reacted_to setting w c what)).letters → (client seq : ℕ) (cell : Cell) (epoch : ℕ)
    → letter.body ≡ body.Read client seq cell epoch
    → IsSentFor setting (step (actor.Client c) what setting w stamp).world client seq cell letter.rev
unfolding step
client_sent setting w c what stamp may letter i client seq cell epoch is =
    let a = own_asks setting w c what may stamp letter i client seq cell epoch is in
    let v = (reacts w c stamp (reacted_to setting w c what)).world in
    let here : v.clients c ≡ (reacted_to setting w c what).client = put_same w.clients c (reacted_to setting w c what).client in
    let so : IsSentFor setting v c seq cell letter.rev = record {
      asks = subst (λ (x : Client). Asks (state_after setting.servers x.applied) c x.asked c seq cell) (sym here)
          (subst (λ k. Asks (state_after setting.servers (reacted_to setting w c what).client.applied) c (reacted_to setting w c what).client.asked k seq cell)
          a.0.same a.0);
      long = a.1 ∙ ap (λ (x : Client). length x.applied) (sym here);
    } in
    subst (λ k. IsSentFor setting v k seq cell letter.rev) (sym a.0.same) so

-- a turn of the first records is one of all
turned_in : (setting : Setting) (records done following : List Record) → records ≡ done ++ following → (c seq rev : ℕ) → WasTurned setting done c seq rev
    → WasTurned setting records c seq rev
turned_in setting records done following e c seq rev t = record {
  moment = record {
    prefix = t.prefix;
    own = t.own;
    following = t.following ++ following;
    is = e ∙ ap (λ rs. rs ++ following) t.is ∙ append_assoc t.prefix (t.own ∷ t.following) following;
  };
  letter = t.letter;
  turn = t.turn;
}

no_reply : {B : Type 0} (what : Body) (client seq : ℕ) (cell : Cell) (epoch number : ℕ) → what ≡ body.Read client seq cell epoch
    → answers_read what ≡ Some number → B
no_reply what client seq cell epoch number is e = none_some (ap answers_read is) e

module _ (script : Script) (sound : IsSound script) where
  abbrev setting : Setting
  setting = setting_of script

  abbrev At : List Record → World
  At records = world_after setting (start setting) records

  -- where a read that has come to a server was sent
  record IsSource (records : List Record) (client seq : ℕ) (cell : Cell) (rev : ℕ) : Type 0 where
    prefix : List Record
    own : Record
    following : List Record
    is : records ≡ (prefix ++ own ∷ []) ++ following
    legal : AreSteps script (prefix ++ own ∷ [])
    so : IsSentFor setting (At (prefix ++ own ∷ [])) client seq cell rev

  source : (records : List Record) → AreSteps script records → (letter : Letter) → In letter (At records).sent → (client seq : ℕ) (cell : Cell)
      (epoch : ℕ) → letter.body ≡ body.Read client seq cell epoch → IsSource records client seq cell letter.rev
  source records legal letter i client seq cell epoch says =
      let s = was_sent (run_of script sound records legal) letter i in
      let there : AreSteps script (s.prefix ++ s.own ∷ s.following) = subst (AreSteps script) s.is legal in
      let of_read : is_of_read letter.body ≡ true = ap is_of_read says in
      let so = by s.prefix s.own (sent_by script sound s.prefix s.own s.following there letter s.sent of_read) in
      record {
        prefix = s.prefix;
        own = s.own;
        following = s.following;
        is = s.is ∙ sym (append_assoc s.prefix (s.own ∷ []) s.following);
        legal = legal_upto script sound s.prefix s.own s.following there;
        so = subst (λ u. IsSentFor setting u client seq cell letter.rev) (sym (next_is script sound s.prefix s.own)) so;
      }
    where
      by : (prefix : List Record) (own : Record) → IsSentFrom setting (At prefix) own letter
          → IsSentFor setting (stepped setting (At prefix) own).world client seq cell letter.rev
      by prefix own (From_server n who r) = no_reply letter.body client seq cell epoch r.seq says r.is
      by prefix own (From_client c who may j) =
          subst (λ a. IsSentFor setting (step a own.step setting (At prefix) own.stamp).world client seq cell letter.rev) (sym who)
          (client_sent setting (At prefix) c own.step own.stamp may letter j client seq cell epoch says)

  -- ### It was called

  pub read_called : (records : List Record) → AreSteps script records → (n client seq : ℕ) (cell : Cell) (epoch : ℕ)
      → Handled (At records) n (body.Read client seq cell epoch) → (line : Line) → line_by script.lines client seq ≡ Some line
      → WasCalled records client line.number
  read_called records legal n client seq cell epoch h line is =
      let s = source records legal h.letter h.sent client seq cell epoch h.is in
      let asks = s.so.asks in
      let k = was_called (run_of script sound (s.prefix ++ s.own ∷ []) s.legal) client asks.asked asks.is in
      let of = asked_at script sound (s.prefix ++ s.own ∷ []) s.legal client asks.asked asks.is in
      let line_is : of.line ≡ line = same_some (sym of.is ∙ ap (line_by script.lines client) asks.seq_is ∙ is) in
      record {
        call = k.call;
        there = subst (In k.call) (sym s.is) (in_former k.call (s.prefix ++ s.own ∷ []) s.following k.there);
        who = k.who;
        what = k.what ∙ ap Call (of.number ∙ ap (λ (l : Line). l.number) line_is);
      }

  -- ### It was turned

  -- a cell that requests name is not leaving
  named_stays : (log : List Command) → HasProperTuples script.servers log → (name : List ℕ) (disk : DiskView) (block : ℕ)
      → find (state_after script.servers log) name ≡ Some disk
      → leaving (state_after script.servers log) (cell_asked (state_after script.servers log) disk block false) ≡ false
  named_stays log plain name disk block found =
      let s = state_after script.servers log in
      let p = log_plain script.servers log plain in
      let most = (asked_takes script.servers s p name disk found block).1 in
      by_bool (leaving s (cell_asked s disk block false))
      (λ t. let three = (stage_facts script.servers log plain (cell_asked s disk block false)).leaves t in absurd (omega arith)) (λ f. f)

  -- so one that is was asked for by the old way
  old_way_of : (log : List Command) → HasProperTuples script.servers log → (cell : Cell) (name : List ℕ) (disk : DiskView) (block : ℕ) (way : Bool)
      → find (state_after script.servers log) name ≡ Some disk → cell ≡ cell_asked (state_after script.servers log) disk block way
      → leaving (state_after script.servers log) cell ≡ true → way ≡ true
  old_way_of log plain cell name disk block true found is leaves = refl
  old_way_of log plain cell name disk block false found is leaves =
      true_false leaves (ap (leaving (state_after script.servers log)) is ∙ named_stays log plain name disk block found)

  pub read_turned : (records : List Record) → AreSteps script records → (n client seq : ℕ) (cell : Cell) (epoch : ℕ)
      → Handled (At records) n (body.Read client seq cell epoch) → leaving (state_after script.servers ((At records).servers n).log.applied) cell ≡ true
      → WasTurned setting records client seq (rev_of ((At records).servers n).log)
  read_turned records legal n client seq cell epoch h leaves =
      let s = source records legal h.letter h.sent client seq cell epoch h.is in
      let done = s.prefix ++ s.own ∷ [] in
      let asks = s.so.asks in
      let mine = ((At done).clients client).applied in
      let firm = (stands_after script done sound s.legal).ground.ready.firm in
      let firm_now = (stands_after script records sound legal).ground.ready.firm in
      let grows : IsPrefix (chosen_log setting (At done)) (chosen_log setting (At records)) =
      history_grows script records sound legal done s.following s.is in
      let log_is : mine ≡ ((At records).servers n).log.applied =
      one_prefix mine ((At records).servers n).log.applied (chosen_log setting (At records))
      (prefix_on mine (chosen_log setting (At done)) (chosen_log setting (At records)) (firm.clients client) grows) (firm_now.servers n)
      (sym s.so.long ∙ h.at) in
      let leaves_then : leaving (state_after script.servers mine) cell ≡ true =
      ap (λ log. leaving (state_after script.servers log) cell) log_is ∙ leaves in
      let plain = prefix_plain script.servers mine (chosen_log setting (At done)) firm.plain (firm.clients client) in
      let way = old_way_of mine plain cell asks.name asks.disk asks.block asks.asked.old_way asks.found asks.cell_is leaves_then in
      let t = was_turned (run_of script sound done s.legal) client asks.asked asks.is way in
      let rev_is : asks.asked.rev ≡ rev_of ((At records).servers n).log = asks.rev_is ∙ log_rev script.servers mine ∙ ap length log_is in
      let here : WasTurned setting done client seq (rev_of ((At records).servers n).log) =
      subst (WasTurned setting done client seq) rev_is (subst (λ k. WasTurned setting done client k asks.asked.rev) asks.seq_is t) in
      turned_in setting records done s.following s.is client seq (rev_of ((At records).servers n).log) here
