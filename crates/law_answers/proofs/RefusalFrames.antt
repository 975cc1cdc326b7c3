-- What a server's step has to show so that each refusal has its reason.
use Rattle.law_answers.proofs.Imports.{◌<◌, ◌∙◌, ◌≡◌, ◌≤◌, ◌⊎◌, Acted, Body, Cell, Finished, In, IsPrefix, Letter, Pending, Server, Setting, Some, Step, Was}
use Rattle.law_answers.proofs.Imports.{World, acts, all_put, ap, arith, at, cell_cmp, chosen_log, first, in-append, inl, inr, is_clients, is_in, length}
use Rattle.law_answers.proofs.Imports.{nat_cmp, prefix_on, put_same, server_state, stamped, subst, sym, true, was_same, ℕ}
use Rattle.law_answers.specs.Refusals.{IsDeclined, IsNumbered, Refusals}
use Rattle.law_answers.proofs.SlotLetters.{WereRefused}
use Rattle.petal_msg.specs.declared.body.Body.TheVariants as body
use Rattle.petal_msg.specs.declared.letter.Actor.TheVariants as actor
use Rattle.petal_msg.specs.declared.operation.Ending.TheVariants as ending

-- an operation was pending on the cell, in whatever stage, or has a number that was not given out before
abbrev pub IsOldOrNew : Server → Cell → Pending → Type 0
IsOldOrNew old cell op = Was old.own cell op ⊎ (old.own.pairs.next ≤ op.op)

-- what becomes of a server: as long as it is the incarnation that it was, its numbers go on
pub record GoesOn (old new : Server) : Type 0 where
  pub life : old.life.inc ≤ new.life.inc
  pub next : new.life.inc ≡ old.life.inc → old.own.pairs.next ≤ new.own.pairs.next
  pub pending : (cell : Cell) (op : Pending) → new.life.inc ≡ old.life.inc → at cell_cmp new.own.pairs.pending cell ≡ Some op
      → IsOldOrNew old cell op
  pub numbered : (cell : Cell) (op : Pending) → at cell_cmp new.own.pairs.pending cell ≡ Some op → op.op < new.own.pairs.next

-- the lead asks for a slot for an operation of this number, on a cell that it leads in Both
pub record AsksSlot (setting : Setting) (w : World) (n : ℕ) (acted : Acted) (letter : Letter) (number : ℕ) (cell : Cell) : Type 0 where
  pub long : length (w.servers n).log.applied ≡ letter.rev
  pub seated : is_in (server_state setting w n) n (w.servers n).life.inc ≡ true
  pub leads : first (server_state setting w n) cell ≡ Some n
  pub same : acted.server.life.inc ≡ (w.servers n).life.inc
  pub given : number < acted.server.own.pairs.next

-- what has to be so of a letter of a step
abbrev pub IsDue : (S : ℕ → ℕ → Type 0) → Setting → World → (n : ℕ) → Acted → Letter → Body → Type 0
IsDue S setting w n acted letter (body.Full seq) = (c : ℕ) → letter.to ≡ actor.Client c → S c seq
IsDue S setting w n acted letter (body.Reserve number cell) = AsksSlot setting w n acted letter number cell
IsDue S setting w n acted letter (body.PairFull number cell) = IsDeclined S setting w letter number cell
IsDue S setting w n acted letter _ = Unit {0}

-- what a step has to show: of what the server remembers where it runs on, of what is pending then, and of what it sends
pub record StepRefuses (S : ℕ → ℕ → Type 0) (setting : Setting) (w : World) (n stamp : ℕ) (acted : Acted) : Type 0 where
  pub finished : (c : ℕ) (last : Finished) → acted.server.life.running ≡ true → at nat_cmp acted.server.own.pairs.finished c ≡ Some last
      → last.ending ≡ ending.Full → S c last.seq
  pub onward : GoesOn (w.servers n) acted.server
  pub says : (letter : Letter) → In letter (stamped stamp acted.letters) → IsDue S setting w n acted letter letter.body

-- a server that does nothing
pub still_on : (R : ℕ → ℕ → Type 0) (setting : Setting) (w : World) → Refusals R setting w → (i : ℕ) → GoesOn (w.servers i) (w.servers i)
still_on R setting w refusals i = record {
  life = omega arith;
  next = λ same. omega arith;
  pending = λ cell op same is. inl (was_same (w.servers i).own cell op is);
  numbered = refusals.numbered i;
}

-- ### The world after a step

-- what a letter says of a number goes on to be so
pub still_numbered : (setting : Setting) (w v : World) → IsPrefix (chosen_log setting w) (chosen_log setting v)
    → ((i : ℕ) → GoesOn (w.servers i) (v.servers i)) → (letter : Letter) (number : ℕ) (cell : Cell)
    → IsNumbered setting w letter number cell
    → IsNumbered setting v letter number cell
still_numbered setting w v grows on letter number cell k =
    let life = (on k.server).life in
    let begun = k.begun in
    record {
      server = k.server;
      inc = k.inc;
      prefix = k.prefix;
      stands = prefix_on k.prefix _ _ k.stands grows;
      long = k.long;
      seated = k.seated;
      leads = k.leads;
      begun = omega arith;
      given = λ same.
          let was = k.given (omega (arith, same)) in
          let more = (on k.server).next (omega (arith, same)) in
          omega arith;
    }

pub still_declined : (R S : ℕ → ℕ → Type 0) (setting : Setting) (w v : World) → ((c seq : ℕ) → R c seq → S c seq)
    → IsPrefix (chosen_log setting w) (chosen_log setting v) → ((i : ℕ) → GoesOn (w.servers i) (v.servers i))
    → (letter : Letter) (number : ℕ) (cell : Cell)
    → IsDeclined R setting w letter number cell → IsDeclined S setting v letter number cell
unfolding still_numbered
still_declined R S setting w v more grows on letter number cell d =
    let k = d.by in
    let life = (on k.server).life in
    let begun = k.begun in
    record {
      by = still_numbered setting w v grows on letter number cell k;
      to = d.to;
      refused = λ op same is number_is clients. elim ((on k.server).pending cell op (omega (arith, same)) is) [
        | inl there ↦
            let was = there.was in
            subst (S op.client) there.same.seq (subst (λ c. S c was.seq) there.same.client
            (more was.client was.seq (d.refused was (omega (arith, same)) there.is (there.same.number ∙ number_is) (ap is_clients there.same.kind ∙ clients))))
        | inr new ↦ let old = k.given (omega (arith, same)) in absurd (omega (arith, number_is))
      ];
    }

module _ (R S : ℕ → ℕ → Type 0) (it : WereRefused R S) (n stamp : ℕ) (what : Step) (acted : Acted) (step : StepRefuses S it.setting it.w n stamp acted)
    (grows : IsPrefix (chosen_log it.setting it.w) (chosen_log it.setting (acts it.setting it.w n what stamp acted).world)) where
  open it use {setting, w, firm, more, refusals}

  abbrev later : World
  later = (acts setting w n what stamp acted).world

  on : (i : ℕ) → GoesOn (w.servers i) (later.servers i)
  on = all_put w.servers n acted.server (λ i (x : Server). GoesOn (w.servers i) x) (still_on R setting w refusals) step.onward

  asked_now : (letter : Letter) (number : ℕ) (cell : Cell) → AsksSlot setting w n acted letter number cell
      → IsNumbered setting later letter number cell
  asked_now letter number cell a = record {
    server = n;
    inc = (w.servers n).life.inc;
    prefix = (w.servers n).log.applied;
    stands = prefix_on (w.servers n).log.applied _ _ (firm.servers n) grows;
    long = a.long;
    seated = a.seated;
    leads = a.leads;
    begun = (on n).life;
    given = λ e. subst (λ (x : Server). number < x.own.pairs.next) (sym (put_same w.servers n acted.server)) a.given;
  }

  due : (letter : Letter) → In letter (stamped stamp acted.letters) → (said : Body) → letter.body ≡ said → IsDue S setting w n acted letter said
  due letter new said is = subst (IsDue S setting w n acted letter) is (step.says letter new)

  pub step_refusals : Refusals S setting later
  step_refusals = record {
    letters = λ letter c seq h to says. elim (in-append letter _ w.sent h) [
      | inl new ↦ due letter new (body.Full seq) says c to
      | inr old ↦ more c seq (refusals.letters letter c seq old to says)
    ];
    finished = all_put w.servers n acted.server
        (λ i (x : Server). (c : ℕ) (last : Finished) → x.life.running ≡ true → at nat_cmp x.own.pairs.finished c ≡ Some last
        → last.ending ≡ ending.Full
        → S c last.seq)
        (λ i c last runs is how. more c last.seq (refusals.finished i c last runs is how)) step.finished;
    numbered = λ i. (on i).numbered;
    reserves = λ letter number cell h says. elim (in-append letter _ w.sent h) [
      | inl new ↦ asked_now letter number cell (due letter new (body.Reserve number cell) says)
      | inr old ↦ still_numbered setting w later grows on letter number cell (refusals.reserves letter number cell old says)
    ];
    declined = λ letter number cell h says. elim (in-append letter _ w.sent h) [
      | inl new ↦ still_declined S S setting w later (λ c seq s. s) grows on letter number cell (due letter new (body.PairFull number cell) says)
      | inr old ↦ still_declined R S setting w later more grows on letter number cell (refusals.declined letter number cell old says)
    ];
  }
