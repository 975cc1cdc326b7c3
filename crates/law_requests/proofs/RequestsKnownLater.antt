-- What was known of requests is known later.
use Rattle.law_requests.proofs.Imports.{◌∙◌, ◌≡◌, ◌≤◌, ◌⊎◌, Actor, Answered, Asked, Body, Bool, Cell, Client, Command, In, IsPrefix, Letter, Line, List}
use Rattle.law_requests.proofs.Imports.{Logged, Option, Read_asked, Refused, Request, Setting, State, Subject, Wanted, Write_asked, ap, arith, cases_lt}
use Rattle.law_requests.proofs.Imports.{cell_asked, false, find, inl, inr, is_logged, length, names, one_prefix, prefix_itself, prefix_long, prefix_on}
use Rattle.law_requests.proofs.Imports.{prefix_within, refl, same_some, subject_of, sym, true, true_false, ℕ}
use Rattle.law_requests.specs.AskedRequests.{IsWrite, IsOpen, IsOpenFrom, HasItsWay, WasToldAt}
use Rattle.law_requests.specs.KnownRequests.{Seen, IsLate, Is_past, Had_no_lead, Had_another, IsLedAlong, AreLate, IsSent, WriteKnown, EndKnownAt}
use Rattle.law_requests.specs.KnownRequests.{NothingKnownAt, Known, PendingFor}
use Rattle.petal_msg.specs.declared.body.Body.TheVariants as body
use Rattle.petal_msg.specs.declared.letter.Actor.TheVariants as actor
use Rattle.script_lines.specs.declared.request.Request.TheVariants as request

-- of two prefixes of one log one stands at the front of the other
pub either_prefix : (one two whole : List Command) → IsPrefix one whole → IsPrefix two whole → IsPrefix one two ⊎ IsPrefix two one
either_prefix one two whole a b = elim (cases_lt (length two) (length one)) [
  | inl shorter ↦ inr (prefix_within two one whole b a (omega arith))
  | inr longer ↦ inl (prefix_within one two whole a b (omega arith))
]

-- two that stand at each other's prefix are one
pub one_log : (a b : List Command) → IsPrefix a b → IsPrefix b a → a ≡ b
one_log a b one two =
    let le = prefix_long a b one in let ge = prefix_long b a two in one_prefix a b b one (prefix_itself b) (omega arith)

disk_named : Request → Option (List ℕ)
disk_named asked = (names asked).disk

block_named : Request → Option ℕ
block_named asked = (names asked).block

-- a write of one number is of one cell, by one state
pub one_cell : (state : State) (lines : List Line) (client seq : ℕ) (cell other : Cell) (bytes bytes' : List ℕ)
    → IsWrite state lines client seq cell bytes → IsWrite state lines client seq other bytes' → cell ≡ other
unfolding disk_named block_named
one_cell state lines client seq cell other bytes bytes' one two =
    let line : one.line ≡ two.line = same_some (sym one.is ∙ two.is) in
    let asks : request.Write one.name one.block one.pattern ≡ request.Write two.name two.block two.pattern =
    sym one.asks ∙ ap (λ (l : Line). l.request) line ∙ two.asks in
    let name : one.name ≡ two.name = same_some (ap disk_named asks) in
    let block : one.block ≡ two.block = same_some (ap block_named asks) in
    let disk : one.disk ≡ two.disk = same_some (sym one.found ∙ ap (find state) name ∙ two.found) in
    one.cell_is ∙ (λ i. cell_asked state (disk i) (block i) false) ∙ sym two.cell_is

-- a client has one request open
pub one_open : (client : Client) (seq seq' : ℕ) → IsOpen client seq → IsOpen client seq' → seq ≡ seq'
one_open client seq seq' one two = sym one.same ∙ ap (λ (a : Asked). a.seq) (same_some (sym one.is ∙ two.is)) ∙ two.same

-- ### Letters that tell of no request

-- a letter about this may tell of a request
abbrev pub tells_request : Subject → Bool
tells_request Read_asked = true
tells_request Write_asked = true
tells_request Answered = true
tells_request Refused = true
tells_request _ = false

pub logged_untold : (subject : Subject) → is_logged subject ≡ true → tells_request subject ≡ false
logged_untold Logged e = refl
logged_untold _ e = true_false e refl

pub untold : (setting : Setting) (v : Seen) (from to : Actor) (rev : ℕ) (said : Body) → tells_request (subject_of said) ≡ false
    → Known setting v from to rev said
untold setting v from to rev (body.Read client seq cell epoch) e = true_false refl e
untold setting v from to rev (body.Write client seq cell epoch bytes) e = true_false refl e
untold setting v from to rev (body.Written seq) e = true_false refl e
untold setting v from to rev (body.Full seq) e = true_false refl e
untold setting v from to rev (body.NotHere seq) e = true_false refl e
untold setting v from to rev _ e = tt

-- ### Time goes on

-- letters stay sent, numbers and logs grow, and a write that is no longer open is one that comes too late
pub record Later (setting : Setting) (v u : Seen) : Type 0 where
  pub sent : (letter : Letter) → In letter v.sent → In letter u.sent
  pub seqs : (c : ℕ) → (v.clients c).seq ≤ (u.clients c).seq
  pub clients : (c : ℕ) → IsPrefix (v.clients c).applied (u.clients c).applied
  pub logs : (n : ℕ) → IsPrefix (v.logs n) (u.logs n)
  pub dones : (n inc c : ℕ) → v.done n inc c ≤ u.done n inc c
  pub closes : (want : Wanted) (rev : ℕ) → (sent : IsSent setting v want rev) → IsOpenFrom (v.clients want.client) want.seq rev
      → IsOpenFrom (u.clients want.client) want.seq rev ⊎ AreLate setting.servers u want sent.at.prefix

module _ (setting : Setting) (v u : Seen) (later : Later setting v u) where
  told_later : (c seq rev : ℕ) → WasToldAt v.sent c seq rev → WasToldAt u.sent c seq rev
  told_later c seq rev h = record { letter = h.letter; there = later.sent h.letter h.there; to = h.to; is = h.is; at = h.at }

  pub way_later : (c : ℕ) (asked : Asked) → HasItsWay v.sent c asked → HasItsWay u.sent c asked
  way_later c asked h = record {
    told = λ e. let k = h.told e in (k.0, told_later c asked.seq k.0 k.1);
    old_way = λ e. told_later c asked.seq asked.rev (h.old_way e);
  }

  late_later : (prefix : List Command) (c seq : ℕ) (cell : Cell) (n inc : ℕ) → IsLate setting.servers v prefix c seq cell n inc
      → IsLate setting.servers u prefix c seq cell n inc
  late_later prefix c seq cell n inc (Is_past lt) = let le = later.dones n inc c in Is_past (omega arith)
  late_later prefix c seq cell n inc (Had_no_lead log more lies none) = Had_no_lead log more (prefix_on log _ _ lies (later.clients c)) none
  late_later prefix c seq cell n inc (Had_another log other more lies leads apart) =
      Had_another log other more (prefix_on log _ _ lies (later.logs other)) leads apart

  sent_later : (want : Wanted) (rev : ℕ) → IsSent setting v want rev → IsSent setting u want rev
  sent_later want rev s =
      let up = later.seqs want.client in
      let old = s.old in
      record {
        at = record { prefix = s.at.prefix; lies = prefix_on s.at.prefix _ _ s.at.lies (later.clients want.client); long = s.at.long };
        served = s.served;
        epoch = s.epoch;
        old = omega arith;
      }

  pub write_later : (want : Wanted) (rev : ℕ) → WriteKnown setting v want rev → WriteKnown setting u want rev
  unfolding sent_later
  write_later want rev k = record {
    sent = sent_later want rev k.sent;
    still = elim k.still [
      | inl open_now ↦ later.closes want rev k.sent open_now
      | inr late ↦ inr (λ n inc led. late_later k.sent.at.prefix want.client want.seq want.cell n inc (late n inc led))
    ];
  }

  pub pending_later : (n inc : ℕ) (want : Wanted) (rev : ℕ) → PendingFor setting v n inc want rev → u.done n inc want.client ≤ want.seq
      → PendingFor setting u n inc want rev
  unfolding write_later sent_later
  pending_later n inc want rev p le = record {
    known = write_later want rev p.known;
    unfenced = p.unfenced;
    upto = p.upto;
    opened = p.opened;
    applied = prefix_on p.upto _ _ p.applied (later.logs n);
    along = p.along;
    unfinished = le;
  }

  -- the incarnation has come further since, and led the cell
  pub pending_further : (n inc : ℕ) (want : Wanted) (rev : ℕ) → (p : PendingFor setting v n inc want rev)
      → u.done n inc want.client ≤ want.seq
      → (more : List Command) → IsPrefix p.upto more → IsPrefix more (u.logs n) → IsLedAlong setting.servers p.upto more n inc want.cell
      → (q : PendingFor setting u n inc want rev) × (q.upto ≡ more)
  unfolding write_later sent_later
  pending_further n inc want rev p le more on applied along = (
    record {
      known = write_later want rev p.known;
      unfenced = p.unfenced;
      upto = more;
      opened = prefix_on p.known.sent.at.prefix p.upto more p.opened on;
      applied = applied;
      along = λ log from lies. elim (either_prefix log p.upto more lies on) [
        | inl before ↦ p.along log from before
        | inr following ↦ along log following lies
      ];
      unfinished = le;
    },
    refl,
  )

  end_later : (seq rev : ℕ) (from to : Actor) → EndKnownAt setting v seq rev from to → EndKnownAt setting u seq rev from to
  end_later seq rev (actor.Server n) (actor.Client c) h =
      let up = later.seqs c in
      let old = h.old in
      let le = later.dones n h.inc c in
      let lt = h.past in
      record {
        inc = h.inc;
        cell = h.cell;
        bytes = h.bytes;
        old = omega arith;
        at = record { prefix = h.at.prefix; lies = prefix_on h.at.prefix _ _ h.at.lies (later.logs n); long = h.at.long };
        write = h.write;
        led = record { seated = h.led.seated; leads = h.led.leads };
        past = omega arith;
      }
  end_later seq rev (actor.Server n) (actor.Server m) h = h
  end_later seq rev (actor.Client c) (actor.Client d) h = h
  end_later seq rev (actor.Client c) (actor.Server m) h = h

  nothing_later : (seq rev : ℕ) (to : Actor) → NothingKnownAt setting v seq rev to → NothingKnownAt setting u seq rev to
  nothing_later seq rev (actor.Client c) h = record {
    cell = h.cell;
    epoch = h.epoch;
    at = record { prefix = h.at.prefix; lies = prefix_on h.at.prefix _ _ h.at.lies (later.clients c); long = h.at.long };
    read = h.read;
    comes = h.comes;
  }
  nothing_later seq rev (actor.Server n) h = h

  pub known_later : (from to : Actor) (rev : ℕ) (said : Body) → Known setting v from to rev said → Known setting u from to rev said
  known_later from to rev (body.Write client seq cell epoch bytes) h =
      write_later (record { client = client; seq = seq; cell = cell; epoch = epoch; bytes = bytes }) rev h
  known_later from to rev (body.Read client seq cell epoch) h = record {
    at = record { prefix = h.at.prefix; lies = prefix_on h.at.prefix _ _ h.at.lies (later.clients client); long = h.at.long };
    told = h.told;
    read = h.read;
    why = λ e. told_later client seq rev (h.why e);
  }
  known_later from to rev (body.Written seq) h = end_later seq rev from to h
  known_later from to rev (body.Full seq) h = end_later seq rev from to h
  known_later from to rev (body.NotHere seq) h = nothing_later seq rev to h
  known_later from to rev _ h = tt
