-- What a settle is answered by. What the operator has seen in a round, glances of that round showed.
use Rattle.law_answers.proofs.Imports.{[], if◌then◌else◌, ◌&&◌, ◌++◌, ◌+◌, ◌<◌, ◌==◌, ◌∙◌, ◌∷◌, ◌≡◌, ◌≤◌, Actor, Answer, AreSteps, Asked, Begins, Bool}
use Rattle.law_answers.proofs.Imports.{Client, Command, Ends, Glance, Goes_on, Heard, In, IsMoment, IsPrefix, IsRising, IsSound, Is_told, Judges, Less}
use Rattle.law_answers.proofs.Imports.{Letter, Line, List, MayActor, None, OneMore, Option, Reaction, Reads, Record, Run, Script, Server, Setting, Shown}
use Rattle.law_answers.proofs.Imports.{Shown_by, Some, State, Step, Table, Turned, WasSent, World, after, all_put, always_firm, ap, arith, at, at-empty}
use Rattle.law_answers.proofs.Imports.{at_apart, at_moment, at_row, at_same, both_true, by_run, by_test, client_state, client_step, client_turns, false}
use Rattle.law_answers.proofs.Imports.{firm_after, follows_in, inl, inr, is_settled, last_moment, length, length-append, length-map, log_plain, log_rev}
use Rattle.law_answers.proofs.Imports.{longer, map, nat_cmp, nat_cmp_total, nat_le, nat_tests, next_line, none_some, not, operator, prefix_plain, put_rises}
use Rattle.law_answers.proofs.Imports.{refl, rounds, run_of, same_numbers, same_or_apart, same_some, server_state, servers_of, setting_in, setting_of}
use Rattle.law_answers.proofs.Imports.{settles, shown, slice_get, start, state_after, step, stepped_in, subst, suc, sym, true, true_false, was_sent, was_true}
use Rattle.law_answers.proofs.Imports.{with_sight, world_after, zero, ℕ}
use Rattle.law_answers.proofs.AnsweredOnce.{pair_is, was_answered}
use Rattle.law_answers.proofs.ListPositions.{sooner}
use Rattle.law_answers.proofs.LinesHavePlaces.{line_at}
use Rattle.law_answers.specs.Settles.{HasFoundFull, HasGlanceAt, HasSettled, HasShown, WasSettled, runs_as}
use Rattle.law_answers.proofs.Lines.{open_for}
use Rattle.law_answers.proofs.SettleRounds.{HasSight, IsRounded, Keeps, Quiet, Rounds, Sees, Starts, client_rounds}
use Rattle.law_answers.proofs.LettersMuteOfRevisions.{IsMute, is_mute}
use Rattle.law_answers.proofs.WhatLettersSay.{Mute, Rev, Sight, server_says, client_says}
use Rattle.petal_msg.specs.declared.body.Body.TheVariants as body
use Rattle.petal_msg.specs.declared.letter.Actor.TheVariants as actor
use Rattle.script_lines.specs.declared.answer.Answer.TheVariants as answer
use Rattle.script_lines.specs.declared.request.Request.TheVariants as request

-- ### A round that has shown each server

-- a row of this number shows this
abbrev Shows : Table ℕ (Option ℕ) → ℕ → Option ℕ → Type 0
Shows seen n shown = at nat_cmp seen n ≡ Some shown

less_number : (a b : ℕ) → nat_cmp a b ≡ Less → a < b
less_number a b e = grind (arith, nat_tests, e)

-- rising numbers below a bound are no more than lie before it
fits : (bound k : ℕ) (seen : Table ℕ (Option ℕ)) → IsRising nat_cmp seen
    → ((row : ℕ × Option ℕ) → In row seen → k < row.0 × (row.0 < bound))
    → k < bound → k + length seen < bound
unfolding In
fits bound k [] rising within lt = omega arith
fits bound k (row ∷ seen) rising within lt =
    let w = within row (inl refl) in
    let more = fits bound row.0 seen rising.1
    (λ other i. (less_number row.0 other.0 (rising.0 other i), (within other (inr i)).1)) w.1 in
    let low = w.0 in
    omega arith

-- all of a round's numbers lie before a bound
abbrev AreWithin : (low high : ℕ) → Table ℕ (Option ℕ) → Type 0
AreWithin low high seen = (row : ℕ × Option ℕ) → In row seen → low ≤ row.0 × (row.0 < high)

-- where they are as many as there is room for, the first is the lowest
first_place : (low : ℕ) (row : ℕ × Option ℕ) (seen : Table ℕ (Option ℕ)) → IsRising nat_cmp (row ∷ seen)
    → AreWithin low (low + length (row ∷ seen)) (row ∷ seen)
    → row.0 ≡ low
unfolding In
first_place low row seen rising within =
    let w = within row (inl refl) in
    let more = fits (low + length (row ∷ seen)) row.0 seen rising.1
    (λ other h. (less_number row.0 other.0 (rising.0 other h), (within other (inr h)).1)) w.1 in
    let least = w.0 in
    omega arith

-- and each stands at its own place
placed : (low : ℕ) (seen : Table ℕ (Option ℕ)) → IsRising nat_cmp seen → AreWithin low (low + length seen) seen → (i : ℕ) (told : Option ℕ)
    → slice_get (map (λ row. row.1) seen) i ≡ Some told → In (low + i, told) seen
unfolding In
placed low [] rising within i told e = none_some refl e
placed low (row ∷ seen) rising within zero told e =
    let first = first_place low row seen rising within in
    let value : told ≡ row.1 = sym (same_some e) in
    let number : low + zero ≡ row.0 = omega arith in
    inl (λ j. (number j, value j))
placed low (row ∷ seen) rising within (suc k) told e =
    let first = first_place low row seen rising within in
    let number : (low + 1) + k ≡ low + suc k = omega arith in
    inr (subst (λ (n : ℕ). In (n, told) seen) number (placed (low + 1) seen rising.1
    (λ other h.
    let above = less_number row.0 other.0 (rising.0 other h) in
    let below = (within other (inr h)).1 in
    (omega arith, omega arith)) k told e))

-- ### What a glance shows

-- as which incarnation a server runs, by what was shown of it
abbrev told_as : (running : Bool) → ℕ → Option ℕ
told_as running inc = if running then Some inc else None

record TellsOf (server : Server) (line round l r : ℕ) (running : Bool) (inc : ℕ) (full : Bool) : Type 0 where
  line_is : l ≡ line
  round_is : r ≡ round
  runs : told_as running inc ≡ runs_as server
  found_full : full ≡ true → (server.life.running ≡ true) × (server.own.copies.full ≡ true)

tells_of : (server : Server) (line round l r : ℕ) (running : Bool) (inc : ℕ) (full : Bool)
    → shown l r server ≡ body.Seen line round running inc full
    → TellsOf server line round l r running inc full
tells_of server line round l r running inc full =
    by_test (λ said. said ≡ body.Seen line round running inc full → TellsOf server line round l r running inc full) server.life.running _ _
    (λ on e.
    let now : true ≡ running = cc in
    let number : server.life.inc ≡ inc = cc in
    let left : server.own.copies.full ≡ full = cc in
    record {
      line_is = cc;
      round_is = cc;
      runs = (λ i. if sym now i then Some (sym number i) else None) ∙ ap (λ b. if b then Some server.life.inc else None) (sym on);
      found_full = λ is. (on, left ∙ is);
    })
    (λ off e.
    let now : false ≡ running = cc in
    let left : false ≡ full = cc in
    record {
      line_is = cc;
      round_is = cc;
      runs = ap (λ b. if b then Some inc else None) (sym now) ∙ ap (λ b. if b then Some server.life.inc else None) (sym off);
      found_full = λ is. true_false is (sym left);
    })

-- a glance that counts is of this round, and of no later revision
counted : (round now rev limit : ℕ) → ((round == now) && nat_le rev limit) ≡ true → (round ≡ now) × (rev ≤ limit)
counted round now rev limit t =
    let both = both_true (round == now) (nat_le rev limit) t in
    let le = both.1 in
    (same_numbers round now both.0, grind (arith, nat_tests, le))

-- ### A history

-- an answer is of the line that was open
answered_line : (heard : _) (servers : ℕ) (lines : List Line) (c : ℕ) (client : Client) (in_call : Bool) (reacted : Reaction)
    → Turned heard servers lines c client in_call reacted → (number : ℕ) (given : Answer) → reacted.answer ≡ Some (number, given)
    → (asked : Asked) × (client.asked ≡ Some asked) × (asked.line ≡ number)
answered_line heard servers lines c client _ _ (Goes_on reacted seq stays says) number given e = none_some says.unanswered e
answered_line heard servers lines c client _ _ (Is_told reacted asked told is read seq stays says) number given e = none_some says.unanswered e
answered_line heard servers lines c client _ _ (Begins reacted line asked next free seq now called says) number given e =
    none_some says.unanswered e
answered_line heard servers lines c client _ _ (Reads asked bytes told is read) number given e =
    (asked, is, ap (λ (x : ℕ × Answer). x.0) (same_some e))
answered_line heard servers lines c client _ _ (Ends asked how told is write) number given e =
    (asked, is, ap (λ (x : ℕ × Answer). x.0) (same_some e))
answered_line heard servers lines c client _ _ (Shown asked rev sight told_answer told is seen) number given e =
    (asked, is, ap (λ (x : ℕ × Answer). x.0) (same_some e))
answered_line heard servers lines c client _ _ (Judges after asked told_answer is gone seq judged) number given e =
    (asked, is, ap (λ (x : ℕ × Answer). x.0) (same_some e))

-- a letter shows what a glance of this line saw of a server, which told the operator
pub record IsSent (run : Run) (letter : Letter) (line round : ℕ) (running : Bool) (inc : ℕ) (full : Bool) : Type 0 where
  pub server : ℕ
  pub to : letter.to ≡ actor.Client operator
  pub «from» : letter.from ≡ actor.Server server
  pub saw : HasShown (setting_in run) (start (setting_in run)) run.records line round server (told_as running inc) letter.rev
  pub found_full : full ≡ true → HasFoundFull (setting_in run) (start (setting_in run)) run.records line

module _ (run : Run) (letter : Letter) (line round : ℕ) (running : Bool) (inc : ℕ) (full : Bool) (s : WasSent run.records letter)
    (e : letter.body ≡ body.Seen line round running inc full) where
  abbrev it : OneMore
  it = at_moment run s.moment

  abbrev u : World
  u = after it.prior

  not_mute : IsMute letter.body → ⊥
  not_mute mute = true_false (ap (λ said. is_mute said) (sym e) ∙ mute) refl

  shown_by : (who : Actor) (what : Step) → s.own.actor ≡ who → s.own.step ≡ what → MayActor who what (setting_in run) u
      → In letter (step who what (setting_in run) u s.own.stamp).letters → IsSent run letter line round running inc full
  unfolding step
  shown_by (actor.Client c) what who does may there = absurd (not_mute (client_says (setting_in run) u c what s.own.stamp may.1 letter there))
  shown_by (actor.Server n) what who does may there = elim (server_says (setting_in run) u n what s.own.stamp may.1 letter there) [
    | Mute mute ↦ absurd (not_mute mute)
    | Rev seq other told ↦ absurd (let f : body.WrongRev seq ≡ body.Seen line round running inc full = sym other ∙ e in cc)
    | Sight l r glance to mine so rev ↦
        let t = tells_of (u.servers n) line round l r running inc full (sym so ∙ e) in
        let at : HasGlanceAt (setting_in run) (start (setting_in run)) run.records line round n = record {
          moment = s.moment;
          within = may.0;
          who = who;
          what = does ∙ glance ∙ (λ j. Glance (t.line_is j) (t.round_is j));
        } in
        record {
          server = n;
          to = to;
          «from» = mine;
          saw = record { at = at; so = t.runs; known = λ on. let e : letter.rev ≡ (server_state (setting_in run) u n).rev = rev on in omega arith };
          found_full = λ is. let f = t.found_full is in record { round = round; server = n; at = at; runs = f.0; full = f.1 };
        }
  ]

pub shows : (run : Run) (letter : Letter) (line round : ℕ) (running : Bool) (inc : ℕ) (full : Bool) → In letter (after run).sent
    → letter.body ≡ body.Seen line round running inc full → IsSent run letter line round running inc full
shows run letter line round running inc full i e =
    let s = was_sent run letter i in
    let follows = follows_in (at_moment run s.moment) in
    shown_by run letter line round running inc full s e s.own.actor s.own.step refl refl follows.may.may (subst (In letter) follows.sent s.sent)

module _ (script : Script) (sound : IsSound script) where
  abbrev setting : Setting
  setting = setting_of script

  abbrev lines : List Line
  lines = script.lines

  abbrev W : List Record → World
  W done = world_after setting (start setting) done

  abbrev Saw : List Record → (line round server : ℕ) → Option ℕ → (rev : ℕ) → Type 0
  Saw done line round server told rev = HasShown setting (start setting) done line round server told rev

  abbrev Ends_settle : List Record → ℕ → Answer → Type 0
  Ends_settle done number given = HasSettled setting (start setting) done number given

  -- a later revision will do
  seen_by : (done : List Record) {line round server : ℕ} {told : Option ℕ} {one other : ℕ} → one ≤ other → Saw done line round server told one
      → Saw done line round server told other
  seen_by done le s = record { at = s.at; so = s.so; known = λ on. let at_most = s.known on in omega arith }

  -- a state of more entries is of no earlier revision
  revs_grow : (prefix more : List Command) → IsPrefix prefix more
      → (state_after setting.servers prefix).rev ≤ (state_after setting.servers more).rev
  revs_grow prefix more is_prefix =
      let one = log_rev setting.servers prefix in
      let other = log_rev setting.servers more in
      let longer : length more ≡ length (prefix ++ is_prefix.later) = ap (λ (l : List Command). length l) is_prefix.is in
      let split : length (prefix ++ is_prefix.later) ≡ length prefix + length is_prefix.later = length-append prefix is_prefix.later in
      omega arith

  -- what is kept after these records
  record Kept (w : World) (done : List Record) : Type 0 where
    rising : (c : ℕ) (asked : Asked) → (w.clients c).asked ≡ Some asked → IsRising nat_cmp asked.seen
    seen : (c : ℕ) (asked : Asked) → (w.clients c).asked ≡ Some asked → (n : ℕ) (told : Option ℕ) → Shows asked.seen n told
        → Saw done asked.line asked.round n told (client_state setting w c).rev

  -- ### One record more

  module _ (records : List Record) (m : IsMoment records) (legal : AreSteps script m.prefix) (kept : Kept (W m.prefix) m.prefix) where
    abbrev done : List Record
    done = m.prefix

    abbrev own : Record
    own = m.own

    abbrev glanced_on : (line round server : ℕ) → HasGlanceAt setting (start setting) done line round server
        → HasGlanceAt setting (start setting) records line round server
    glanced_on line round server g = record { moment = sooner m g.moment; within = g.within; who = g.who; what = g.what }

    saw_on : (line round server : ℕ) (told : Option ℕ) (rev : ℕ) → Saw done line round server told rev → Saw records line round server told rev
    saw_on line round server told rev s = record { at = glanced_on line round server s.at; so = s.so; known = s.known }

    full_on : (line : ℕ) → HasFoundFull setting (start setting) done line → HasFoundFull setting (start setting) records line
    full_on line f = record { round = f.round; server = f.server; at = glanced_on line f.round f.server f.at; runs = f.runs; full = f.full }

    abbrev w : World
    w = W done

    kept_seen : (c : ℕ) (asked : Asked) → (w.clients c).asked ≡ Some asked → (n : ℕ) (told : Option ℕ) → Shows asked.seen n told
        → Saw records asked.line asked.round n told (client_state setting w c).rev
    kept_seen c asked is n told e = saw_on asked.line asked.round n told _ (kept.seen c asked is n told e)

    -- ### A client's step

    -- what a client has open
    record IsGood (client : Client) : Type 0 where
      rising : (asked : Asked) → client.asked ≡ Some asked → IsRising nat_cmp asked.seen
      seen : (asked : Asked) → client.asked ≡ Some asked → (n : ℕ) (told : Option ℕ) → Shows asked.seen n told
          → Saw records asked.line asked.round n told (state_after setting.servers client.applied).rev

    was_good : (c : ℕ) → IsGood (w.clients c)
    was_good c = record { rising = kept.rising c; seen = kept_seen c }

    gone_good : (client : Client) → client.asked ≡ None → IsGood client
    gone_good client none = record { rising = λ asked e. none_some none e; seen = λ asked e. none_some none e }

    -- a request that has seen no server yet
    fresh_rising : (asked : Asked) → asked.seen ≡ [] → IsRising nat_cmp asked.seen
    fresh_rising asked none = subst (IsRising nat_cmp) (sym none) tt

    fresh_seen : {A : Type 0} (asked : Asked) → asked.seen ≡ [] → (n : ℕ) (told : Option ℕ) → Shows asked.seen n told → A
    fresh_seen asked none n told e = none_some (ap (λ t. at nat_cmp t n) none ∙ at-empty nat_cmp n) e

    module _ (c : ℕ) where
      abbrev client : Client
      client = w.clients c

      abbrev state : State
      state = client_state setting w c

      rounded_rising : (new : Asked) → IsRounded client.asked new → IsRising nat_cmp new.seen
      rounded_rising new (Keeps old is same) = subst (IsRising nat_cmp) (sym same.seen) (kept.rising c old is)
      rounded_rising new (Starts none) = fresh_rising new none

      rounded_seen : (new : Asked) → IsRounded client.asked new → (n : ℕ) (told : Option ℕ) → Shows new.seen n told
          → Saw records new.line new.round n told state.rev
      rounded_seen new (Keeps old is same) n told e =
          subst (λ r. Saw records new.line r n told state.rev) (sym same.round)
          (subst (λ l. Saw records l old.round n told state.rev) (sym same.line)
          (kept_seen c old is n told (ap (λ t. at nat_cmp t n) (sym same.seen) ∙ e)))
      rounded_seen new (Starts none) n told e = fresh_seen new none n told e

      -- what a glance showed is taken up
      module _ (asked : Asked) (is : client.asked ≡ Some asked) (sight : Shown_by) (has : HasSight w c sight)
          (line : sight.line ≡ asked.line) where
        sent : IsSent (run_of script sound done legal) has.letter sight.line sight.round sight.running sight.inc sight.full
        sent = shows (run_of script sound done legal) has.letter sight.line sight.round sight.running sight.inc sight.full has.sent has.is

        server_is : sent.server ≡ sight.server
        server_is = let e : actor.Server sent.server ≡ actor.Server sight.server = sym sent.«from» ∙ has.«from» in cc

        to_operator : c ≡ operator
        to_operator = let e : actor.Client c ≡ actor.Client operator = sym has.own ∙ sent.to in cc

        abbrev more : Asked
        more = with_sight asked sight

        more_rising : IsRising nat_cmp more.seen
        more_rising = put_rises nat_cmp_total asked.seen sight.server _ (kept.rising c asked is)

        module _ (round : sight.round ≡ asked.round) (known : sight.rev ≤ state.rev) where
          more_seen : (n : ℕ) (told : Option ℕ) → Shows more.seen n told → Saw done asked.line asked.round n told state.rev
          more_seen n told e = elim (same_or_apart n sight.server) [
            | inl same ↦
                let now : told_as sight.running sight.inc ≡ told =
                same_some (sym (at_same asked.seen sight.server (told_as sight.running sight.inc)) ∙ ap (at nat_cmp more.seen) (sym same)
                ∙ e) in
                let no_later : has.letter.rev ≤ state.rev = let e = has.rev in omega arith in
                let seen = seen_by done no_later sent.saw in
                subst (λ k. Saw done asked.line asked.round k told state.rev) (server_is ∙ sym same)
                (subst (λ t. Saw done asked.line asked.round sent.server t state.rev) now
                (subst (λ r. Saw done asked.line r sent.server (told_as sight.running sight.inc) state.rev) round
                (subst (λ l. Saw done l sight.round sent.server (told_as sight.running sight.inc) state.rev) line seen)))
            | inr ne ↦ kept.seen c asked is n told (sym (at_apart asked.seen sight.server (told_as sight.running sight.inc) n ne) ∙ e)
          ]

          more_good : IsGood (record client { asked = Some more })
          more_good = record {
            rising = λ new e. subst (λ (a : Asked). IsRising nat_cmp a.seen) (same_some e) more_rising;
            seen = λ new e n told there. subst (λ (a : Asked). Saw records a.line a.round n told state.rev) (same_some e)
                (saw_on asked.line asked.round n told state.rev
                (more_seen n told (ap (λ (a : Asked). at nat_cmp a.seen n) (same_some e) ∙ there)));
          }

          rounds_good : IsGood (rounds state client more).client
          rounds_good =
              by_test (λ (r : Reaction). IsGood r.client) (not (length more.seen == servers_of state)) _ _
              (λ t. more_good)
              (λ t. by_test (λ (r : Reaction). IsGood r.client) (is_settled state (map (λ row. row.1) more.seen)) _ _
              (λ s. gone_good _ refl)
              (λ s. record {
                rising = λ new e. fresh_rising new (ap (λ (a : Asked). a.seen) (sym (same_some e)));
                seen = λ new e n told there. fresh_seen new (ap (λ (a : Asked). a.seen) (sym (same_some e))) n told there;
              }))

        settles_good : IsGood (settles state client asked sight).client
        settles_good =
            by_test (λ (r : Reaction). IsGood r.client) sight.full _ _
            (λ t. gone_good _ refl)
            (λ t. by_test (λ (r : Reaction). IsGood r.client) ((sight.round == asked.round) && nat_le sight.rev state.rev) _ _
            (λ s. let c = counted sight.round asked.round sight.rev state.rev s in rounds_good c.0 c.1) (λ s. was_good c))

      client_good : (reacted : Reaction) → IsPrefix client.applied reacted.client.applied → Rounds w state c client reacted
          → IsGood reacted.client
      client_good reacted grows (Quiet keeps unsettled) = record {
        rising = λ new e. rounded_rising new (keeps new e);
        seen = λ new e n told there. seen_by records (revs_grow client.applied reacted.client.applied grows)
            (rounded_seen new (keeps new e) n told there);
      }
      client_good reacted grows (Sees asked sight is settle has line e) =
          subst (λ (r : Reaction). IsGood r.client) (sym e) (settles_good asked is sight has line)

      -- ### What the client answers

      servers_are : servers_of state ≡ setting.servers
      servers_are =
          let firm = firm_after setting (start setting) done (always_firm script done sound legal) in
          (log_plain setting.servers client.applied (prefix_plain setting.servers client.applied _ firm.plain (firm.clients c))).many

      module _ (who : own.actor ≡ actor.Client c) (asked : Asked) (is : client.asked ≡ Some asked) (sight : Shown_by)
          (has : HasSight w c sight)
          (line : sight.line ≡ asked.line) (number : ℕ) (given : Answer) where
        abbrev Told : Reaction → Type 0
        Told reacted = reacted.answer ≡ Some (number, given) → Ends_settle records number given

        told_so : (one : Answer) → Ends_settle records asked.line one
            → (let o : Option (ℕ × Answer) = Some (asked.line, one) in o) ≡ Some (number, given)
            → Ends_settle records number given
        told_so one ends e = let f = pair_is e in subst (λ k. Ends_settle records k given) f.0 (subst (Ends_settle records asked.line) f.1 ends)

        round_ended : (round : sight.round ≡ asked.round) → sight.rev ≤ state.rev → length (more asked is sight has line).seen ≡ servers_of state
            → is_settled state (map (λ row. row.1) (more asked is sight has line).seen) ≡ true
            → WasSettled setting (start setting) records asked.line
        round_ended round known each settled =
            let seen = (more asked is sight has line).seen in
            let rising = more_rising asked is sight has line in
            let shows = more_seen asked is sight has line round known in
            let mine = to_operator asked is sight has line in
            let all = each ∙ servers_are in
            record {
              moment = m;
              who = who ∙ ap actor.Client mine;
              round = asked.round;
              shown = map (λ row. row.1) seen;
              all = length-map seen (λ row. row.1) ∙ all;
              each = λ server told e.
                  let there = placed 0 seen rising
                  (λ row h. let s = shows row.0 row.1 (at_row nat_cmp_total seen row rising h) in
                  let within = s.at.within in
                  (omega arith, omega arith)) server told e in
                  let number_is : 0 + server ≡ server = omega arith in
                  subst (λ k. Saw done asked.line asked.round server told (client_state setting w k).rev) mine
                  (subst (λ n. Saw done asked.line asked.round n told state.rev) number_is
                  (shows (0 + server) told (at_row nat_cmp_total seen (0 + server, told) rising there)));
              settled = subst (λ k. is_settled (client_state setting w k) (map (λ row. row.1) seen) ≡ true) mine settled;
            }

        rounds_told : (round : sight.round ≡ asked.round) → sight.rev ≤ state.rev → Told (rounds state client (more asked is sight has line))
        rounds_told round known =
            let seen = (more asked is sight has line).seen in
            by_test Told (not (length seen == servers_of state)) _ _
            (λ t e. none_some refl e)
            (λ t. by_test Told (is_settled state (map (λ row. row.1) seen)) _ _
            (λ s. told_so answer.Ok (round_ended round known (same_numbers (length seen) (servers_of state) (was_true _ t)) s))
            (λ s e. none_some refl e))

        settles_told : Told (settles state client asked sight)
        settles_told =
            by_test Told sight.full _ _
            (λ t. told_so answer.NoSpace (full_on asked.line
            (subst (HasFoundFull setting (start setting) done) line ((sent asked is sight has line).found_full t))))
            (λ t. by_test Told ((sight.round == asked.round) && nat_le sight.rev state.rev) _ _
            (λ s. let c = counted sight.round asked.round sight.rev state.rev s in rounds_told c.0 c.1) (λ s e. none_some refl e))

      -- the operator's request is that of its line
      asks_settle : (asked : Asked) → client.asked ≡ Some asked → (line : Line) → In line lines → line.number ≡ asked.line
          → line.request ≡ request.Settle
          → asked.request ≡ request.Settle
      asks_settle asked is line there at settle =
          let o = open_for script done sound legal c asked is in
          let same : o.line ≡ line = sound.numbered o.line line (line_at lines c o.before o.line o.is).0 there (sym o.line_is ∙ sym at) in
          o.request_is ∙ ap (λ (x : Line). x.request) same ∙ settle

      client_told : (who : own.actor ≡ actor.Client c) (in_call : Bool) (reacted : Reaction) → Rounds w state c client reacted
          → Turned (Heard w (actor.Client c)) setting.servers lines c client in_call reacted → (number : ℕ) (given : Answer)
          → reacted.answer ≡ Some (number, given) → (line : Line) → In line lines → line.number ≡ number → line.request ≡ request.Settle
          → Ends_settle records number given
      client_told who in_call reacted (Quiet keeps unsettled) turned number given e line there at settle =
          let a = answered_line _ setting.servers lines c client in_call reacted turned number given e in
          none_some (unsettled a.0 a.1 (asks_settle a.0 a.1 line there (at ∙ sym a.2) settle)) e
      client_told who in_call reacted (Sees asked sight is settling has line_is so) turned number given e line there at settle =
          settles_told who asked is sight has line_is number given (ap (λ (r : Reaction). r.answer) (sym so) ∙ e)

    record_keeps : (who : Actor) (what : Step) → MayActor who what setting w → Kept (step who what setting w own.stamp).world records
    unfolding step
    record_keeps (actor.Server n) what may = record { rising = kept.rising; seen = kept_seen }
    record_keeps (actor.Client c) what may =
        let reacted = client_step what (client_state setting w c) c (w.clients c) (next_line lines c (w.clients c)) in
        let good = all_put w.clients c reacted.client (λ k (x : Client). IsGood x) was_good
        (client_good c reacted (client_turns setting w c what may.1).grows (client_rounds setting w c what may.1)) in
        record { rising = λ k. (good k).rising; seen = λ k. (good k).seen }

    settled_so : (who : Actor) (what : Step) → own.actor ≡ who → MayActor who what setting w → (number : ℕ) (given : Answer)
        → (step who what setting w own.stamp).answer ≡ Some (number, given) → (line : Line) → In line lines → line.number ≡ number
        → line.request ≡ request.Settle → Ends_settle records number given
    unfolding step
    settled_so (actor.Server n) what who may number given e line there at settle = none_some refl e
    settled_so (actor.Client c) what who may number given e line there at settle =
        let reacted = client_step what (client_state setting w c) c (w.clients c) (next_line lines c (w.clients c)) in
        client_told c who _ reacted (client_rounds setting w c what may.1) (client_turns setting w c what may.1).turned number given e line there at settle

  -- ### All records

  start_kept : Kept (start setting) []
  start_kept = record {
    rising = λ c asked e. none_some refl e;
    seen = λ c asked e. none_some refl e;
  }

kept_in : (run : Run) → Kept run.script run.sound (after run) run.records
kept_in =
    by_run (λ run. Kept run.script run.sound (after run) run.records) (λ script sound legal. start_kept script sound) (λ it kept.
    subst (λ (v : World). Kept it.prior.script it.prior.sound v (longer it).records) (sym (stepped_in it))
    (record_keeps it.prior.script it.prior.sound (longer it).records (last_moment it.prior.records it.own) it.prior.legal kept it.own.actor it.own.step
    (follows_in it).may.may))

pub settled_by : (run : Run) (line : Line) (given : Answer) → In line run.script.lines → line.request ≡ request.Settle
    → In (line.number, given) (after run).answers → HasSettled (setting_in run) (start (setting_in run)) run.records line.number given
settled_by run line given there settle told =
    let m = was_answered run (line.number, given) told in
    let it = at_moment run m.moment in
    settled_so run.script run.sound run.records m.moment it.prior.legal (kept_in it.prior) m.own.actor m.own.step refl (follows_in it).may.may line.number
    given (sym (follows_in it).answer ∙ m.answered) line there refl settle
