-- The chosen log of a world whose steps are those of a schedule.
use Rattle.law_log.proofs.Imports.{[], ◌++◌, ◌+◌, ◌<◌, ◌∙◌, ◌∷◌, ◌≡◌, ◌≤◌, ◌⊎◌, Agrees, Among, Bool, Caught, Command, Drained, Firm, HasProperTuples}
use Rattle.law_log.proofs.Imports.{HasSchedule, IsAnnounced, IsChosen, IsChosenBy, IsPrefix, IsSingle, Join, Leave, Letter, List, Moved, None, Setting, Some}
use Rattle.law_log.proofs.Imports.{ap, append_assoc, arith, begin, by_bool, chosen_at, chosen_is_told, chosen_log, chosen_state, devices, false, inl, inr}
use Rattle.law_log.proofs.Imports.{is_in, length, log_ends, log_has, log_tells, nat_tests, none_some, prefix_of_log, run, slice_get, state_after, subst, sym}
use Rattle.law_log.proofs.Imports.{told_is_chosen, true, true_false, who_is_in, who_is_out, ℕ}
use Rattle.spec_rules.specs.World.{World}
use Rattle.law_log.specs.AgreedLog.{Catches, Drains, IsBacked, IsCalledAnywhere, IsJoinAt, IsSaidBy, Logged, Minded, Moves, Returns, Waits, WasMinded}
use Rattle.law_log.specs.ProposedCommands.{HasBegun, HasStopped, IsCalledFor, IsCaughtAt, IsReportAt, WasWanted}
use Rattle.law_log.proofs.OneCommandEachPlace.{IsFair, told_chosen, chosen_wanted, chosen_once, told_wanted, leave_stopped, no_join, no_moved, no_report}
use Rattle.law_log.proofs.OneCommandEachPlace.{not_called, uncaught, wanted_plain}
use Rattle.law_log.proofs.ListPlaces.{at_among, at_next, next_at, one_prefix, parted}
use Rattle.law_log.proofs.ServersKeepWorlds.{IsGrown}
use Rattle.spec_paxos.specs.Schedule as schedule
use Rattle.petal_msg.specs.declared.body.Body.TheVariants as body

within_or_past : (i many : ℕ) → (i ≤ many) ⊎ (many < i)
within_or_past i many = grind (arith, nat_tests)

-- one command more of a prefix, and what stands after it
next_stands : (prefix whole : List Command) (c : Command) (i : ℕ) → IsPrefix prefix whole → length prefix ≡ i → slice_get whole i ≡ Some c
    → IsPrefix (prefix ++ c ∷ []) whole
next_stands prefix whole c i is_prefix many e =
    let rest = next_at prefix is_prefix.later c (ap (λ xs. slice_get xs (length prefix)) (sym is_prefix.is) ∙ ap (slice_get whole) many ∙ e) in
    record { later = rest.0; is = is_prefix.is ∙ ap (λ xs. prefix ++ xs) rest.1 ∙ sym (append_assoc prefix (c ∷ []) rest.0) }

stands_next : (prefix whole : List Command) (c : Command) → IsPrefix (prefix ++ c ∷ []) whole → slice_get whole (length prefix) ≡ Some c
stands_next prefix whole c is_prefix =
    ap (λ xs. slice_get xs (length prefix)) (is_prefix.is ∙ append_assoc prefix (c ∷ []) is_prefix.later) ∙ at_next prefix is_prefix.later c

same_prefix : (a b whole : List Command) (c : Command) → IsPrefix a whole → length a ≡ length b → IsPrefix (b ++ c ∷ []) whole → a ≡ b
same_prefix a b whole c one many other =
    one_prefix a b one.later (c ∷ other.later) many (sym one.is ∙ other.is ∙ append_assoc b (c ∷ []) other.later)

module _ {Was : Minded} (setting : Setting) (w : World) (fair : IsFair setting) (l : Logged Was setting w) where
  abbrev P : schedule.World
  P = run setting.servers l.events begin

  by_schedule : (place : ℕ) (c : Command) → IsChosenBy setting.servers (devices w) place c → IsChosen setting.servers P place c
  by_schedule place c k = (k.0, k.1, k.2, λ s is. ((l.is.servers s).votes place k.0 c).1 (k.3 s is))

  by_records : (place : ℕ) (c : Command) → IsChosen setting.servers P place c → IsChosenBy setting.servers (devices w) place c
  by_records place c k = (k.0, k.1, k.2, λ s is. ((l.is.servers s).votes place k.0 c).0 (k.3 s is))

  pub single : IsSingle setting.servers (devices w)
  single place a b i j = chosen_once setting w fair.small l place b a (by_schedule place b j) (by_schedule place a i)

  told_at : (place : ℕ) (c : Command) → IsAnnounced P place c → chosen_at setting.servers (devices w) place ≡ Some c
  told_at place c t = chosen_is_told setting.servers (devices w) place c single (by_records place c (told_chosen setting w fair.small l place c t))

  -- what is told for a place stands there in the chosen log, since all places before were told
  pub told_stands : (i : ℕ) (c : Command) → IsAnnounced P (i + 1) c → slice_get (chosen_log setting w) i ≡ Some c
  told_stands i c t = log_has setting.servers (devices w) i c (none_between (length (chosen_log setting w)) (log_ends setting.servers (devices w)))
      (told_at (i + 1) c t)
    where
      none_between : (many : ℕ) → chosen_at setting.servers (devices w) (many + 1) ≡ None → i ≤ many
      none_between many none =
          elim (within_or_past i many) [
            | inl le ↦ le
            | inr lt ↦ (let before = (told_wanted setting w fair.small l (i + 1) c t).1.told many (omega arith) in
                none_some none (told_at (many + 1) before.0 before.1))
          ]

  pub agrees : Agrees setting w
  agrees = record {
    known = λ n i c e. told_stands i c ((l.is.servers n).told (i + 1) c e);
    servers = λ n.
        let prefix = prefix_of_log setting.servers (devices w) (w.servers n).log.applied
        (λ i c e. told_at (i + 1) c ((l.is.servers n).told (i + 1) c ((l.is.servers n).applied i c e))) in
        record { later = prefix.0; is = prefix.1 };
    clients = λ d.
        let prefix = prefix_of_log setting.servers (devices w) (w.clients d).applied (λ i c e. told_at (i + 1) c (l.is.applied d i c e)) in
        record { later = prefix.0; is = prefix.1 };
  }

  -- a chosen command is called for, or it acts after the entries before it as a Caught, a Join, a report or a Moved
  called_at : (i : ℕ) (c : Command) → slice_get (chosen_log setting w) i ≡ Some c
      → IsCalledAnywhere setting w c
      ⊎ ((prefix : List Command) × IsPrefix prefix (chosen_log setting w) × (length prefix ≡ i) × Returns setting.servers w.servers prefix c
      × WasMinded Was prefix c)
  called_at i c e =
      elim (chosen_wanted setting w fair.small l (i + 1) c
      (by_schedule (i + 1) c (told_is_chosen setting.servers (devices w) (i + 1) c (log_tells setting.servers (devices w) i c e)))).0 [
        | inl called ↦ inl called
        | inr returns ↦ (
            let many = returns.told.many in
            let prefix = prefix_of_log setting.servers (devices w) returns.prefix (λ j d is. told_at (j + 1) d (returns.told.told j d is)) in
            inr (returns.prefix, record { later = prefix.0; is = prefix.1 }, omega arith, returns.is, returns.was))
      ]

  -- what stands after a prefix, and is called for nowhere else, acts after that prefix
  returns_at : (prefix : List Command) (c : Command) → (IsCalledAnywhere setting w c → ⊥) → IsPrefix (prefix ++ c ∷ []) (chosen_log setting w)
      → Returns setting.servers w.servers prefix c × WasMinded Was prefix c
  returns_at prefix c none is_prefix = elim (called_at (length prefix) c (stands_next prefix (chosen_log setting w) c is_prefix)) [
    | inl called ↦ absurd (none called)
    | inr returns ↦ subst (λ (xs : List Command). Returns setting.servers w.servers xs c × WasMinded Was xs c)
        (same_prefix returns.0 prefix (chosen_log setting w) c returns.1 returns.2 is_prefix) (returns.3, returns.4)
  ]

  pub caught_at : (prefix : List Command) (of link holder inc other other_inc : ℕ)
      → IsPrefix (prefix ++ Caught of link holder inc other other_inc ∷ []) (chosen_log setting w)
      → IsCaughtAt setting.servers w.servers prefix of link holder inc other other_inc
  caught_at prefix of link holder inc other other_inc is_prefix =
      (returns_at prefix (Caught of link holder inc other other_inc) (λ called. not_called setting w of link holder inc other other_inc called.0) is_prefix).0

  -- and its holder had it in mind there
  pub caught_was : (prefix : List Command) (of link holder inc other other_inc : ℕ)
      → IsPrefix (prefix ++ Caught of link holder inc other other_inc ∷ []) (chosen_log setting w)
      → Was holder inc prefix (Catches (record { map = of; link = link }))
  caught_was prefix of link holder inc other other_inc is_prefix =
      (returns_at prefix (Caught of link holder inc other other_inc) (λ called. not_called setting w of link holder inc other other_inc called.0) is_prefix).1

  pub join_at : (prefix : List Command) (server inc : ℕ) (blank : Bool) → IsPrefix (prefix ++ Join server inc blank ∷ []) (chosen_log setting w)
      → IsJoinAt setting.servers w.servers prefix server inc
  join_at prefix server inc blank is_prefix = (returns_at prefix (Join server inc blank) (no_join setting w server inc blank) is_prefix).0

  -- and its server's store waited to be filled, or not, as it says
  join_was : (prefix : List Command) (server inc : ℕ) (blank : Bool) → IsPrefix (prefix ++ Join server inc blank ∷ []) (chosen_log setting w)
      → Was server inc prefix (Waits blank)
  join_was prefix server inc blank is_prefix = (returns_at prefix (Join server inc blank) (no_join setting w server inc blank) is_prefix).1

  -- a report counts there, and its server had drained
  pub report_at : (prefix : List Command) (server inc fence : ℕ) → IsPrefix (prefix ++ Drained server inc fence ∷ []) (chosen_log setting w)
      → IsReportAt setting.servers prefix server inc fence
  report_at prefix server inc fence is_prefix =
      (returns_at prefix (Drained server inc fence) (λ called. no_report setting w server inc fence called.0) is_prefix).0

  pub report_was : (prefix : List Command) (server inc fence : ℕ) → IsPrefix (prefix ++ Drained server inc fence ∷ []) (chosen_log setting w)
      → Was server inc prefix Drains
  report_was prefix server inc fence is_prefix =
      (returns_at prefix (Drained server inc fence) (λ called. no_report setting w server inc fence called.0) is_prefix).1

  -- of a Moved a server had nothing left there
  pub moved_was : (prefix : List Command) (of region link : ℕ) → IsPrefix (prefix ++ Moved of region link ∷ []) (chosen_log setting w)
      → (server : ℕ) × (inc : ℕ) × Was server inc prefix (Moves of region link)
  moved_was prefix of region link is_prefix = (returns_at prefix (Moved of region link) (λ called. no_moved setting w of region link called.0) is_prefix).1

  -- each chosen command stands after a prefix
  stands_at : (c : Command) → Among c (chosen_log setting w) → (prefix : List Command) × IsPrefix (prefix ++ c ∷ []) (chosen_log setting w)
  stands_at c i =
      let part = parted c (chosen_log setting w) i in
      (part.0, record { later = part.1; is = part.2 ∙ sym (append_assoc part.0 (c ∷ []) part.1) })

  pub join_waited : (server inc : ℕ) (blank : Bool) → Among (Join server inc blank) (chosen_log setting w)
      → (prefix : List Command) × Was server inc prefix (Waits blank)
  join_waited server inc blank i = let at = stands_at (Join server inc blank) i in (at.0, join_was at.0 server inc blank at.1)

  wanted_or_join : (c : Command) (prefix : List Command) → IsPrefix (prefix ++ c ∷ []) (chosen_log setting w) → Returns setting.servers w.servers prefix c
      → IsCalledFor setting w c ⊎ WasWanted setting w c
  wanted_or_join (Caught of link holder inc other other_inc) prefix stands h = inr (record { prefix = prefix; stands = stands; is = h })
  wanted_or_join (Drained server inc fence) prefix stands h = inr (record { prefix = prefix; stands = stands; is = h })
  wanted_or_join (Moved of region link) prefix stands h = inr (record { prefix = prefix; stands = stands; is = h })
  wanted_or_join (Join server inc blank) prefix stands h = inl (inr (h.later, h.begun))
  wanted_or_join _ prefix stands h = absurd h

  pub called_for : (c : Command) → Among c (chosen_log setting w) → IsCalledFor setting w c ⊎ WasWanted setting w c
  called_for c i =
      let at = at_among c (chosen_log setting w) i in
      elim (called_at at.0 c at.1) [
        | inl called ↦ inl called.0
        | inr returns ↦ wanted_or_join c returns.0 (next_stands returns.0 (chosen_log setting w) c at.0 returns.1 returns.2 at.1) returns.3
      ]

  plain : HasProperTuples setting.servers (chosen_log setting w)
  plain c i =
      let at = at_among c (chosen_log setting w) i in
      wanted_plain setting w P fair (at.0 + 1) c (chosen_wanted setting w fair.small l (at.0 + 1) c
      (by_schedule (at.0 + 1) c (told_is_chosen setting.servers (devices w) (at.0 + 1) c (log_tells setting.servers (devices w) at.0 c at.1))))

  pub leave_chosen : (n inc : ℕ) → Among (Leave n inc) (chosen_log setting w) → HasStopped w n inc
  leave_chosen n inc i = elim (called_for (Leave n inc) i) [ inl called ↦ leave_stopped setting w n inc called | inr caught ↦ absurd caught.is ]

  pub join_chosen : (n inc : ℕ) (blank : Bool) → Among (Join n inc blank) (chosen_log setting w) → HasBegun w n inc
  join_chosen n inc blank i = let at = stands_at (Join n inc blank) i in (join_at at.0 n inc blank at.1).begun

  -- an incarnation that was In by a prefix of the log, and is not by the whole, has its Leave chosen, so it has stopped
  pub out_stopped : (n inc : ℕ) (prefix : List Command) → IsPrefix prefix (chosen_log setting w) → is_in (state_after setting.servers prefix) n inc ≡ true
      → is_in (chosen_state setting w) n inc ≡ false → HasStopped w n inc
  out_stopped n inc prefix is_prefix was out =
      leave_chosen n inc (who_is_out setting.servers prefix (chosen_log setting w) n inc plain is_prefix was out)

  -- a server that runs has no Leave of its incarnation chosen, so where it was In as itself it still is
  pub runs_in : (n : ℕ) (prefix : List Command) → (w.servers n).life.running ≡ true → IsPrefix prefix (chosen_log setting w)
      → is_in (state_after setting.servers prefix) n (w.servers n).life.inc ≡ true → is_in (chosen_state setting w) n (w.servers n).life.inc ≡ true
  runs_in n prefix runs is_prefix was = by_bool (is_in (chosen_state setting w) n (w.servers n).life.inc) (λ up. up)
      (λ out. elim (out_stopped n (w.servers n).life.inc prefix is_prefix was out) [
        | inl gone ↦ true_false runs gone.0
        | inr later ↦ absurd (omega arith)
      ])

  -- who is In is so with an incarnation that has begun
  pub in_begun : (n inc : ℕ) → is_in (chosen_state setting w) n inc ≡ true → inc ≤ (w.servers n).life.inc
  in_begun n inc is = elim (who_is_in setting.servers (chosen_log setting w) n inc plain is) [
    | inl one ↦ let low = l.is.first n in omega arith
    | inr joined ↦ join_chosen n inc joined.0 joined.1
  ]

  pub firm : Firm setting w
  firm = record {
    servers = agrees.servers;
    clients = agrees.clients;
    plain = plain;
    runs = runs_in;
    started = λ prefix of link holder inc other other_inc is_prefix. (caught_at prefix of link holder inc other other_inc is_prefix).started;
    asked = λ n command i. elim i [
      | inl wanted ↦ uncaught setting w command (l.is.wants n command wanted).0
      | inr leaving ↦ uncaught setting w command (l.is.leaves n command leaving).0
    ];
  }

  news_told : (letter : Letter) → Among letter w.sent → (after : ℕ) (commands : List Command) → letter.body ≡ body.News after commands
      → (i : ℕ) (command : Command) → slice_get commands i ≡ Some command → IsAnnounced P (after + i + 1) command
  news_told letter there after commands is = subst (IsBacked P (IsCalledAnywhere setting w) (IsSaidBy P letter.from)) is (l.is.sent letter there)

  pub has_schedule : HasSchedule setting.servers w
  has_schedule = record {
    events = l.events;
    is = record {
      acceptors = λ s place. (l.is.servers s).acceptors place;
      known = λ s place. (l.is.servers s).known place;
      incs = λ s. (l.is.servers s).inc;
      proposers = λ s lt. (l.is.busy s lt).proposer;
      asked = λ s lt. (l.is.busy s lt).asked;
      votes = λ s place ballot command. (l.is.servers s).votes place ballot command;
      letters = λ letter from said i who is.
          let backed : IsSaidBy P letter.from said = subst (IsBacked P (IsCalledAnywhere setting w) (IsSaidBy P letter.from)) is (l.is.sent letter i) in
          subst (λ who. IsSaidBy P who said) who backed;
      told = λ s place command e. (l.is.servers s).told place command e;
      news = λ letter after i commands command there is e. news_told letter there after commands is i command e;
    };
  }

-- the log at an earlier world is at the front of the log at a later one, in which each vote still stands
pub grown_log : {Was : Minded} (setting : Setting) (w v : World) → IsFair setting → Logged Was setting v → IsGrown w v
    → IsPrefix (chosen_log setting w) (chosen_log setting v)
grown_log setting w v fair l grown =
    let prefix = prefix_of_log setting.servers (devices v) (chosen_log setting w)
    (λ i c e.
    let k = told_is_chosen setting.servers (devices w) (i + 1) c (log_tells setting.servers (devices w) i c e) in
    chosen_is_told setting.servers (devices v) (i + 1) c (single setting v fair l) (k.0, k.1, k.2, λ s is. grown s (i + 1) k.0 c (k.3 s is))) in
    record { later = prefix.0; is = prefix.1 }
