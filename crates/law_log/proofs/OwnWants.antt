-- What a server wants by its own part may be wanted: a Join, a Caught, a report and a Moved are each after the entries that it has applied, and it has it in
-- mind.
use Rattle.law_log.proofs.Imports.{◌++◌, ◌+◌, ◌<◌, ◌==◌, ◌∙◌, ◌≡◌, ◌≤◌, ◌⊎◌, Among, Command, HasFlag, IsSettledState, Job, Join, LinkId, List, Log, Option}
use Rattle.law_log.proofs.Imports.{Server, Setting, Some, State, Voter, ap, arith, begin, by_test, caught_links, draining, false, first_wanted, get_within}
use Rattle.law_log.proofs.Imports.{id_of, in-append, inl, inr, is_flagged, length, log_plain, may_by, may_join, moving, next_place, number_itself}
use Rattle.law_log.proofs.Imports.{option_map_or, own_join, own_wants, proposed, put_at, put_same, refl, returning, rev_of, run, seated, slice_get, starts}
use Rattle.law_log.proofs.Imports.{subst, sym, true, voter_of, wanted_by, ℕ}
use Rattle.spec_rules.specs.World.{World}
use Rattle.law_log.specs.AgreedLog.{Catches, IsReached, IsToldBefore, Logged, Minded, Returns, WasMinded}
use Rattle.law_log.proofs.OneCommandEachPlace.{applied_plain}
use Rattle.law_log.proofs.CaughtsWanted.{caught_among, caught_may, caught_minded}
use Rattle.law_log.proofs.ReportsWanted.{IsReport, report_among}
use Rattle.law_log.proofs.LogJobsInSchedule.{start_wants}
use Rattle.law_log.proofs.MovedsWanted.{IsMove, move_among}
use Rattle.law_log.proofs.ServersKeepWorlds.{ServerStep, before_of, Remembers}
use Rattle.global_tables.specs.declared.fence.Member.TheVariants as member

-- the next place is reached: what is applied before it was told
pub reached_next : {Was : Minded} (setting : Setting) (w : World) (l : Logged Was setting w) (n : ℕ)
    → IsReached (run setting.servers l.events begin) (next_place (w.servers n).log)
reached_next setting w l n = record {
  starts = omega arith;
  told = λ i lt.
      let at = get_within (w.servers n).log.applied i (omega arith) in
      (at.0, (l.is.servers n).told (i + 1) at.0 ((l.is.servers n).applied i at.0 at.1));
}

-- its own Join is all that a server wants so that it returns
pub join_only : {A : Type 0} (state : State) (me inc : ℕ) (fresh : _) (c : Command)
    → (may_join (slice_get state.view.members me) inc ≡ true → c ≡ Join me inc fresh → A) → Among c (own_join state me inc fresh) → A
unfolding Among
join_only {A} state me inc fresh c so h = by_test (λ (xs : List Command). Among c xs → A) (may_join (slice_get state.view.members me) inc) _ _
    (λ e i. elim i [ inl is ↦ so e is | inr none ↦ absurd none ]) (λ e i. absurd i) h

-- which is of an incarnation after the first
join_later : (servers : ℕ) (state : State) → IsSettledState servers state → (me inc : ℕ) → may_join (slice_get state.view.members me) inc ≡ true → 1 < inc
join_later servers state p me inc may =
    let was = may_by (slice_get state.view.members me) inc may in
    let low : 1 ≤ was.0 = p.members me (member.Out was.0) was.1 in
    let lt = was.2 in
    omega arith

-- what a server has in mind of a ballot that an incarnation of it started for a Caught
abbrev IsMinded : (inc rev : ℕ) → LinkId → Server → Type 0
IsMinded inc rev id server = (inc < server.life.inc) ⊎ ((inc ≡ server.life.inc) × HasFlag server rev id)

-- a ballot that starts applies nothing
start_applied : (voter : Voter) (log : Log) (wants : List Command) → (starts voter log wants).log.applied ≡ log.applied
unfolding starts
start_applied voter log wants = (start_wants voter log (first_wanted log.phase (rev_of log) wants)).applied

module _ (it : ServerStep) (runs : (it.w.servers it.n).life.running ≡ true) (rest : List Job) where
  open it use {Was, setting, fair, w, l, n}
  open before_of it use {P, here, Good, left}

  -- the command that it starts for
  abbrev pub started_for : Option Command
  started_for = first_wanted (w.servers n).log.phase (rev_of (w.servers n).log) (wanted_by here (w.servers n))

  abbrev pub starts_to : Server
  starts_to = let done = starts (voter_of here) (w.servers n).log (wanted_by here (w.servers n)) in
      left done (proposed here.state (w.servers n).own started_for) (rest ++ done.jobs)

  own_plain : IsSettledState setting.servers here.state
  own_plain = log_plain setting.servers _ (applied_plain setting w fair l n)

  applied_told : IsToldBefore P (next_place (w.servers n).log) (w.servers n).log.applied
  applied_told = record { many = refl; told = λ i d e. (l.is.servers n).told (i + 1) d ((l.is.servers n).applied i d e) }

  -- a Caught is after the entries that it has applied, and it has it in mind
  good_caught : Remembers Was setting.servers n (w.servers n) starts_to → seated here.state n here.inc ≡ true → (c : Command) → started_for ≡ Some c
      → Among c (caught_links here (w.servers n).own) → Good starts_to (next_place (w.servers n).log) c
  good_caught remembers seat c first_is h =
      let caught = caught_among here (w.servers n).own c h in
      let found = own_plain.found caught.row caught.there in
      let flagged : is_flagged (proposed here.state (w.servers n).own started_for) (id_of caught.row) ≡ true =
      ap (λ o. is_flagged (proposed here.state (w.servers n).own o) (id_of caught.row)) first_is ∙ caught_minded here (w.servers n).own c caught found in (
        inr (record {
          prefix = (w.servers n).log.applied;
          told = applied_told;
          is = subst (Returns setting.servers (put_at w.servers n starts_to) (w.servers n).log.applied) (sym caught.is) (record {
            may = caught_may here (w.servers n).own c caught found;
            holds = seat;
            joins = ap (λ o. option_map_or (λ present. present == caught.inc) o false) caught.joins ∙ number_itself caught.inc;
            started = subst (λ (x : Server). IsMinded here.inc (length (w.servers n).log.applied) (id_of caught.row) x) (sym (put_same w.servers n starts_to))
                (inr (
                  refl,
                  record {
                    reached = (let e = ap length (start_applied (voter_of here) (w.servers n).log (wanted_by here (w.servers n))) in
                        omega arith);
                    flagged = λ e. flagged;
                  },
                ));
          });
          was = subst (WasMinded Was (w.servers n).log.applied) (sym caught.is)
              (subst (λ (prefix : List Command). Was n here.inc prefix (Catches (id_of caught.row)))
              (start_applied (voter_of here) (w.servers n).log (wanted_by here (w.servers n))) (remembers.catches (id_of caught.row) flagged));
        }),
        reached_next setting w l n,
      )

  -- a Join acts after the entries that it has applied
  good_join : Remembers Was setting.servers n (w.servers n) starts_to → (c : Command) → may_join (slice_get here.state.view.members n) here.inc ≡ true
      → c ≡ Join n here.inc (w.servers n).own.store.fresh → Good starts_to (next_place (w.servers n).log) c
  good_join remembers c may is = (
    inr (record {
      prefix = (w.servers n).log.applied;
      told = applied_told;
      is = subst (Returns setting.servers (put_at w.servers n starts_to) (w.servers n).log.applied) (sym is) (record {
        may = may;
        later = join_later setting.servers here.state own_plain n here.inc may;
        begun = subst (λ (x : Server). here.inc ≤ x.life.inc) (sym (put_same w.servers n starts_to)) (omega arith);
      });
      was = subst (WasMinded Was (w.servers n).log.applied) (sym is) (remembers.waits runs);
    }),
    reached_next setting w l n,
  )

  -- what it wants so that it, or its links, return
  good_return : Remembers Was setting.servers n (w.servers n) starts_to → (c : Command) → started_for ≡ Some c → Among c (returning here (w.servers n).own)
      → Good starts_to (next_place (w.servers n).log) c
  good_return remembers c first_is h =
      by_test (λ (xs : List Command). Among c xs → Good starts_to (next_place (w.servers n).log) c) (seated here.state here.me here.inc)
      (caught_links here (w.servers n).own) (own_join here.state here.me here.inc (w.servers n).own.store.fresh)
      (λ seat. good_caught remembers seat c first_is)
      (λ out i. join_only here.state n here.inc (w.servers n).own.store.fresh c (λ may is. good_join remembers c may is) i) h

  -- a report counts after the entries that it has applied
  good_report : Remembers Was setting.servers n (w.servers n) starts_to → (c : Command) → IsReport here (w.servers n).own c
      → Good starts_to (next_place (w.servers n).log) c
  good_report remembers c report = (
    inr (record {
      prefix = (w.servers n).log.applied;
      told = applied_told;
      is = subst (Returns setting.servers (put_at w.servers n starts_to) (w.servers n).log.applied) (sym report.is)
          (record { seated = report.seated; active = report.active; is = report.heads; number = refl; awaited = report.awaited });
      was = subst (WasMinded Was (w.servers n).log.applied) (sym report.is) (remembers.drains runs report.drained);
    }),
    reached_next setting w l n,
  )

  -- a Moved is after the entries that it has applied
  good_moved : Remembers Was setting.servers n (w.servers n) starts_to → (c : Command) → IsMove here (w.servers n).own c
      → Good starts_to (next_place (w.servers n).log) c
  good_moved remembers c move =
      let found = own_plain.found move.row move.there in (
        inr (record {
          prefix = (w.servers n).log.applied;
          told = applied_told;
          is = subst (Returns setting.servers (put_at w.servers n starts_to) (w.servers n).log.applied) (sym move.is)
              (record { server = n; inc = here.inc; seated = move.seated; row = move.row; linked = found; moves = move.moves });
          was = subst (WasMinded Was (w.servers n).log.applied) (sym move.is) (
            n,
            here.inc,
            remembers.moves runs move.row move.region
                (record { seated = move.seated; linked = found; moves = move.moves; left = move.left }),
          );
        }),
        reached_next setting w l n,
      )

  -- what it wants by its own part
  pub good_own : Remembers Was setting.servers n (w.servers n) starts_to → (c : Command) → started_for ≡ Some c → Among c (own_wants here (w.servers n).own)
      → Good starts_to (next_place (w.servers n).log) c
  good_own remembers c first_is h =
      elim (in-append c (returning here (w.servers n).own ++ draining here (w.servers n).own) (moving here (w.servers n).own) h) [
        | inl former ↦ elim (in-append c (returning here (w.servers n).own) (draining here (w.servers n).own) former) [
          | inl returns ↦ good_return remembers c first_is returns
          | inr drains ↦ good_report remembers c (report_among here (w.servers n).own c drains)
        ]
        | inr moves ↦ good_moved remembers c (move_among here (w.servers n).own c moves)
      ]
