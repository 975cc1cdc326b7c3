use Rattle.std.proofs.Common.{◌+◌, length, max, refl, sym, arith, rules}
use Rattle.spec_paxos.proofs.Committed.{commits_is}
use Rattle.spec_paxos.specs.Kept.{committed, row_of}
use Rattle.spec_paxos.specs.declared.record.StateRecord.TheVariants as kind
use Rattle.spec_rules.specs.Ballots.{round_of}
use Rattle.server_log.specs.Part.{sender_of}
use Rattle.server_log.proofs.Said.{left_as, one_over, refused_done}
use Rattle.server_log.proofs.Starts.{IsNext, log_is, letters_are, records_are}
use Rattle.server_log.proofs.ballots.start_ballot.Goals as goal

pub returns-in-Ok : goal.returns-in-Ok
returns-in-Ok g c =
    let part = c.args.log.now in
    let old = c.args.state.now in
    let new = c.promise.new.self in
    let place = c.in-Some-ballot_place.place in
    let round = c.in-Some-next_round.round in
    let want = c.in-Some.want in
    let entry = kind.Promise place (record { round = round; server = part.voter.me }) in
    let next : IsNext part old.records place round = record { place_is = c.in-Some-ballot_place.ensures.some; round_is = c.in-Some-next_round.ensures.some } in
    rw c.in-Some.is (record {
      done = rw c.only.ensures (record {
        log = log_is part old.records place round want c.begin-prepare.new.self new.records next
            (commits_is old.records new.records entry (rw c.me.ensures at c.in-Ok.ensures.ok)) c.begin-prepare.ensures.begun;
        letters = letters_are part old.records place round want (sender_of part) c.begin-prepare.result c.to_all.result next c.begin-prepare.ensures.letter
            (rw (c.envelope-envelope.ensures, c.get-servers.ensures.value, c.servers.ensures) at c.to_all.ensures);
        jobs = refl;
      });
      voter = rw c.begin-prepare.ensures.begun refl;
      holds = search rules;
      moments = λ observed holds.
          left_as g.D.Disk old.disk new.disk old.records (committed old.records entry) _ (records_are part old.records place round want next)
          (rw c.me.ensures at (c.in-Ok.ensures.any_moment observed holds));
      kept = tt;
      same = λ no. absurd (cc);
      only = tt;
      full = λ no. absurd (cc);
      spent = λ no. absurd (cc);
      later = search rules;
      failed = λ no. absurd (cc);
      run = search rules;
    })

pub returns-in-Err : goal.returns-in-Err
returns-in-Err g c =
    let part = c.args.log.now in
    let old = c.args.state.now in
    let place = c.in-Some-ballot_place.place in
    let round = c.in-Some-next_round.round in
    let entry = kind.Promise place (record { round = round; server = part.voter.me }) in
    let next : IsNext part old.records place round = record { place_is = c.in-Some-ballot_place.ensures.some; round_is = c.in-Some-next_round.ensures.some } in
    let refused = rw c.me.ensures at c.in-Err.ensures in
    rw c.in-Some.is
    (refused_done g.D.Disk part old c.promise.new.self (committed old.records entry) c.in-Err.error _
    (records_are part old.records place round c.in-Some.want next) (one_over old.records entry)
    _ refl refused.full refused.memory refused.failed refused.err refused.only refused.any_moment refused.later refused.run)

pub returns-in_default-ballot_place : goal.returns-in_default-ballot_place
returns-in_default-ballot_place g c =
    let part = c.args.log.now in
    let old = c.args.state.now in
    let place = length part.applied + 1 in
    let round = max (round_of (row_of old.records place).promised) part.refused + 1 in
    let beyond = c.in_default-ballot_place.ensures.none in
    rw c.in-Some.is
    (c.exhausted.ensures.done (kind.Promise place (record { round = round; server = part.voter.me })) _
    (λ body. absurd (let small = body.0 in omega (arith, small, beyond)))
    (sym (records_are part old.records place round c.in-Some.want (record { place_is = refl; round_is = refl }))))

pub returns-in_default-next_round : goal.returns-in_default-next_round
returns-in_default-next_round g c =
    let part = c.args.log.now in
    let old = c.args.state.now in
    let place = c.in-Some-ballot_place.place in
    let round = max (round_of (row_of old.records place).promised) part.refused + 1 in
    let beyond = c.in_default-next_round.ensures.none in
    rw c.in-Some.is
    (c.exhausted-in_default-next_round.ensures.done (kind.Promise place (record { round = round; server = part.voter.me })) _
    (λ body. absurd (let small = body.1.0 in omega (arith, small, beyond)))
    (sym (records_are part old.records place round c.in-Some.want (record { place_is = c.in-Some-ballot_place.ensures.some; round_is = refl }))))

pub returns-in_default : goal.returns-in_default
returns-in_default g c =
    rw c.in_default.is c.quiet.ensures
