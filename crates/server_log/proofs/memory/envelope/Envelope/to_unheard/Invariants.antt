-- The letters so far and those to the servers that are left are all letters, and no more are there than servers so far.
use Rattle.std.proofs.Common.{◌≡◌, ◌-◌, ◌++◌, ◌≤◌, map, filter, not}
use Rattle.std.specs.List.{range_with_len}
use Rattle.petal_msg.specs.declared.body.Body.TheVariants as body
use Rattle.spec_paxos.specs.Proposer.{is_in}
use Rattle.spec_rules.specs.Ballots.{post_of}
use Rattle.spec_rules.specs.Server.{letters_of}
use Rattle.server_log.proofs.memory.envelope.Envelope.to_unheard.Given as goal

abbrev pub invariant-loop-server : goal.invariant-loop-server
invariant-loop-server l =
    (l.letters ++ letters_of l.self l.nth
    (map (post_of (body.Pax l.said)) (filter (λ n. not (is_in l.heard n)) (range_with_len l.server (l.servers - l.server))))
    ≡ letters_of l.self 0 (map (post_of (body.Pax l.said)) (filter (λ n. not (is_in l.heard n)) (range_with_len 0 l.servers)))) × (l.nth ≤ l.server)
