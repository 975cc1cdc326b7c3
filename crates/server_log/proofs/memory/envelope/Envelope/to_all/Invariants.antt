-- The letters so far and those to the servers that are left are all letters.
use Rattle.std.proofs.Common.{◌≡◌, ◌≤◌, ◌-◌, ◌++◌, map, vec_len, vec_capacity}
use Rattle.std.specs.List.{range_with_len}
use Rattle.petal_msg.specs.declared.body.Body.TheVariants as body
use Rattle.spec_rules.specs.Ballots.{post_of}
use Rattle.spec_rules.specs.Server.{letters_of}
use Rattle.server_log.proofs.memory.envelope.Envelope.to_all.Given as goal

abbrev pub invariant-loop-server : goal.invariant-loop-server
invariant-loop-server l = record {
  all : l.letters.items ++ letters_of l.self l.server (map (post_of (body.Pax l.said)) (range_with_len l.server (l.servers - l.server)))
      ≡ letters_of l.self 0 (map (post_of (body.Pax l.said)) (range_with_len 0 l.servers));
  len : vec_len l.letters ≡ l.server;
  room : l.servers ≤ vec_capacity l.letters;
}
