-- The letters so far and those to the servers that are left are all letters, and no more are there than servers so far.
use Rattle.std.proofs.Common.{◌≡◌, ◌==◌, ◌-◌, ◌++◌, ◌≤◌, map, filter, not}
use Rattle.std.specs.List.{range_with_len}
use Rattle.petal_msg.specs.declared.body.Body.TheVariants as body
use Rattle.spec_rules.specs.Ballots.{post_of}
use Rattle.spec_rules.specs.Jobs.{down_posts}
use Rattle.spec_rules.specs.Server.{letters_of}
use Rattle.server_log.proofs.memory.envelope.Envelope.down_letters.Given as goal

abbrev pub invariant-loop-server : goal.invariant-loop-server
invariant-loop-server l =
    (l.letters ++ letters_of l.self l.nth
    (map (post_of (body.Down l.me l.inc)) (filter (λ n. not (n == l.me)) (range_with_len l.server (l.servers - l.server))))
    ≡ letters_of l.self 0 (down_posts l.me l.inc l.servers)) × (l.nth ≤ l.server)
