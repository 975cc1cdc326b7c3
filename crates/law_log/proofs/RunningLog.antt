-- The log of a server that runs, and what the schedule's world has of it.
use Rattle.law_log.proofs.Imports.{◌<◌, ◌≤◌, Log, Voter, World, true, ℕ}
use Rattle.law_log.specs.AgreedLog.{AreLow, IsBusyAs, IsSeenAt}

-- such a log
pub record RunningLog : Type 0 where
  pub servers : ℕ
  pub n : ℕ
  pub log : Log
  pub p : World
  pub low : AreLow p
  pub seen : IsSeenAt n log.records log.applied p
  pub busy : IsBusyAs servers n true log.phase p

-- with the server's incarnation, where it is one of at most 256
pub record VotingLog : Type 0 where
  pub running : RunningLog
  pub open running use {servers, n, log, p, low, seen, busy}
  pub inc : ℕ
  pub small : servers ≤ 256
  pub member : n < servers

abbrev pub voter_at : VotingLog → Voter
voter_at it = record { me = it.n; inc = it.inc; servers = it.servers }
