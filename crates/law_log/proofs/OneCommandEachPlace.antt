-- What follows from what is kept: one command a place is told, those that are told were asked for, and logs are plain.
use Rattle.law_log.proofs.Imports.{◌+◌, ◌==◌, ◌≡◌, ◌≤◌, Among, Bool, Caught, Command, Drained, HasProperTuple, HasProperTuples, IsAnnounced, IsChosen, Join}
use Rattle.law_log.proofs.Imports.{Leave, Line, List, MakeDisk, Moved, Request, Server, Setting, Snap, Some, StartMove, Witness, ap, begin, begin_holds}
use Rattle.law_log.proofs.Imports.{command_of, false, inl, inr, is_caught, is_tuple, lines_of, log_in, none_some, one_chosen, refl, run, run_holds, same_some}
use Rattle.law_log.proofs.Imports.{server_state, servers_of, slice_get, subst, sym, true, true_false, ℕ}
use Rattle.petal_command.specs.declared.pax.Pax.TheVariants.{Chosen}
use Rattle.spec_rules.specs.World.{World}
use Rattle.law_log.specs.AgreedLog.{IsCalledAnywhere, Logged, MayWant, Minded, Returns, is_join}
use Rattle.law_log.specs.ProposedCommands.{HasStopped, IsCalledFor, IsOfLives, IsScripted}
use Rattle.law_log.proofs.ListPlaces.{among_at, at_among, kept_among}
use Rattle.spec_paxos.specs.Schedule as schedule
use Rattle.law_agreement.proofs.ChosenWasWanted as wants
use Rattle.script_lines.specs.declared.request.Request.TheVariants as request

-- what the laws need of a setting: ballots tell the servers apart, and each disk is made, and moved, over a tuple of them
pub record IsFair (setting : Setting) : Type 0 where
  pub small : setting.servers ≤ 256
  pub spread : (line : Line) (name tuple : List ℕ) → Among line setting.lines → line.request ≡ request.Disk name tuple → is_tuple setting.servers tuple ≡ true
  pub moved : (line : Line) (name tuple : List ℕ) → Among line setting.lines → line.request ≡ request.Move name tuple → is_tuple setting.servers tuple ≡ true

-- ### What is told

module _ {Was : Minded} (setting : Setting) (w : World) (small : setting.servers ≤ 256) (l : Logged Was setting w) where
  pub told_chosen : (place : ℕ) (c : Command) → IsAnnounced (run setting.servers l.events begin) place c
      → IsChosen setting.servers (run setting.servers l.events begin) place c
  told_chosen place c t = (run_holds setting.servers begin small (begin_holds setting.servers) l.events).backed t.from (Chosen place c) t.is

  pub chosen_wanted : (place : ℕ) (c : Command) → IsChosen setting.servers (run setting.servers l.events begin) place c
      → MayWant Was setting w w.servers (run setting.servers l.events begin) place c
  chosen_wanted place c k = l.is.wanted place c (wants.wanted setting.servers l.events place c small k)

  pub chosen_once : (place : ℕ) (c d : Command) → IsChosen setting.servers (run setting.servers l.events begin) place c
      → IsChosen setting.servers (run setting.servers l.events begin) place d → d ≡ c
  chosen_once place c d k m =
      one_chosen setting.servers (run setting.servers l.events begin)
      (run_holds setting.servers begin small (begin_holds setting.servers) l.events) place d c m k

  pub told_once : (place : ℕ) (c d : Command) → IsAnnounced (run setting.servers l.events begin) place c
      → IsAnnounced (run setting.servers l.events begin) place d → d ≡ c
  told_once place c d t u = chosen_once place c d (told_chosen place c t) (told_chosen place d u)

  pub told_wanted : (place : ℕ) (c : Command) → IsAnnounced (run setting.servers l.events begin) place c
      → MayWant Was setting w w.servers (run setting.servers l.events begin) place c
  told_wanted place c t = chosen_wanted place c (told_chosen place c t)

-- ### Lines of a script

pub line_of : (lines : List Line) (c i : ℕ) (line : Line) → slice_get (lines_of lines c) i ≡ Some line → Among line lines
line_of lines c i line e = kept_among (λ l. l.client == c) lines line (among_at (lines_of lines c) i line e)

-- ### Plain logs

made_plain : (servers client seq : ℕ) (asked : Request) (c : Command)
    → ((name tuple : List ℕ) → asked ≡ request.Disk name tuple → is_tuple servers tuple ≡ true)
    → ((name tuple : List ℕ) → asked ≡ request.Move name tuple → is_tuple servers tuple ≡ true)
    → command_of client seq asked ≡ Some c → HasProperTuple servers c
made_plain servers client seq (request.Disk name tuple) c spread moved e = subst (HasProperTuple servers) (same_some e) (spread name tuple refl)
made_plain servers client seq (request.Snap name snap) c spread moved e = subst (HasProperTuple servers) (same_some e) tt
made_plain servers client seq (request.Move name tuple) c spread moved e = subst (HasProperTuple servers) (same_some e) (moved name tuple refl)
made_plain servers client seq _ c spread moved e = none_some refl e

pub scripted_plain : (setting : Setting) (w : World) → IsFair setting → (c : Command) → IsScripted setting w c → HasProperTuple setting.servers c
scripted_plain setting w fair c s = elim s.so [
  | inl e ↦ made_plain setting.servers s.client (s.before + 1) s.line.request c
      (λ name tuple is. fair.spread s.line name tuple (line_of setting.lines s.client s.before s.line s.is) is)
      (λ name tuple is. fair.moved s.line name tuple (line_of setting.lines s.client s.before s.line s.is) is) e
  | inr e ↦ subst (HasProperTuple setting.servers) (sym e.1) tt
]

lives_plain : (servers : ℕ) (w : World) (c : Command) → IsOfLives w c → HasProperTuple servers c
lives_plain servers w (Leave server inc) h = tt
lives_plain servers w (Join server inc blank) h = tt
lives_plain servers w _ h = absurd h

called_plain : (setting : Setting) (w : World) → IsFair setting → (c : Command) → IsCalledFor setting w c → HasProperTuple setting.servers c
called_plain setting w fair c (inl s) = scripted_plain setting w fair c s
called_plain setting w fair c (inr h) = lives_plain setting.servers w c h

returns_plain : (servers : ℕ) (actors : ℕ → Server) (prefix : List Command) (c : Command) → Returns servers actors prefix c → HasProperTuple servers c
returns_plain servers actors prefix (Caught of link holder inc other other_inc) h = tt
returns_plain servers actors prefix (Join server inc blank) h = tt
returns_plain servers actors prefix (Drained server inc fence) h = tt
returns_plain servers actors prefix (Moved of region link) h = tt
returns_plain servers actors prefix _ h = absurd h

pub wanted_plain : {Was : Minded} (setting : Setting) (w : World) (p : schedule.World) → IsFair setting → (place : ℕ) (c : Command)
    → MayWant Was setting w w.servers p place c → HasProperTuple setting.servers c
wanted_plain setting w p fair place c h = elim h.0 [
  | inl called ↦ called_plain setting w fair c called.0
  | inr returns ↦ returns_plain setting.servers w.servers returns.prefix c returns.is
]

-- what a line of a script calls for: a disk, a snapshot, a move, or a Witness
abbrev is_of_line : Command → Bool
is_of_line (MakeDisk client seq name tuple) = true
is_of_line (Snap client seq disk name) = true
is_of_line (StartMove client seq disk tuple) = true
is_of_line (Witness client seq turn) = true
is_of_line _ = false

line_asks : (client seq : ℕ) (asked : Request) (c : Command) → command_of client seq asked ≡ Some c → is_of_line c ≡ true
line_asks client seq (request.Disk name tuple) c e = ap is_of_line (sym (same_some e))
line_asks client seq (request.Snap name snap) c e = ap is_of_line (sym (same_some e))
line_asks client seq (request.Move name tuple) c e = ap is_of_line (sym (same_some e))
line_asks client seq _ c e = none_some refl e

line_calls : (setting : Setting) (w : World) (c : Command) → IsScripted setting w c → is_of_line c ≡ true
line_calls setting w c s = elim s.so [
  | inl e ↦ line_asks s.client (s.before + 1) s.line.request c e
  | inr e ↦ ap is_of_line e.1
]

-- so none calls for a Leave
pub leave_stopped : (setting : Setting) (w : World) (server inc : ℕ) → IsCalledFor setting w (Leave server inc) → HasStopped w server inc
leave_stopped setting w server inc (inl s) = true_false (line_calls setting w (Leave server inc) s) refl
leave_stopped setting w server inc (inr h) = h

-- nor for a Caught
pub not_called : {B : Type 0} (setting : Setting) (w : World) (of link holder inc other other_inc : ℕ)
    → IsCalledFor setting w (Caught of link holder inc other other_inc) → B
not_called setting w of link holder inc other other_inc (inl s) =
    true_false (line_calls setting w (Caught of link holder inc other other_inc) s) refl
not_called setting w of link holder inc other other_inc (inr h) = absurd h

pub uncaught : (setting : Setting) (w : World) (c : Command) → IsCalledFor setting w c → is_caught c ≡ false
uncaught setting w (Caught of link holder inc other other_inc) h = not_called setting w of link holder inc other other_inc h
uncaught setting w _ h = refl

-- nor for a report to a fence
pub no_report : {B : Type 0} (setting : Setting) (w : World) (server inc fence : ℕ) → IsCalledFor setting w (Drained server inc fence) → B
no_report setting w server inc fence (inl s) = true_false (line_calls setting w (Drained server inc fence) s) refl
no_report setting w server inc fence (inr h) = absurd h

-- nor for a Moved
pub no_moved : {B : Type 0} (setting : Setting) (w : World) (of region link : ℕ) → IsCalledFor setting w (Moved of region link) → B
no_moved setting w of region link (inl s) = true_false (line_calls setting w (Moved of region link) s) refl
no_moved setting w of region link (inr h) = absurd h

-- nor for a Join
line_no_join : (c : Command) → is_of_line c ≡ true → is_join c ≡ false
line_no_join (Join server inc blank) e = cc
line_no_join _ e = refl

pub scripted_anywhere : (setting : Setting) (w : World) (c : Command) → IsScripted setting w c → IsCalledAnywhere setting w c
scripted_anywhere setting w c s = (inl s, line_no_join c (line_calls setting w c s))

pub no_join : {B : Type 0} (setting : Setting) (w : World) (server inc : ℕ) (blank : Bool) → IsCalledAnywhere setting w (Join server inc blank) → B
no_join setting w server inc blank h = true_false refl h.1

module _ {Was : Minded} (setting : Setting) (w : World) (fair : IsFair setting) (l : Logged Was setting w) where
  pub applied_plain : (n : ℕ) → HasProperTuples setting.servers (w.servers n).log.applied
  applied_plain n c i =
      let at = at_among c (w.servers n).log.applied i in
      let told = (l.is.servers n).told (at.0 + 1) c ((l.is.servers n).applied at.0 c at.1) in
      wanted_plain setting w (run setting.servers l.events begin) fair (at.0 + 1) c (told_wanted setting w fair.small l (at.0 + 1) c told)

  pub as_many : (n : ℕ) → servers_of (server_state setting w n) ≡ setting.servers
  as_many n = (log_in setting.servers (w.servers n).log.applied (applied_plain n)).many
