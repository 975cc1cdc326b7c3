-- An open request is that of a line, and what a line of the operator's asks of a server.
use Rattle.law_answers.proofs.Imports.{◌+◌, ◌-◌, ◌∙◌, ◌≡◌, AreSteps, Asked, Boots, Deed, IsSound, Line, List, Option, Record, Request, Script, Some, Stops}
use Rattle.law_answers.proofs.Imports.{World, ap, arith, asking_after, inl, inr, lines_of, logged, operator, same_some, setting_of, slice_get, start, sym}
use Rattle.law_answers.proofs.Imports.{world_after, ℕ}
use Rattle.spec_rules.specs.World.{IsOpenLine}
use Rattle.law_answers.proofs.LinesHavePlaces.{line_at}
use Rattle.law_answers.specs.Lines.{AsksToBoot, AsksToStop, IsLineOf}
use Rattle.script_lines.specs.declared.request.Request.TheVariants as request

-- the open request is that of a line
pub record IsOpenFor (lines : List Line) (c : ℕ) (asked : Asked) : Type 0 where
  pub before : ℕ
  pub line : Line
  pub is : slice_get (lines_of lines c) before ≡ Some line
  pub line_is : asked.line ≡ line.number
  pub seq_is : asked.seq ≡ before + 1
  pub request_is : asked.request ≡ line.request

pub open_for : (script : Script) (records : List Record) → IsSound script → AreSteps script records → (c : ℕ) (asked : Asked)
    → ((world_after (setting_of script) (start (setting_of script)) records).clients c).asked ≡ Some asked
    → IsOpenFor script.lines c asked
open_for script records sound legal c asked e =
    let o = (logged script records sound legal).is.asked c asked e in
    let a = (asking_after script records sound legal).known.asked c asked e in
    let place : asked.seq - 1 ≡ o.before = let number = o.seq in omega arith in
    let line : a.line ≡ o.line = same_some (sym a.is ∙ ap (slice_get (lines_of script.lines c)) place ∙ o.is) in
    record {
      before = o.before;
      line = o.line;
      is = o.is;
      line_is = a.number ∙ ap (λ (l : Line). l.number) line;
      seq_is = o.seq;
      request_is = o.request;
    }

-- it is the last that its client has called
pub open_last : (script : Script) (records : List Record) → IsSound script → AreSteps script records → (c : ℕ) (asked : Asked)
    → (let w = world_after (setting_of script) (start (setting_of script)) records in (w.clients c).asked ≡ Some asked → asked.seq ≡ (w.clients c).seq)
open_last script records sound legal c asked e = ((asking_after script records sound legal).known.asked c asked e).last

pub line_of : (lines : List Line) (w : World) (asked : Asked) (o : IsOpenFor lines operator asked) → IsOpenLine w asked
    → IsLineOf lines w asked o.line
line_of lines w asked o opened =
    let l = line_at lines operator o.before o.line o.is in
    record { opened = opened; there = l.0; own = l.1; line_is = o.line_is; request_is = o.request_is }

pub asks_to_stop : (asked : Request) (n : ℕ) (hand : Option (ℕ × Deed)) → Stops asked n hand → AsksToStop asked n
asks_to_stop (request.Stop server) n hand is = inl (ap request.Stop is.0)
asks_to_stop (request.Blank server) n hand is = inr (ap request.Blank is.0)
asks_to_stop _ n hand never = absurd never

pub asks_to_boot : (asked : Request) (n : ℕ) (hand : Option (ℕ × Deed)) → Boots asked n hand → AsksToBoot asked n
asks_to_boot (request.Start server) n hand is = inl (ap request.Start is.0)
asks_to_boot (request.Blank server) n hand is = inr (ap request.Blank is.0)
asks_to_boot _ n hand never = absurd never
