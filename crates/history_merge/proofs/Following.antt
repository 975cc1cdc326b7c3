-- What a record leaves of the front: it is the front of the world after it.
use Rattle.std.proofs.Common.{◌≡◌, ◌≢◌, ℕ, ◌+◌, Bool, true, false, List, Option, Some, None, refl, sym, ap, ◌∙◌, subst}
use Rattle.std.specs.Prelude.{◌==◌, ◌&&◌, if◌then◌else◌, is_some, length, slice_get}
use Rattle.petal_msg.specs.declared.body.Body.TheVariants as body
use Rattle.petal_msg.specs.declared.body.Body.{Body}
use Rattle.petal_msg.specs.declared.letter.Actor.{Actor}
use Rattle.petal_msg.specs.declared.letter.Actor.TheVariants as actor
use Rattle.petal_msg.specs.declared.letter.Letter.{Letter}
use Rattle.script_lines.specs.declared.answer.Answer.{Answer}
use Rattle.script_lines.specs.declared.request.Line.{Line}
use Rattle.spec_rules.specs.Clients.{Asked, Client, Reaction}
use Rattle.spec_rules.specs.Jobs.{operator}
unfoldable use Rattle.spec_rules.specs.Lists.{put_at}
use Rattle.spec_rules.specs.Server.{Server}
use Rattle.spec_rules.specs.World.{Control, MayClient, Setting, World, controls, lines_of, next_line, stamped, with_answer}
unfoldable use Rattle.spec_rules.specs.World.{step}
use Rattle.spec_rules.specs.declared.step.Step.{Step}
use Rattle.spec_rules.specs.declared.step.Step.TheVariants.{Blank, Boot, Glance, Stop}
use Rattle.spec_rules.proofs.ListLemmas.{put_apart, put_same}
use Rattle.spec_rules.proofs.Tests.{number_itself, same_numbers, true_false}
use Rattle.spec_history.specs.Controls.{Errand, errand_after, served}
use Rattle.spec_history.specs.declared.record.Record.{Record}
use Rattle.server_host.specs.Waiting.{Await}
use Rattle.law_steps.proofs.ClientStepKinds.{client_turns, is_call}
use Rattle.law_steps.specs.DidClient.{Begins, Ends, Goes_on, Is_told, Judges, Reads, Shown, StaysOpen, Turned}
use Rattle.law_merge.specs.Alone.{MayAlone, acted_by, reacted_by}
use Rattle.petal_world.proofs.Errands.{errand_by}
use Rattle.petal_world.proofs.Stepping.{answer_kept}
use Rattle.petal_world.specs.Actors.{without_answered}
use Rattle.petal_world.specs.Errands.{errand_next}
use Rattle.history_merge.specs.declared.front.Front.{Front}
use Rattle.history_merge.specs.Fronts.{IsAllowedIn, IsOpenAs, Shows, called_after, controlled, first_shows, opened, runs_in, shows_running}
use Rattle.history_merge.proofs.Coming.{Tells, served_so}

-- ### What a server's record tells

seen_running : (b : Bool) (line round inc : ℕ) (full : Bool)
    → shows_running (if b then body.Seen line round true inc full else body.Seen line round false 0 false) ≡ b
seen_running true line round inc full = refl
seen_running false line round inc full = refl

pub tells_so : (setting : Setting) (n stamp : ℕ) (server : Server) (what : Step) (sent : List Letter) → MayAlone what server
    → sent ≡ stamped stamp (acted_by setting n server what).letters → Tells what (runs_in what sent) server.life.running
tells_so setting n stamp server Stop sent may is = sym may
tells_so setting n stamp server Blank sent may is = sym may
tells_so setting n stamp server (Boot end) sent may is = sym may.0
tells_so setting n stamp server (Glance line round) sent may is =
    ap (λ letters. first_shows letters) is ∙ seen_running server.life.running line round server.life.inc server.own.copies.full
tells_so setting n stamp server _ sent may is = tt

-- ### The operator's open line

stays_as : (rev : ℕ) (old new : Option Asked) (line : Option Line) → StaysOpen rev old new → IsOpenAs old line → IsOpenAs new line
stays_as rev None None line same h = h
stays_as rev None (Some new) line same h = absurd same
stays_as rev (Some old) None line same h = absurd same
stays_as rev (Some old) (Some new) None same h = absurd h
stays_as rev (Some old) (Some new) (Some line) same h = (same.line ∙ h.0, same.request ∙ h.1)

-- one that was told is open as before
told_as : (asked : Asked) (line : Option Line) → IsOpenAs (Some asked) line
    → IsOpenAs (Some (record asked { saw_missing = true; old_way = true })) line
told_as asked None h = absurd h
told_as asked (Some line) h = (h.0, h.1)

unanswered_as : (answer : Option (ℕ × Answer)) (asked : Option Asked) (line : Option Line) → answer ≡ None → IsOpenAs asked line
    → IsOpenAs asked (if is_some answer then None else line)
unanswered_as answer asked line is h = subst (λ a. IsOpenAs asked (if is_some a then None else line)) (sym is) h

begun_as : (asked : Option Asked) (own : Asked) (next : Option Line) (line : Line) → asked ≡ Some own → next ≡ Some line → own.line ≡ line.number
    → own.request ≡ line.request → IsOpenAs asked next
begun_as asked own next line is at number what =
    subst (λ a. IsOpenAs a next) (sym is) (subst (λ l. IsOpenAs (Some own) l) (sym at) (number, what))

-- what a step leaves open, and how many lines were called
abbrev LeavesOpen : List Line → ℕ → Client → (in_call : Bool) → Reaction → Option Line → Type 0
LeavesOpen lines c client in_call reacted line =
    IsOpenAs reacted.client.asked (if is_some reacted.answer then None else if in_call then next_line lines c client else line)
    × (reacted.client.seq ≡ (if in_call then client.seq + 1 else client.seq))

turned_open : {heard : ℕ → Body → Type 0} (servers : ℕ) (lines : List Line) (c : ℕ) (client : Client) (in_call : Bool) (reacted : Reaction) (line : Option Line)
    → Turned heard servers lines c client in_call reacted → IsOpenAs client.asked line → LeavesOpen lines c client in_call reacted line
turned_open servers lines c client _ _ line (Goes_on reacted seq stays says) h =
    (unanswered_as reacted.answer reacted.client.asked line says.unanswered (stays_as _ client.asked reacted.client.asked line stays h), seq)
turned_open servers lines c client _ _ line (Is_told reacted asked told is reads seq stays says) h =
    let now_told : Option Asked = Some (record asked { saw_missing = true; old_way = true }) in
    let old : IsOpenAs now_told line = told_as asked line (subst (λ a. IsOpenAs a line) is h) in (
      unanswered_as reacted.answer reacted.client.asked line says.unanswered
          (stays_as (length reacted.client.applied) now_told reacted.client.asked line stays old),
      seq,
    )
turned_open servers lines c client _ _ line (Begins reacted own asked next free seq is called says) h = (
  unanswered_as reacted.answer reacted.client.asked (next_line lines c client) says.unanswered
      (begun_as reacted.client.asked asked (next_line lines c client) own is next called.line_is called.request_is),
  seq,
)
turned_open servers lines c client _ _ line (Reads asked bytes told is reads) h = (tt, refl)
turned_open servers lines c client _ _ line (Ends asked how told is writes) h = (tt, refl)
turned_open servers lines c client _ _ line (Shown asked rev sight given told is seen) h = (tt, refl)
turned_open servers lines c client _ _ line (Judges after asked given is none seq judged) h = (subst (λ a. IsOpenAs a None) (sym none) tt, seq)

-- ### A step

-- what the record leaves, by its actor
abbrev pub front_by : Actor → Record → Front → Front
front_by who own front = record {
  orders = front.orders;
  called = called_after who own.step front;
  order = opened who own front;
  control = controlled who own.step front.control;
  errand = errand_next who own.step (runs_in own.step own.sent) (slice_get front.orders front.called) front.errand;
  waiting = without_answered front.waiting own.answer;
}

module _ (setting : Setting) (w : World) (errand : Errand) (front : Front) (shows : Shows setting w errand front) (own : Record) where
  next_so : slice_get front.orders front.called ≡ next_line setting.lines operator (w.clients operator)
  next_so = ap (λ (lines : List Line). slice_get lines front.called) shows.orders ∙ ap (λ (k : ℕ). slice_get (lines_of setting.lines operator) k) shows.called

  pub after_server : (n : ℕ) → Tells own.step (runs_in own.step own.sent) (w.servers n).life.running
      → IsAllowedIn own.step front.errand n (runs_in own.step own.sent) → own.answer ≡ None
      → Shows setting (step (actor.Server n) own.step setting w own.stamp).world (errand_after (actor.Server n) own.step setting w errand)
      (front_by (actor.Server n) own front)
  unfolding step
  after_server n tells allowed silent = record {
    orders = shows.orders;
    called = shows.called;
    open_as = shows.open_as;
    control = ap (λ (c : Control). controls own.step n c) shows.control;
    errand_is = served_so own.step front.errand n (runs_in own.step own.sent) (w.servers n).life.running tells allowed
        ∙ ap (λ (e : Errand). served own.step (w.servers n).life.running e) shows.errand_is;
    waiting = subst (λ a. Await setting.lines w.answers (without_answered front.waiting a)) (sym silent) shows.waiting;
  }

  module _ (c : ℕ) (may : MayClient own.step setting w c) (answer_is : own.answer ≡ (reacted_by setting c (w.clients c) own.step).answer) where
    abbrev reacted : Reaction
    reacted = reacted_by setting c (w.clients c) own.step

    -- the operator's line and the count of its calls, where it is the operator's step and where not
    leaves : (b : Bool) → (c == operator) ≡ b
        → IsOpenAs (put_at w.clients c reacted.client operator).asked
        (if b && is_some own.answer then None else if b && is_call own.step then slice_get front.orders front.called else front.order)
        × ((if b && is_call own.step then front.called + 1 else front.called) ≡ (put_at w.clients c reacted.client operator).seq)
    leaves true is =
        let same : c ≡ operator = same_numbers c operator is in
        let before : IsOpenAs (w.clients c).asked front.order = subst (λ (k : ℕ). IsOpenAs (w.clients k).asked front.order) (sym same) shows.open_as in
        let turned = turned_open setting.servers setting.lines c (w.clients c) (is_call own.step) reacted front.order
        (client_turns setting w c own.step may).turned before in
        let next : next_line setting.lines c (w.clients c) ≡ slice_get front.orders front.called =
        ap (λ (k : ℕ). next_line setting.lines k (w.clients k)) same ∙ sym next_so in
        let now : put_at w.clients c reacted.client operator ≡ reacted.client =
        ap (λ (k : ℕ). put_at w.clients c reacted.client k) (sym same) ∙ put_same w.clients c reacted.client in
        let open_now = subst (λ l. IsOpenAs reacted.client.asked (if is_some own.answer then None else if is_call own.step then l else front.order)) next
        (subst (λ a. IsOpenAs reacted.client.asked
        (if is_some a then None else if is_call own.step then next_line setting.lines c (w.clients c) else front.order)) (sym answer_is) turned.0) in
        let seq : front.called ≡ (w.clients c).seq = shows.called ∙ ap (λ (k : ℕ). (w.clients k).seq) (sym same) in (
          subst (λ (x : Client). IsOpenAs x.asked
              (if is_some own.answer then None else if is_call own.step then slice_get front.orders front.called else front.order)) (sym now) open_now,
          ap (λ (k : ℕ). if is_call own.step then k + 1 else k) seq ∙ sym turned.1 ∙ ap (λ (x : Client). x.seq) (sym now),
        )
    leaves false is =
        let apart : operator ≢ c = λ e. true_false (ap (λ (k : ℕ). c == k) e ∙ number_itself c) is in
        let now : put_at w.clients c reacted.client operator ≡ w.clients operator = put_apart w.clients c reacted.client operator apart in (
          subst (λ (x : Client). IsOpenAs x.asked front.order) (sym now) shows.open_as,
          shows.called ∙ ap (λ (x : Client). x.seq) (sym now),
        )

    pub after_client : Shows setting (step (actor.Client c) own.step setting w own.stamp).world (errand_after (actor.Client c) own.step setting w errand)
        (front_by (actor.Client c) own front)
    unfolding step
    after_client =
        let left = leaves (c == operator) refl in
        record {
          orders = shows.orders;
          called = left.1;
          open_as = left.0;
          control = shows.control;
          errand_is = errand_by setting w (actor.Client c) own.step front.errand (runs_in own.step own.sent) (slice_get front.orders front.called) tt next_so
              ∙ ap (λ (e : Errand). errand_after (actor.Client c) own.step setting w e) shows.errand_is;
          waiting = subst (λ a. Await setting.lines (with_answer a w.answers) (without_answered front.waiting own.answer)) answer_is
              (answer_kept setting.lines w.answers front.waiting own.answer shows.waiting);
        }
