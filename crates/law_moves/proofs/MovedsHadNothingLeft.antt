-- A Moved that is chosen was wanted by a server that had nothing left of its link: what the server had is what was frozen, and of all of it the
-- server was told that the new map has it.
use Rattle.law_moves.proofs.Imports.{[], ◌&&◌, ◌++◌, ◌∙◌, ◌∷◌, ◌≡◌, AreSteps, At, Blanks, Cell, Chain, Command, Happens, In, IsPrefix, IsServing, IsSound}
use Rattle.law_moves.proofs.Imports.{Key, Letter, LinkRow, List, Moved, None, Option, PairState, Record, Run, Script, Serves, Setting, Some, State, Turns}
use Rattle.law_moves.proofs.Imports.{WasMoving, World, after, ap, at, before_part, below_itself, by_test, chain_in, chosen_log, chosen_state, end_of, false}
use Rattle.law_moves.proofs.Imports.{happened_in, history_is_firm, in_later, is_in, is_link, is_some, is_the, is_the_one, key_at, link_named, log_plain}
use Rattle.law_moves.proofs.Imports.{log_steady, longer, map_of, moved_was_wanted, nat_cmp, next_fill, none_some, not_noted, number_itself, option_and_then}
use Rattle.law_moves.proofs.Imports.{option_map_or, prefix_itself, refl, region_leaving, region_of, region_to_move, row_lead, row_named, run_of, same_some}
use Rattle.law_moves.proofs.Imports.{setting_in, since, subst, sym, true, ℕ}
use Rattle.law_moves.specs.Fills.{AllFilled, IsOnWay, WasFilled}
use Rattle.law_moves.specs.LeftToMove.{IsKept, IsKnown, IsOurs}
use Rattle.law_moves.proofs.FrozenIsWhatCounted.{frozen_stays}
use Rattle.law_moves.proofs.AllKeptOfMoves.{Known}
use Rattle.law_moves.proofs.NextFill.{none_left, nothing_left}
use Rattle.law_moves.proofs.MovedRegionsHaveAll.{AllMoved, until_lies}
use Rattle.law_moves.proofs.ServersOfLinks.{link_lead_serves}
use Rattle.law_moves.proofs.MoveWorlds.{plain_at}

-- ### Letters stay

still_sent : (setting : Setting) (state : State) (w v : World) → Happens setting state w v → (letter : Letter) → In letter w.sent → In letter v.sent
still_sent setting state w _ (Serves n stamp what acted lt within unblanked serving) letter i = in_later letter _ w.sent i
still_sent setting state w _ (Blanks n stamp lt within asleep) letter i = i
still_sent setting state w _ (Turns c stamp in_call reacted lt within turned onward) letter i = in_later letter _ w.sent i

pub sent_stays : (script : Script) (prefix suffix : List Record) → IsSound script → AreSteps script (prefix ++ suffix) → (letter : Letter)
    → In letter (At script prefix).sent → In letter (At script (prefix ++ suffix)).sent
sent_stays script prefix suffix sound legal letter i =
    since (λ run. In letter (after run).sent) (λ it old.
    let state = chosen_state (setting_in it.prior) (after (longer it)) in
    still_sent (setting_in it.prior) state (after it.prior) (after (longer it)) (happened_in it state (below_itself state)) letter old)
    (run_of script sound (prefix ++ suffix) legal) prefix suffix refl (λ part. i)

pub filled_stays : (script : Script) (prefix suffix : List Record) → IsSound script → AreSteps script (prefix ++ suffix) → (key : Key)
    → WasFilled (At script prefix) key → WasFilled (At script (prefix ++ suffix)) key
filled_stays script prefix suffix sound legal key was =
    record { letter = was.letter; sent = sent_stays script prefix suffix sound legal was.letter was.sent; is = was.is }

-- ### Who moves a link leads it

pub mover_leads : (state : State) (me region : ℕ) (row : LinkRow) → region_to_move state me row ≡ Some region → is_the (row_lead state row) me ≡ true
mover_leads state me region row =
    by_test (λ (o : Option ℕ). o ≡ Some region → is_the (row_lead state row) me ≡ true) (is_the (row_lead state row) me)
    (not_noted state row (region_leaving state row.map)) None (λ leads e. leads) (λ other e. none_some refl e)

module _ (it : Run)
    (known : (before : List Record) (own : Record) (later : List Record) → it.records ≡ before ++ own ∷ later → Known it.script before) where
  open it use {script, sound, records, legal}
  open end_of it use {setting, w, By}

  module _ (prefix : List Command) (old new : Cell) (row : LinkRow)
      (stands : IsPrefix (prefix ++ Moved old.map (region_of old.block) row.link ∷ []) (chosen_log setting w))
      (way : IsOnWay script.servers prefix old new row) where
    pub was : WasMoving setting records prefix old.map (region_of old.block) row.link
    was = moved_was_wanted script records sound legal prefix old.map (region_of old.block) row.link stands

    abbrev before : List Record
    before = was.before

    abbrev later : List Record
    later = was.own ∷ was.later

    whole : AreSteps script (before ++ later)
    whole = subst (AreSteps script) was.is legal

    abbrev past : World
    past = At script before

    abbrev own : PairState
    own = (past.servers was.server).own

    prefix_chosen : IsPrefix prefix (chosen_log setting past)
    prefix_chosen = subst (λ log. IsPrefix log (chosen_log setting past)) was.at
        ((history_is_firm script before sound (before_part script before later whole)).servers was.server)

    -- the row is the cell's
    one_row : was.row ≡ row
    one_row =
        let map_is = map_of script.servers (By prefix)
        (log_plain script.servers prefix (plain_at it prefix (until_lies it prefix _ stands))) old row way.linked in
        same_some (sym was.linked ∙ ap (λ k. link_named (By prefix) (record { map = k; link = row.link })) (sym map_is)
        ∙ row_named (By prefix) old row way.linked)

    serving : IsServing (By prefix) was.server old
    serving =
        let leads = mover_leads (By prefix) was.server (region_of old.block) was.row was.moves in
        link_lead_serves (By prefix)
        (log_steady script.servers prefix (plain_at it prefix (until_lies it prefix _ stands))) old was.server
        (ap (option_and_then (row_lead (By prefix))) (way.linked ∙ ap Some (sym one_row)) ∙ is_the_one (row_lead (By prefix) was.row) was.server leads)

    -- what it had was frozen
    had : past.frozen old ≡ Some (chain_in own.store.chains old)
    had = (known before was.own was.later was.is).still.own was.server prefix old was.runs
        (subst (λ log. IsPrefix log prefix) (sym was.at) (prefix_itself prefix)) prefix_chosen
        (subst (λ i. is_in (By prefix) was.server i ≡ true) (sym was.lives) was.seated) way.stage serving

    pub had_now : w.frozen old ≡ Some (chain_in own.store.chains old)
    had_now = subst (λ rs. (At script rs).frozen old ≡ Some (chain_in own.store.chains old)) (sym was.is)
        (frozen_stays script before later old (chain_in own.store.chains old) sound whole had)

    ours : IsOurs (By prefix) row (region_of old.block) old
    ours = record {
      on = ap (λ o. option_map_or (is_link row.map row.link) o false) way.linked ∙ (λ i. number_itself row.map i && number_itself row.link i);
      of = refl;
    }

    -- and of all of it it was told
    events_of_moves : (epoch : ℕ) → IsKept own old epoch → IsKnown row (region_of old.block) own (key_at old epoch)
    events_of_moves epoch kept =
        none_left (By prefix) row (region_of old.block) own
        (subst (λ (r : LinkRow). next_fill (By prefix) r (region_of old.block) own ≡ None) one_row
        (nothing_left (By prefix) was.server (region_of old.block) was.row own was.moves was.left)) old epoch ours kept

    all_told : AllFilled w old new (λ epoch. Unit {0})
    all_told chain epoch frozen has so =
        let same : chain_in own.store.chains old ≡ chain = same_some (sym had_now ∙ frozen) in
        let kept : IsKept own old epoch = subst (λ (c : Chain). is_some (at nat_cmp c epoch) ≡ true) (sym same) has in
        let k = events_of_moves epoch kept in
        let filled = (known before was.own was.later was.is).filled.told was.server prefix old new row k.until was.runs prefix_chosen way k.is
        (chain_in own.store.chains old) epoch had kept (record { region = sym k.of; so = k.so }) in
        subst (λ rs. WasFilled (At script rs) (key_at new epoch)) (sym was.is) (filled_stays script before later sound whole (key_at new epoch) filled)

  pub moved_all : AllMoved setting w
  moved_all prefix region old new row stands way same =
      all_told prefix old new row (subst (λ r. IsPrefix (prefix ++ Moved old.map r row.link ∷ []) (chosen_log setting w)) (sym same) stands) way
