-- The world of a run that begins, and a phase that begins.
use Rattle.std.proofs.Common.{◌≡◌, ◌≤◌, false, ℕ, zero, suc, List, [], ◌∷◌, map, Some, None, refl, sym, ap, ◌∙◌, subst}
use Rattle.std.specs.Prelude.{All, slice_get}
use Rattle.std.proofs.lemmas.List.Elements.{All-head, All-tail}
use Rattle.std.proofs.lemmas.Simd.{map-map}
use Rattle.std.specs.List.{range_with_len}
use Rattle.petal_msg.specs.declared.letter.Letter.{Letter}
use Rattle.script_lines.specs.declared.script.Script.{Script}
use Rattle.spec_rules.specs.Lists.{In}
use Rattle.spec_rules.specs.World.{start, setting_of, clock_of}
use Rattle.spec_rules.specs.Plans.{Armed, AreLeftOf, unarmed}
use Rattle.spec_history.specs.Controls.{Errand, no_errand}
use Rattle.server_host.specs.Desks.{Equipped, Site, bare, desk_of, desks_of, first_desk, first_sites}
use Rattle.petal_world.specs.Play.{IsKept}
use Rattle.server_host.specs.Playable.{AreOrdered}
use Rattle.petal_world.specs.Seats.{seats_of}
use Rattle.server_host.specs.Sent.{Lists}
use Rattle.petal_world.specs.Actors.{Actors}
use Rattle.server_host.specs.Waiting.{Await}
use Rattle.server_host.proofs.Letters.{none_sent}

-- ### The start

nothing_past : (script : Script) (letter : Letter) → In letter (start (setting_of script)).sent
    → letter.stamp ≤ clock_of (start (setting_of script)) letter.from
unfolding In
nothing_past script letter m = absurd m

-- each server's devices have no plan
none_armed : {H : Type 0} (seen : H → Site) (armed : H → Armed) (hosts : List H) → All (λ host. armed host ≡ unarmed) hosts → (n : ℕ) (own : Equipped)
    → slice_get (map (λ host. record { desk = first_desk (seen host); armed = armed host }) hosts) n ≡ Some own → own.armed ≡ unarmed
none_armed seen armed [] all n own at = absurd cc
none_armed seen armed (host ∷ hosts) all zero own at =
    let same : record { desk = first_desk (seen host); armed = armed host } ≡ own = cc in
    sym (ap (λ (e : Equipped). e.armed) same) ∙ All-head (λ h. armed h ≡ unarmed) host hosts all
none_armed seen armed (host ∷ hosts) all (suc n) own at = none_armed seen armed hosts (All-tail (λ h. armed h ≡ unarmed) host hosts all) n own at

pub start_kept : {H : Type 0} (seen : H → Site) (armed : H → Armed) (hosts : List H) (script : Script) (actors : Actors) (errand : Errand)
    → AreOrdered script.lines → map seen hosts ≡ first_sites script → All (λ host. armed host ≡ unarmed) hosts
    → actors.seats ≡ seats_of (setting_of script) (start (setting_of script))
    → actors.desks ≡ map (λ host. record { desk = first_desk (seen host); armed = armed host }) hosts
    → actors.sent ≡ [] → Await script.lines [] actors.waiting → actors.control ≡ record { hand = None; glanced = None } → errand ≡ no_errand
    → IsKept (record { script = script; records = []; phase = 0; floor = 0; over = false; free = false }) actors errand
start_kept seen armed hosts script actors errand ordered sites quiet seats desks sent waiting control none =
    let equip : List Equipped = map (λ host. record { desk = first_desk (seen host); armed = armed host }) hosts in
    let all : bare equip ≡ desks_of (setting_of script) (start (setting_of script)) =
    map-map (λ (own : Equipped). own.desk) (λ host. record { desk = first_desk (seen host); armed = armed host }) hosts
    ∙ sym (map-map first_desk seen hosts) ∙ ap (λ (ss : List Site). map first_desk ss) sites
    ∙ map-map first_desk (λ n. (desk_of (setting_of script) (start (setting_of script)) n).site) (range_with_len 0 script.servers) in
    record {
      ordered = ordered;
      steps = tt;
      shows = λ on. record {
        seats = seats;
        desks = ap bare desks ∙ all;
        sent = subst (λ rows. Lists rows []) (sym sent) none_sent;
        waiting = waiting;
        control = control;
        past = nothing_past script;
      };
      under_way = λ on. none;
      obeys = λ free. tt;
      plans = λ n. record {
        left = unarmed;
        came = refl;
        within = λ on own at.
            let off = none_armed seen armed hosts quiet n own (ap (λ desks. slice_get desks n) (sym desks) ∙ at) in
            subst (λ (a : Armed). AreLeftOf unarmed a) (sym off) (record { stored = tt; kept = tt });
      };
    }

-- ### A phase that begins
