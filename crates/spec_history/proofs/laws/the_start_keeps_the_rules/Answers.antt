-- Nothing was voted for, so nothing is chosen, and there is no disk; nothing was stored, sent or called.
use Rattle.std.proofs.Common.{◌≡◌, ℕ, zero, suc, ◌+◌, ◌++◌, List, [], ◌∷◌, Some, None, inl, refl, sym, ap, subst, ◌∙◌}
use Rattle.std.specs.List.{flat_map, range_with_len}
use Rattle.std.specs.Prelude.{find, option_map}
use Rattle.std.proofs.lemmas.List.{append-nil}
use Rattle.petal_table.proofs.Rows.{at-empty}
use Rattle.spec_paxos.specs.Chosen.{votes_for, wins, chosen_at, chosen_from, before_first, last_place}
use Rattle.spec_paxos.specs.declared.record.StateRecord.TheVariants.{Inc}
use Rattle.spec_state.specs.Command.{state_after}
use Rattle.spec_rules.proofs.Tests.{true_false}
use Rattle.petal_command.specs.declared.command.Command.{Command}
use Rattle.spec_rules.specs.Lists.{In}
use Rattle.petal_base.specs.declared.cell.Cell.{Cell}
use Rattle.std.specs.Prelude.{false}
use Rattle.spec_rules.specs.State.{State, coming, is_in, leaving}
use Rattle.spec_rules.specs.Store.{cell_cmp}
use Rattle.spec_rules.specs.World.{Setting, start, setting_of, devices, chosen_log, chosen_state}
use Rattle.script_lines.specs.declared.script.Script.{Script}
use Rattle.spec_history.specs.Claims.{Grows, HaveStopped, MarksFirst, ReportsHold, SnapshotsStay}
use Rattle.spec_history.proofs.laws.the_start_keeps_the_rules.Goals as goal

none_some : {A B : Type 0} {x : A} → None ≡ Some x → B
none_some e = absurd cc

no_votes : (place : ℕ) (xs : List ℕ) → flat_map (λ (s : ℕ). votes_for (Inc 1 ∷ []) place) xs ≡ []
no_votes place [] = refl
no_votes place (x ∷ xs) = no_votes place xs

none_chosen : (setting : Setting) (place : ℕ) → chosen_at setting.servers (devices (start setting)) place ≡ None
none_chosen setting place =
    ap (λ votes. option_map (λ vote. vote.1) (find (wins setting.servers (devices (start setting)) place) votes))
    (no_votes place (range_with_len 0 setting.servers))

empty_from : (setting : Setting) (place most : ℕ) → chosen_from setting.servers (devices (start setting)) place most ≡ []
empty_from setting place zero = refl
empty_from setting place (suc most) =
    ap (λ found. before_first found (chosen_from setting.servers (devices (start setting)) (place + 1) most)) (none_chosen setting place)

nothing_chosen : (setting : Setting) → chosen_log setting (start setting) ≡ []
nothing_chosen setting = empty_from setting 1 (last_place setting.servers (devices (start setting)))

no_disks : (setting : Setting) → (chosen_state setting (start setting)).disks.rows ≡ []
no_disks setting = ap (λ log. (state_after setting.servers log).disks.rows) (nothing_chosen setting)

none_leaves : (setting : Setting) (cell : Cell) → leaving (chosen_state setting (start setting)) cell ≡ false
none_leaves setting cell = ap (λ log. leaving (state_after setting.servers log) cell) (nothing_chosen setting)

none_comes : (setting : Setting) (cell : Cell) → coming (chosen_state setting (start setting)) cell ≡ false
none_comes setting cell = ap (λ log. coming (state_after setting.servers log) cell) (nothing_chosen setting)

not_in : {A B : Type 0} (x : A) (xs : List A) → xs ≡ [] → In x xs → B
unfolding In
not_in x xs none h = let there : In x [] = subst (In x) none h in absurd there

grows : (script : Script) → Grows script []
grows script [] suffix e = record { later = []; is = sym (append-nil (chosen_log (setting_of script) (start (setting_of script)))) }
grows script (own ∷ prefix) suffix e = absurd cc

marks : (script : Script) → MarksFirst script []
marks script [] suffix own e = absurd cc
marks script (first ∷ prefix) suffix own e = absurd cc

snapshots : (script : Script) → SnapshotsStay script []
snapshots script [] suffix e = λ row epoch block there. not_in row _ (no_disks (setting_of script)) there
snapshots script (own ∷ prefix) suffix e = absurd cc

-- what stands at the front of nothing is nothing
prefix_of_nothing : (prefix later : List Command) → [] ≡ prefix ++ later → prefix ≡ []
prefix_of_nothing [] later e = refl
prefix_of_nothing (entry ∷ prefix) later e = absurd cc

stopped : (setting : Setting) → HaveStopped setting (start setting)
stopped setting n inc prefix is_prefix was out =
    let none = prefix_of_nothing prefix is_prefix.later (sym (nothing_chosen setting) ∙ is_prefix.is) in
    let same : state_after setting.servers prefix ≡ chosen_state setting (start setting) =
    ap (state_after setting.servers) (none ∙ sym (nothing_chosen setting)) in
    true_false was (ap (λ (s : State). is_in s n inc) same ∙ out)

reports : (script : Script) → ReportsHold script []
reports script [] suffix n fence e wants = λ cell op along is clients. none_some (sym (at-empty cell_cmp cell) ∙ is)
reports script (own ∷ prefix) suffix n fence e wants = absurd cc

pub returns : goal.returns
unfolding In
returns c script = record {
  world = record {
    agrees = record {
      known = λ n i command is. none_some is;
      servers = λ n. record { later = chosen_log (setting_of script) (start (setting_of script)); is = refl };
      clients = λ n. record { later = chosen_log (setting_of script) (start (setting_of script)); is = refl };
    };
    copies = λ cell n m is_first is_second. inl refl;
    covered = λ cell row holder lives is alone. inl refl;
    empty = λ n fresh. true_false fresh refl;
    requests = record {
      pending = λ n cell op runs is clients over. none_some (sym (at-empty cell_cmp cell) ∙ is);
      late = λ letter client seq epoch cell bytes h. absurd h;
    };
    moves = record {
      unwritten = λ n cell op runs is clients. none_some (sym (at-empty cell_cmp cell) ∙ is);
      still = λ cell n leaves counts. true_false leaves (none_leaves (setting_of script) cell);
      equal = λ cell n m leaves is_first is_second. true_false leaves (none_leaves (setting_of script) cell);
      stored = λ cell n epoch before comes matters from there. true_false comes (none_comes (setting_of script) cell);
      pending = λ cell n m before op comes matters from runs is clients. true_false comes (none_comes (setting_of script) cell);
      sent = λ letter key bytes n before h. absurd h;
      noted = λ cell old row n epoch before comes is frozen linked noted counts there. true_false comes (none_comes (setting_of script) cell);
    };
    stopped = stopped (setting_of script);
    caught = λ n cell works lives started. (at-empty cell_cmp cell, at-empty cell_cmp cell);
  };
  grows = grows script;
  marks = marks script;
  run = tt;
  holds = record {
    known = λ row there. not_in row _ (no_disks (setting_of script)) there;
    unknown = λ name none. refl;
  };
  snapshots = snapshots script;
  equal = λ prefix suffix n cell row e catching lives same. refl;
  waiting = λ prefix suffix n cell row e catching lives ins none. refl;
  reports = reports script;
}
