-- A legal history, and one with a record more: what the lemmas here and in the laws above are told of.
use Rattle.law_epochs.proofs.Imports.{[], ◌++◌, ◌∷◌, ◌≡◌, AreSteps, At, Command, HasProperTuples, IsPrefix, List, Record, Script, Setting, State, World}
use Rattle.law_epochs.proofs.Imports.{before_part, chosen_log, history_grows, history_is_firm, refl, setting_of, state_after, subst}
pub use Rattle.law_jobs.proofs.Runs.{OneMore, Run}

-- where it has led
pub record End : Type 0 where
  pub setting : Setting
  pub w : World
  pub chosen : List Command
  pub By : List Command → State

abbrev pub end_of : Run → End
end_of h = record {
  setting = setting_of h.script;
  w = At h.script h.records;
  chosen = chosen_log (setting_of h.script) (At h.script h.records);
  By = state_after h.script.servers;
}

-- a front of it
abbrev pub cut : (h : Run) (prefix later : List Record) → h.records ≡ prefix ++ later → Run
cut h prefix later is = record {
  script = h.script;
  sound = h.sound;
  records = prefix;
  legal = before_part h.script prefix later (subst (AreSteps h.script) is h.legal);
}

-- where it had led before the last record, and where it leads with it
pub record Ends (script : Script) : Type 0 where
  pub setting : Setting
  pub records : List Record
  pub present : Run
  pub w : World
  pub v : World
  pub top : List Command
  pub whole : List Command
  pub By : List Command → State
  pub top_whole : IsPrefix top whole
  pub plain : HasProperTuples script.servers whole

abbrev pub ends_of : (it : OneMore) → Ends it.prior.script
ends_of it =
    let h = it.prior in
    let all = h.records ++ it.own ∷ [] in
    record {
      setting = setting_of h.script;
      records = all;
      present = record { script = h.script; sound = h.sound; records = all; legal = it.legal };
      w = At h.script h.records;
      v = At h.script all;
      top = chosen_log (setting_of h.script) (At h.script h.records);
      whole = chosen_log (setting_of h.script) (At h.script all);
      By = state_after h.script.servers;
      top_whole = history_grows h.script all h.sound it.legal h.records (it.own ∷ []) refl;
      plain = (history_is_firm h.script all h.sound it.legal).plain;
    }
