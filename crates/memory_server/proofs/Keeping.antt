-- What stays known of a server whose data device may be a blank one.
use Rattle.std.proofs.Common.{◌≡◌, ◌≤◌, ℕ, List, Bool, false, Option, None, Some, refl, sym, ◌∙◌}
use Rattle.std.specs.Prelude.{is_some}
use Rattle.server_core.specs.ServerView.{ServerView}
use Rattle.server_store.specs.Holdings.{Holdings}
use Rattle.server_store.specs.Slots.{slot_start}
use Rattle.state_store.specs.Device.{Keeping}
use Rattle.memory_server.specs.Server.{IsKept, store_at}

pub none_there : {A : Type 0} (found : Option A) → is_some found ≡ false → found ≡ None
none_there None is = refl
none_there (Some x) is = absurd (cc)

-- a blank device has as many slots
pub slots_at : {D : Type 0} (blank : Option D) (store : Holdings D) → (store_at blank store).slots ≡ store.slots
slots_at None store = refl
slots_at (Some disk) store = refl

module _ {D : Type 0} {size : D → ℕ} {observable : Type 0} {seen : D → List ℕ} {may_leave : D → List ℕ → Type 0} {over : Bool} {blank : Option D}
    {core : ServerView} {store : Holdings D} {state : Keeping D}
    (kept : IsKept size observable seen may_leave over blank (record { core = core; store = store; state = state })) where
  -- of a server that runs no less with the same slots set apart
  pub kept_running : (new : ServerView) → new.running ≡ core.running → new.side ≡ core.side
      → IsKept size observable seen may_leave over blank (record { core = new; store = store; state = state })
  kept_running new running side = record {
    fit = record {
      tickets = λ on runs. rw side (kept.fit.tickets on (sym running ∙ runs));
      rests = λ some. running ∙ kept.fit.rests some;
      room = kept.fit.room;
    };
    shown = λ observed. let shown = kept.shown observed in record { store = shown.store; state = shown.state };
  }

  -- of one that has stopped
  pub kept_stopped : (new : ServerView) → new.running ≡ false → IsKept size observable seen may_leave over blank (record { core = new; store = store; state = state })
  kept_stopped new off = record {
    fit = record { tickets = λ _ on. absurd (cc); rests = λ some. off; room = kept.fit.room };
    shown = λ observed. let shown = kept.shown observed in record { store = shown.store; state = shown.state };
  }

  -- of one that gets a blank device
  pub kept_blank : (disk : D) → core.running ≡ false → slot_start store.slots ≤ size disk
      → IsKept size observable seen may_leave over (Some disk) (record { core = core; store = store; state = state })
  kept_blank disk off room = record {
    fit = record { tickets = kept.fit.tickets; rests = λ _. off; room = room };
    shown = λ observed. record { store = λ on no. absurd (cc); state = (kept.shown observed).state };
  }
