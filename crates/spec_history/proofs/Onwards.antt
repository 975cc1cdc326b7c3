-- Prefixes of histories, and histories with one record more.
use Rattle.std.proofs.Common.{◌≡◌, ℕ, List, [], ◌∷◌, ◌++◌, refl, subst}
use Rattle.spec_rules.specs.Plans.{Armed}
use Rattle.spec_rules.specs.World.{Setting, World}
use Rattle.spec_history.specs.Controls.{Errand, Obeys, ObeyFrom, errand_after, errand_along}
use Rattle.spec_history.specs.Failures.{ComeTo, UsesAt}
use Rattle.spec_history.specs.Steps.{AreStepsFrom, Follows, stepped, world_after}
use Rattle.spec_history.specs.declared.record.Record.{Record}

-- ### Prefixes

pub steps_begin : (setting : Setting) (w : World) (prefix suffix : List Record) → AreStepsFrom setting w (prefix ++ suffix) → AreStepsFrom setting w prefix
steps_begin setting w [] suffix h = tt
steps_begin setting w (own ∷ prefix) suffix h = (h.0, steps_begin setting (stepped setting w own).world prefix suffix h.1)

pub obey_begin : (setting : Setting) (w : World) (errand : Errand) (prefix suffix : List Record) → ObeyFrom setting w errand (prefix ++ suffix)
    → ObeyFrom setting w errand prefix
obey_begin setting w errand [] suffix h = tt
obey_begin setting w errand (own ∷ prefix) suffix h =
    (h.0, obey_begin setting (stepped setting w own).world (errand_after own.actor own.step setting w errand) prefix suffix h.1)

pub come_begin : (n : ℕ) (armed left : Armed) (prefix suffix : List Record) → ComeTo n armed (prefix ++ suffix) left
    → (mid : Armed) × ComeTo n armed prefix mid
come_begin n armed left [] suffix h = (armed, refl)
come_begin n armed left (own ∷ prefix) suffix h =
    let rest = come_begin n h.0 left prefix suffix h.2 in
    (rest.0, (h.0, h.1, rest.1))

-- ### One record more

pub steps_more : (setting : Setting) (w : World) (records : List Record) (own : Record) → AreStepsFrom setting w records
    → Follows setting (world_after setting w records) own → AreStepsFrom setting w (records ++ own ∷ [])
steps_more setting w [] own h follows = (follows, tt)
steps_more setting w (first ∷ records) own h follows = (h.0, steps_more setting (stepped setting w first).world records own h.1 follows)

pub obey_more : (setting : Setting) (w : World) (errand : Errand) (records : List Record) (own : Record) → ObeyFrom setting w errand records
    → Obeys own.actor own.step (world_after setting w records) (errand_along setting w errand records)
    → ObeyFrom setting w errand (records ++ own ∷ [])
obey_more setting w errand [] own h obeys = (obeys, tt)
obey_more setting w errand (first ∷ records) own h obeys =
    (h.0, obey_more setting (stepped setting w first).world (errand_after first.actor first.step setting w errand) records own h.1 obeys)

pub errand_more : (setting : Setting) (w : World) (errand : Errand) (records : List Record) (own : Record)
    → errand_along setting w errand (records ++ own ∷ [])
    ≡ errand_after own.actor own.step setting (world_after setting w records) (errand_along setting w errand records)
errand_more setting w errand [] own = refl
errand_more setting w errand (first ∷ records) own =
    errand_more setting (stepped setting w first).world (errand_after first.actor first.step setting w errand) records own

pub come_more : (n : ℕ) (armed mid left : Armed) (records : List Record) (own : Record) → ComeTo n armed records mid
    → UsesAt n own.actor own.step mid left → ComeTo n armed (records ++ own ∷ []) left
come_more n armed mid left [] own h uses = (left, subst (λ (a : Armed). UsesAt n own.actor own.step a left) h uses, refl)
come_more n armed mid left (first ∷ records) own h uses = (h.0, h.1, come_more n h.0 mid left records own h.2 uses)
