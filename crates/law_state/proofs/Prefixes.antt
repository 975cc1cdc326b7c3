-- Prefixes of the log, and what stands below what.
use Rattle.law_state.proofs.Imports.{[], ◌++◌, ◌∙◌, ◌∷◌, ◌≡◌, ◌≤◌, Command, IsPrefix, List, State, ap, append-nil, append_assoc, arith, drop, inl, inr}
use Rattle.law_state.proofs.Imports.{length, length-append, refl, same_some, slice_get, sym}
use Rattle.law_state.specs.Ages.{age_of}
use Rattle.law_state.specs.Homes.{epoch_at, era_at, stage_at}
use Rattle.law_state.specs.LaterStates.{IsBelow}
use Rattle.law_state.proofs.Ages.{no_less}
use Rattle.law_state.proofs.GrownStates.{goes_on_itself, goes_on_on}

pub prefix_itself : (log : List Command) → IsPrefix log log
prefix_itself log = record { later = []; is = sym (append-nil log) }

pub prefix_same : (one other : List Command) → other ≡ one → IsPrefix one other
prefix_same one other e = record { later = []; is = e ∙ sym (append-nil one) }

pub prefix_more : (log : List Command) (entry : Command) → IsPrefix log (log ++ entry ∷ [])
prefix_more log entry = record { later = entry ∷ []; is = refl }

pub prefix_on : (a b c : List Command) → IsPrefix a b → IsPrefix b c → IsPrefix a c
prefix_on a b c one two =
    record { later = one.later ++ two.later; is = two.is ∙ ap (λ xs. xs ++ two.later) one.is ∙ append_assoc a one.later two.later }

pub prefix_long : (prefix whole : List Command) → IsPrefix prefix whole → length prefix ≤ length whole
prefix_long prefix whole p = omega (arith, ap length p.is, length-append prefix p.later)

-- of two prefixes of one log the shorter one stands at the front of the other
both_prefixes : (a b x y : List Command) → a ++ x ≡ b ++ y → length a ≤ length b → IsPrefix a b
both_prefixes [] b x y e le = record { later = b; is = refl }
both_prefixes (p ∷ a) [] x y e le = absurd (omega arith)
both_prefixes (p ∷ a) (q ∷ b) x y e le =
    let first : p ≡ q = same_some (ap (λ (xs : List Command). slice_get xs 0) e) in
    let rest = both_prefixes a b x y (ap (λ (xs : List Command). drop 1 xs) e) (omega arith) in
    record { later = rest.later; is = λ i. sym first i ∷ rest.is i }

pub prefix_within : (a b whole : List Command) → IsPrefix a whole → IsPrefix b whole → length a ≤ length b → IsPrefix a b
prefix_within a b whole one two le = both_prefixes a b one.later two.later (sym one.is ∙ two.is) le

-- two that are as long are one
pub one_prefix : (a b whole : List Command) → IsPrefix a whole → IsPrefix b whole → length a ≡ length b → a ≡ b
one_prefix a b whole one two e = let p = prefix_within a b whole one two (omega arith) in by p.later p.is
  where
    by : (later : List Command) → b ≡ a ++ later → a ≡ b
    by [] is = sym (is ∙ append-nil a)
    by (x ∷ xs) is = absurd (omega (arith, ap length is, length-append a (x ∷ xs)))

pub below_on : (a b c : State) → IsBelow a b → IsBelow b c → IsBelow a c
below_on a b c one two = record {
  rows = λ cell row e. elim (one.rows cell row e) [
    | inr died ↦ inr (two.died cell died)
    | inl middle ↦ elim (two.rows cell middle.now middle.is) [
      | inr died ↦ inr died
      | inl last ↦ inl (record {
        now = last.now;
        is = last.is;
        goes_on = goes_on_on a b c one.ages two.ages row middle.now last.now middle.goes_on last.goes_on;
      })
    ]
  ];
  died = λ cell gone. two.died cell (one.died cell gone);
  ages = λ n. let x = one.ages n in let y = two.ages n in omega arith;
  finds = λ name disk e.
      let middle = one.finds name disk e in
      let last = two.finds name middle.now middle.is in
      record {
        now = last.now;
        is = last.is;
        disk_is = last.disk_is ∙ middle.disk_is;
        map_is = let x = middle.map_is in let y = last.map_is in omega arith;
        onward = let x = middle.onward in let y = last.onward in omega arith;
      };
  snaps = λ disk name epoch e. two.snaps disk name epoch (one.snaps disk name epoch e);
  epochs = λ cell. let x = one.epochs cell in let y = two.epochs cell in omega arith;
  eras = λ cell. let x = one.eras cell in let y = two.eras cell in omega arith;
  stages = λ cell. let x = one.stages cell in let y = two.stages cell in omega arith;
}

pub below_itself : (a : State) → IsBelow a a
below_itself a = record {
  rows = λ cell row e. inl (record { now = row; is = e; goes_on = goes_on_itself a a row });
  died = λ cell gone. gone;
  ages = λ n. no_less (age_of a n);
  finds = λ name disk e. record { now = disk; is = e; disk_is = refl; map_is = no_less disk.map; onward = no_less disk.epoch };
  snaps = λ disk name epoch e. e;
  epochs = λ cell. no_less (epoch_at a cell);
  eras = λ cell. no_less (era_at a cell);
  stages = λ cell. no_less (stage_at a cell);
}
