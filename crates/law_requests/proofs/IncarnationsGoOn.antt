-- What is known of incarnations goes on with each step of a server.
use Rattle.law_requests.proofs.Imports.{if◌then◌else◌, ◌<◌, ◌==◌, ◌∙◌, ◌≡◌, ◌≢◌, ◌≤◌, IsPrefix, LinkRow, Server, World, ap, arith, by_bool, id_of, inl, inr}
use Rattle.law_requests.proofs.Imports.{is_flagged, number_itself, prefix_on, same_numbers, same_or_apart, subst, sym, true, ℕ}
use Rattle.law_requests.specs.KnownRequests.{Lives, AreLives, done_by, lives_after}
use Rattle.law_requests.proofs.RequestsKnownLater.{one_log}

-- with no entries more, the server has each Caught in mind for which it had started a ballot
abbrev pub KeepsFlags : (old new : Server) → Type 0
KeepsFlags old new =
    old.log.applied ≡ new.log.applied → (row : LinkRow) → is_flagged old.own (id_of row) ≡ true → is_flagged new.own (id_of row) ≡ true

-- what a step does to a server: it goes on as the incarnation that it ran as last, if it runs, and forgets nothing; or it runs
-- as a later one, which has finished nothing
pub data Lived (lives : Lives) (n : ℕ) (old new : Server) : Type 0 where
  Goes_on : (new.life.running ≡ true → new.life.inc ≡ lives.ran n) → old.life.inc ≤ new.life.inc → ((c : ℕ) → done_by old.own c ≤ done_by new.own c)
      → KeepsFlags old new → Lived lives n old new
  Begins : new.life.running ≡ true → old.life.inc < new.life.inc → ((c : ℕ) → done_by new.own c ≡ 0) → Lived lives n old new

-- a server as it was and as it is, which ran as this incarnation last
pub record IsSince (before now : Server) (last : ℕ) : Type 0 where
  pub ran : before.life.running ≡ true → before.life.inc ≤ last
  pub incs : before.life.inc ≤ now.life.inc
  pub grows : IsPrefix before.log.applied now.log.applied
  pub flags : before.life.inc ≡ last → KeepsFlags before now

module _ (lives : Lives) (w v : World) (known : AreLives w lives) (steps : (n : ℕ) → Lived lives n (w.servers n) (v.servers n)) where
  abbrev pub after : Lives
  after = lives_after lives v

  -- which one it ran as last
  pub ran_same : (n : ℕ) → ((v.servers n).life.running ≡ true → (v.servers n).life.inc ≡ lives.ran n) → after.ran n ≡ lives.ran n
  ran_same n e = by_bool (v.servers n).life.running
      (λ on. ap (λ b. if b then (v.servers n).life.inc else lives.ran n) on ∙ e on)
      (λ off. ap (λ b. if b then (v.servers n).life.inc else lives.ran n) off)

  pub ran_now : (n : ℕ) → (v.servers n).life.running ≡ true → after.ran n ≡ (v.servers n).life.inc
  ran_now n on = ap (λ b. if b then (v.servers n).life.inc else lives.ran n) on

  -- what that one has finished, and another one
  pub done_now : (n c : ℕ) → after.done n (after.ran n) c ≡ done_by (v.servers n).own c
  done_now n c = ap (λ b. if b then done_by (v.servers n).own c else lives.done n (after.ran n) c) (number_itself (after.ran n))

  pub done_beside : (n inc c : ℕ) → inc ≢ after.ran n → after.done n inc c ≡ lives.done n inc c
  done_beside n inc c ne = by_bool (inc == after.ran n)
      (λ e. absurd (ne (same_numbers inc (after.ran n) e)))
      (λ off. ap (λ b. if b then done_by (v.servers n).own c else lives.done n inc c) off)

  pub no_earlier : (n : ℕ) → lives.ran n ≤ after.ran n
  no_earlier n = by (steps n)
    where
      by : Lived lives n (w.servers n) (v.servers n) → lives.ran n ≤ after.ran n
      by (Goes_on same rises more keeps) = let e = ran_same n same in omega arith
      by (Begins on later none) = let e = ran_now n on in let b = known.begun n in omega arith

  pub lived_on : AreLives v after
  lived_on = record {
    ran = ran_now;
    begun = λ n. begun_by n (steps n);
    tied = done_now;
    unborn = λ n inc c lt.
        let up = no_earlier n in
        let ne : inc ≢ after.ran n = λ e. omega arith in
        done_beside n inc c ne ∙ known.unborn n inc c (omega arith);
  }
    where
      begun_by : (n : ℕ) → Lived lives n (w.servers n) (v.servers n) → after.ran n ≤ (v.servers n).life.inc
      begun_by n (Goes_on same rises more keeps) = let e = ran_same n same in let b = known.begun n in omega arith
      begun_by n (Begins on later none) = let e = ran_now n on in omega arith

  -- nothing that was finished is forgotten
  pub dones_rise : (n inc c : ℕ) → lives.done n inc c ≤ after.done n inc c
  dones_rise n inc c = elim (same_or_apart inc (after.ran n)) [
    | inl e ↦
        let now : after.done n inc c ≡ done_by (v.servers n).own c = ap (λ i. after.done n i c) e ∙ done_now n c in
        by e now (steps n)
    | inr ne ↦ let same = done_beside n inc c ne in omega arith
  ]
    where
      by : inc ≡ after.ran n → after.done n inc c ≡ done_by (v.servers n).own c → Lived lives n (w.servers n) (v.servers n)
          → lives.done n inc c ≤ after.done n inc c
      by e now (Goes_on same rises more keeps) =
          let was : lives.done n inc c ≡ done_by (w.servers n).own c = ap (λ i. lives.done n i c) (e ∙ ran_same n same) ∙ known.tied n c in
          let up = more c in
          omega arith
      by e now (Begins on later none) =
          let b = known.begun n in
          let r = ran_now n on in
          let was : lives.done n inc c ≡ 0 = known.unborn n inc c (omega arith) in
          omega arith

  -- what was so of a server on the way is so later
  pub since_on : (n : ℕ) (before : Server) → IsSince before (w.servers n) (lives.ran n) → IsPrefix (w.servers n).log.applied (v.servers n).log.applied
      → IsSince before (v.servers n) (after.ran n)
  since_on n before since on = by (steps n)
    where
      grown : IsPrefix before.log.applied (v.servers n).log.applied
      grown = prefix_on before.log.applied _ _ since.grows on

      by : Lived lives n (w.servers n) (v.servers n) → IsSince before (v.servers n) (after.ran n)
      by (Goes_on same rises more keeps) =
          let e = ran_same n same in
          let low = since.incs in
          record {
            ran = λ runs. let le = since.ran runs in omega arith;
            incs = omega arith;
            grows = grown;
            flags = λ last all row flag.
                let there : before.log.applied ≡ (w.servers n).log.applied =
                one_log _ _ since.grows (subst (IsPrefix (w.servers n).log.applied) (sym all) on) in
                keeps (sym there ∙ all) row (since.flags (last ∙ e) there row flag);
          }
      by (Begins runs later none) =
          let e = ran_now n runs in
          let low = since.incs in
          let b = known.begun n in
          record {
            ran = λ ran. let le = since.ran ran in omega arith;
            incs = omega arith;
            grows = grown;
            flags = λ last all row flag. absurd (omega arith);
          }

-- a server that does nothing goes on
pub lives_still : (lives : Lives) (w : World) → AreLives w lives → (n : ℕ) → Lived lives n (w.servers n) (w.servers n)
lives_still lives w known n = Goes_on (λ on. sym (known.ran n on)) (omega arith) (λ c. omega arith) (λ same row flag. flag)
