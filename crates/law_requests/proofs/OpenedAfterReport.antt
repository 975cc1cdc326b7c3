-- A write that is pending was opened where no fence held its cell's writes, and after the report.
use Rattle.law_requests.proofs.Imports.{[], ◌++◌, ◌∙◌, ◌∷◌, ◌≡◌, AreHeldAlong, AreSteps, Command, Drained, IsPrefix, IsSound, List, Record, ReportsHold}
use Rattle.law_requests.proofs.Imports.{Script, Setting, Some, WasDraining, World, WritesNothingSince, append-nil, arith, at, cell_cmp, chosen_log, here_of}
use Rattle.law_requests.proofs.Imports.{prefix_itself, prefix_on, prefix_within, refl, report_among, server_state, setting_of, subst, sym, true_false}
use Rattle.law_requests.proofs.Imports.{world_after, ℕ}
use Rattle.spec_rules.specs.World.{start}
use Rattle.law_requests.specs.KnownRequests.{AskingBy, KnowsReports, Lives}
use Rattle.law_requests.proofs.PendingHoldsReports.{held_write}
use Rattle.law_requests.proofs.RequestsInHistories.{asking_along, reports_known}
use Rattle.law_requests.specs.Reports.{WritesNothingHeld}

nothing_held : (setting : Setting) (w : World) (lives : Lives) → AskingBy setting w lives → KnowsReports setting w lives → WritesNothingHeld setting w
nothing_held setting w lives asks reports n fence until runs stands cell along op is clients =
    let own : (w.servers n).life.inc ≡ lives.ran n = sym (asks.lived.ran n runs) in
    let stands_so = subst (λ inc. IsPrefix (until ++ Drained n inc fence ∷ []) (chosen_log setting w)) own stands in
    let reached = reports.reached n fence until stands_so in
    let opened = asks.pending n cell op is clients in
    let prefix = opened.known.sent.at.prefix in
    let within = prefix_on prefix opened.upto (w.servers n).log.applied opened.opened opened.applied in
    let following = reports.later n fence until stands_so cell op is clients (along until (prefix_itself until) reached) in
    let long = opened.known.sent.at.long in
    let after : IsPrefix until prefix = prefix_within until prefix (w.servers n).log.applied reached within (omega arith) in
    true_false (along prefix after within) opened.unfenced

pub nothing_held_after : (script : Script) (records : List Record) → IsSound script → AreSteps script records
    → WritesNothingHeld (setting_of script) (world_after (setting_of script) (start (setting_of script)) records)
nothing_held_after script records sound legal =
    let along = asking_along script sound records legal in
    nothing_held (setting_of script) _ along.asks.lives along.asks.known (reports_known script sound records legal along)

-- what is pending after a server had drained was opened later
drained_writes_nothing : (script : Script) (records : List Record) → IsSound script → AreSteps script records → (n inc : ℕ) (until : List Command)
    → WasDraining (setting_of script) records n inc until
    → WritesNothingSince (setting_of script) (world_after (setting_of script) (start (setting_of script)) records) n until
drained_writes_nothing script records sound legal n inc until was cell op along is clients =
    let setting = setting_of script in
    let w = world_after setting (start setting) records in
    let k = asking_along script sound records legal in
    let opened = k.asks.known.pending n cell op is clients in
    let prefix = opened.known.sent.at.prefix in
    let long = opened.known.sent.at.long in
    let reached = subst (λ log. IsPrefix log (w.servers n).log.applied) was.at (k.since was.before (was.own ∷ was.later) was.is n).grows in
    let within = prefix_on prefix opened.upto (w.servers n).log.applied opened.opened opened.applied in
    let following = k.drained n inc until was cell op is clients (along until (prefix_itself until) reached) in
    let after : IsPrefix until prefix = prefix_within until prefix (w.servers n).log.applied reached within (omega arith) in
    true_false (along prefix after within) opened.unfenced

pub reports_hold : (script : Script) (records : List Record) → IsSound script → AreSteps script records → ReportsHold script records
reports_hold script records sound legal prefix [] n fence e wants cell op along is clients =
    let setting = setting_of script in
    let u = world_after setting (start setting) prefix in
    let same : records ≡ prefix = e ∙ append-nil prefix in
    let was : at cell_cmp (u.servers n).own.pairs.pending cell ≡ Some op =
    subst (λ rs. at cell_cmp ((world_after setting (start setting) rs).servers n).own.pairs.pending cell ≡ Some op) same is in
    let along_there : AreHeldAlong setting.servers (u.servers n).log.applied (u.servers n).log.applied cell = subst
    (λ rs. AreHeldAlong setting.servers (u.servers n).log.applied ((world_after setting (start setting) rs).servers n).log.applied cell) same along in
    let none = report_among (here_of (server_state setting u n) n (u.servers n)) (u.servers n).own _ wants.wants in
    true_false
    (held_write (server_state setting u n) (u.servers n).own cell op was clients
    (along_there (u.servers n).log.applied (prefix_itself (u.servers n).log.applied) (prefix_itself (u.servers n).log.applied))) none.drained
reports_hold script records sound legal prefix (own ∷ later) n fence e wants cell op along is clients =
    let setting = setting_of script in
    let u = world_after setting (start setting) prefix in
    let none = report_among (here_of (server_state setting u n) n (u.servers n)) (u.servers n).own _ wants.wants in
    drained_writes_nothing script records sound legal n (u.servers n).life.inc (u.servers n).log.applied (record {
      ran = record { before = prefix; own = own; later = later; is = e; lives = refl; runs = wants.runs };
      at = refl;
      drained = none.drained;
    }) cell op along is clients
