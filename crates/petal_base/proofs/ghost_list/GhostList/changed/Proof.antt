-- `changed` makes the struct without bytes, with the items that its clause names.
use Rattle.std.proofs.Common.{List, [], ◌∷◌, ◌++◌, refl}
use mir.Syntax.{a_type, dcons, dnil}
use mir.Val.{Val, vptr}
use mir.MapTy.{inst_fn}
use base.Logic.{SProp}
use prog.Wp.{WpFn, Tables}
use contract.Running.{tables, tables_of}
use sound.WpLaws.{WpFn-mono}
use types.Kit.{‵, raw, ◌⊛◌, prop, ◌$◌, ◌∵◌, !, qed, move, keep, drop, split, fsplit, fjoin, feq_l, regoal, suffices, done}
use types.Part.{agg}
use types.Run.{enter, returns, and_then, no_more}
use types.ByLocal.{alloc_all, pass_all, free_all, look_at, get, sets}
use denote.Exit.{yes}
use denote.RattleType.{RattleType, owns}
use denote.Builtin.{RefOf}
use denote.Laws.{Is}
use denote.Param.{param, bounded}
use denote.Signature.{plain, types_at}
use denote.Steps.{nothing, owned}
use denote.Struct.Laws.{makes}
use denote.Triple.Clauses.{closing}
use denote.Triple.Entry.{alive}
use denote.Triple.Spec.{triple_of}
use denote.Triple.Table.{entered}
use denote.Triple.Walked.{says, Stays, stay_dropped, walk_of, ends_at, walk_Meets, Goes-dropped}
use Rattle.std.specs.contracts.marker.PhantomData as Mark
use Rattle.petal_base.proofs.Made.{none, one, one_made}
use Rattle.petal_base.specs.contracts.ghost_list.GhostList as list
use Rattle.petal_base.specs.contracts.ghost_list.GhostList.changed as F
use Rattle.petal_base.specs.contracts.ghost_list.GhostList.changed.Key.{name as #self}
use Rattle.petal_base.proofs.ghost_list.GhostList.changed.Statement as stated
use Rattle.petal_base.proofs.ghost_list.GhostList.changed.Code as code

pub changed_spec : {M : Type 1} → stated.statement M
unfolding tables_of
changed_spec 𝓤 𝓛 𝓜 𝓡 wired T S LT LS g d _ =
    let H = 𝓛.H in
    let 𝓣 : Tables 𝓤 H = tables_of 𝓤 H 𝓜 (tables 𝓤 H 𝓜 𝓡 𝓡.env) in
    let item : RattleType = param 0 T in
    let inst = bounded (a_type ∷ a_type ∷ []) (T, (S, tt)) (dcons d dnil) in
    let function = inst_fn inst code.function in
    let ended = F.ended T S g d in
    let held = F.clauses T S g d 𝓛 𝓜.mem 𝓡.returns in
    let list_arg = RefOf (0 ∷ []) tt (plain (λ _. list.the_row item)) (λ _. tt) in
    let item_arg = RefOf (1 ∷ []) tt (plain (λ _. item)) (λ _. tt) in
    let stayed : Stays ended.signature.params ended.kept = (stay_dropped list_arg yes, (stay_dropped item_arg yes, tt)) in
    entered 𝓤 H (triple_of 𝓛 ended.signature (closing 𝓛 ended held)) 𝓣.C 𝓣.Λ (#self inst) function
    (code.unfolded 𝓤 H 𝓜 𝓡 wired (T, (S, tt)) d)
    (walk_Meets 𝓛 ended stayed (Goes-dropped 𝓛 4 list_arg yes (λ κs x f. refl), (Goes-dropped 𝓛 4 item_arg yes (λ κs x f. refl), tt)) held
    (WpFn 𝓤 H 𝓣.C 𝓣.Λ function) (WpFn-mono 𝓤 H 𝓛.laws 𝓣 function) (λ z.
    let Post : Val → SProp 𝓤 = (walk_of 𝓛 ended stayed held).post z in
    let a = z.0.3 in
    let vss = z.0.4 in
    let made : (list.the_row item).Denot = record { of = record {}; items = g.changed a.0.now.items a.1.0.now } in
    let p = vptr a.0.ref_ptr.0 a.0.ref_ptr.1 in
    let q = vptr a.1.0.ref_ptr.0 a.1.0.ref_ptr.1 in
    qed 𝓛 ((raw (alive 𝓛 ended.signature z.0.0 z.0.1) ⊛ ‵ (owns (types_at ended.signature.params z.0.0) a vss)) ∷ raw ((held z.0.0 a).requires z.1) ∷ []) ∵
    keep ! (0 ∷ []) $ split ! $ move ! (1 ∷ []) $
    fsplit ! $ fsplit ! $ feq_l ! (λ is₀. drop ! $ fsplit ! $ fsplit ! $ feq_l ! (λ is₁. drop ! $ drop ! $
    regoal ! (λ (us : List Val). prop (WpFn 𝓤 H 𝓣.C 𝓣.Λ function (us ++ (vss.1.0 ++ [])) Post)) is₀ refl $
    regoal ! (λ (us : List Val). prop (WpFn 𝓤 H 𝓣.C 𝓣.Λ function ((p ∷ []) ++ (us ++ [])) Post)) is₁ refl $
    enter ! 𝓣.C 𝓣.Λ function (p ∷ q ∷ []) Post $ alloc_all ! (λ l. pass_all ! refl ((tt, tt), ((tt, tt), tt)) $
    sets ! (agg ! (no_more !)) refl (tt, tt) $
    sets ! (agg ! (and_then ! (get ! refl) (no_more !))) refl (tt, (tt, tt)) $
    nothing ! $ owned ! (Mark.the_row item) (Is (Mark.the_row item)) (makes (Mark.the_type item) tt 𝓛) (record {}) (none ∷ []) (tt, (refl, tt)) $
    one_made ! (Mark.the_row item) (record {}) none $ fjoin ! $
    returns ! (look_at ! 0 refl) $ free_all ! refl $
    suffices ! _ (ends_at 𝓛 ended stayed held z (one none) made (tt, (tt, tt)) (tt, (tt, tt))) $ says ! refl $
    nothing ! $ nothing ! $ fjoin ! $ nothing ! $ fjoin ! $ move ! (2 ∷ 0 ∷ 1 ∷ []) $ done !)))))
