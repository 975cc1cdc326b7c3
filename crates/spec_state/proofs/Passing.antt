-- How fences leave the queue, one at a time.
use Rattle.std.proofs.Common.{◌≡◌, ℕ, ◌==◌, zero, suc, true, false, cond, List, [], ◌∷◌, length, Option, Some, None, refl, ap, sym, ◌∙◌}
use Rattle.std.specs.Option.{option_map_or}
use Rattle.global_tables.specs.declared.disk.Latest.{Latest}
use Rattle.global_tables.specs.declared.fence.Fence.{Fence}
use Rattle.global_tables.specs.declared.fence.FenceKind.{FenceKind}
use Rattle.global_tables.specs.declared.fence.FenceKind.TheVariants.{Whole, Region}
use Rattle.global_tables.specs.View.{View, ready, following, awaiting, passed, servers_in}
use Rattle.spec_state.specs.State.{State, latest, told}
use Rattle.spec_state.specs.Fence.{confirmed, effect, let_through, settled}

-- what is told leaves the queue alone
view_of-confirmed : (s : State) (client seq : ℕ) (last : Option Latest) → (confirmed s client seq last).view ≡ s.view
view_of-confirmed s client seq None = refl
view_of-confirmed s client seq (Some last) = elim (last.seq == seq)
    as (λ b. (cond b (told s client seq Rattle.global_tables.specs.declared.disk.Verdict.TheVariants.Ok) s).view ≡ s.view) [ true ↦ refl | false ↦ refl ]

-- an effect leaves the queue alone
pub view-effect : (kind : FenceKind) (s : State) → (effect kind s).view ≡ s.view
view-effect (Whole disk name client seq) s = view_of-confirmed _ client seq (latest s client)
view-effect (Region disk region) s = refl

length-awaiting : (servers : List ℕ) (queue : List Fence) → length (awaiting servers queue) ≡ length queue
length-awaiting servers [] = refl
length-awaiting servers (fence ∷ fences) = refl

-- a fence that is ready leaves one fewer
pub length-following : (servers : List ℕ) (queue : List Fence) (fence : Fence) → ready queue ≡ Some fence
    → length queue ≡ suc (length (following servers queue))
length-following servers [] fence is = cc
length-following servers (first ∷ fences) fence is = ap suc (sym (length-awaiting servers fences))

one_through : (n : ℕ) (s : State) (fence : Fence) → ready s.view.queue ≡ Some fence
    → let_through (suc n) s ≡ let_through n (effect fence.kind (record s { view = passed s.view }))
one_through n s fence is = ap (λ o. option_map_or (λ (f : Fence). let_through n (effect f.kind (record s { view = passed s.view }))) o s) is

none_through : (n : ℕ) (s : State) → ready s.view.queue ≡ None → let_through n s ≡ s
none_through zero s is = refl
none_through (suc n) s is = ap (λ o. option_map_or (λ (f : Fence). let_through n (effect f.kind (record s { view = passed s.view }))) o s) is

-- where the head is not ready nothing happens
pub settled_none : (s : State) → ready s.view.queue ≡ None → settled s ≡ s
settled_none s is = none_through (length s.view.queue) s is

-- where it is, it takes effect, and the rest goes on
pub settled_one : (s : State) (fence : Fence) → ready s.view.queue ≡ Some fence → settled s ≡ settled (effect fence.kind (record s { view = passed s.view }))
settled_one s fence is =
    let t : State = effect fence.kind (record s { view = passed s.view }) in
    ap (λ n. let_through n s) (length-following (servers_in s.view.members) s.view.queue fence is)
    ∙ one_through (length (following (servers_in s.view.members) s.view.queue)) s fence is
    ∙ ap (λ (v : View). let_through (length v.queue) t) (sym (view-effect fence.kind (record s { view = passed s.view })))
