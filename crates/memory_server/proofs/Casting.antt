-- The servers of a run that begins are those of its script.
use Rattle.std.proofs.Common.{◌≡◌, ◌≤◌, ℕ, zero, suc, ◌+◌, true, List, [], ◌∷◌, ◌++◌, map, refl, sym, ap, subst, ◌∙◌, nat_lt, arith}
use Rattle.std.proofs.lemmas.Bool.Decides.{nat_tests}
use Rattle.std.proofs.lemmas.List.FromFn.{map-range_with_len_more}
use Rattle.std.specs.List.{range_with_len}
use Rattle.script_lines.specs.declared.script.Script.{Script}
use Rattle.spec_rules.specs.World.{start, setting_of}
use Rattle.server_host.specs.Desks.{Site, desk_of}
use Rattle.memory_server.specs.Members.{first_site}

abbrev site_in : Script → ℕ → Site
site_in script n = (desk_of (setting_of script) (start (setting_of script)) n).site

one_site : (script : Script) (n : ℕ) → nat_lt n script.servers ≡ true → first_site script.servers script.slots n ≡ site_in script n
one_site script n below = rw below refl

first_sites_are : (script : Script) (k : ℕ) → k ≤ script.servers
    → map (first_site script.servers script.slots) (range_with_len 0 k) ≡ map (site_in script) (range_with_len 0 k)
first_sites_are script zero le = refl
first_sites_are script (suc k) le =
    let below : nat_lt k script.servers ≡ true = grind (arith, nat_tests) in
    let f = first_site script.servers script.slots in
    let g = site_in script in
    let next : k + 1 ≡ suc k = omega arith in
    subst (λ m. map f (range_with_len 0 m) ≡ map g (range_with_len 0 m)) next
    (map-range_with_len_more f 0 k k (omega arith)
    ∙ ap (λ sites. sites ++ f k ∷ []) (first_sites_are script k (omega arith))
    ∙ ap (λ (site : Site). map g (range_with_len 0 k) ++ site ∷ []) (one_site script k below)
    ∙ sym (map-range_with_len_more g 0 k k (omega arith)))

-- the members of a cast are the servers of the script's run
pub cast_is : (script : Script) (sites : List Site)
    → sites ≡ map (first_site script.servers script.slots) (range_with_len 0 script.servers) → sites ≡ map (site_in script) (range_with_len 0 script.servers)
cast_is script sites is = is ∙ first_sites_are script script.servers (omega arith)

map_more : {A B : Type 0} (f : A → B) (xs : List A) (x : A) → map f (xs ++ x ∷ []) ≡ map f xs ++ f x ∷ []
map_more f [] x = refl
map_more f (y ∷ ys) x = ap (λ zs. f y ∷ zs) (map_more f ys x)

-- one member more
pub cast_more : {A : Type 0} (site : A → Site) (servers slots n : ℕ) (members : List A) (member : A)
    → map site members ≡ map (first_site servers slots) (range_with_len 0 n)
    → site member ≡ first_site servers slots n → map site (members ++ member ∷ []) ≡ map (first_site servers slots) (range_with_len 0 (n + 1))
cast_more site servers slots n members member is next =
    map_more site members member ∙ (rw (is, next) (sym (map-range_with_len_more (first_site servers slots) 0 n n (omega arith))))
