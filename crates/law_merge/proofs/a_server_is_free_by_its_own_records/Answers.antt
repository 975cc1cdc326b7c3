use Rattle.law_merge.proofs.Imports.{None, none_some, refl, setting_of, start}
use Rattle.law_merge.proofs.OwnHands.{known}
use Rattle.law_merge.proofs.a_server_is_free_by_its_own_records.Goals as goal

pub returns : goal.returns
returns c script records n free deed e =
    none_some free (known (setting_of script) (start (setting_of script)) records (λ k. None) (λ k d f. none_some refl f) n deed e)
