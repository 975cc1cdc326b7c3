-- What was found, if anything.
use Rattle.std.specs.Prelude.{List, [], ◌∷◌, Option, None, Some}

-- as a list
abbrev pub listed : {A : Type 0} → Option A → List A
listed None = []
listed (Some one) = one ∷ []
