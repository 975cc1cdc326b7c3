-- What a send of the open request posts.
use Rattle.std.specs.Prelude.{List, [], ◌∷◌, Option, Some, None}
use Rattle.spec_rules.specs.Server.{Post}

-- one post at most
abbrev pub posts_of : Option Post → List Post
posts_of None = []
posts_of (Some post) = post ∷ []
