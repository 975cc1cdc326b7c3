-- Lemmas of std under names that an attribute can cite.
use Rattle.std.proofs.lemmas.List.Sums.{prefix_len-le-length}
use Rattle.petal_script.proofs.WordList.{length-words}

pub ruleset prefix_lens = (prefix_len-le-length)

pub ruleset empty_words = (length-words)
