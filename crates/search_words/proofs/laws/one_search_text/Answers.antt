use Rattle.std.proofs.Common.{◌≡◌, sym, ◌∙◌}
use Rattle.search_words.proofs.PartLemmas.{words_read}
use Rattle.search_words.proofs.laws.one_search_text.Goals as goal

pub returns : goal.returns
returns c = λ text a b h k. sym (words_read text a h) ∙ words_read text b k
