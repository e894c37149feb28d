use Rattle.search_words.proofs.PartLemmas.{is_search_text}
use Rattle.search_words.proofs.laws.search_words_are_asked.Goals as goal

pub returns : goal.returns
returns c = is_search_text
