use Rattle.std.proofs.Common.{sym, ap, ◌∙◌, option_map}
use Rattle.search_words.specs.declared.phrases.Phrase.{Phrase}
use Rattle.search_words.proofs.OpenLemmas.{are_open_past_phrase}
use Rattle.search_words.proofs.words.phrase_part.Goals as goal

pub returns-in-Some-clause-known : goal.returns-in-Some-clause-known
returns-in-Some-clause-known c =
    let phrase = c.in-Some.phrase in
    are_open_past_phrase c.args.unclosed.now c.args.mark c.args.behind.now (phrase.octets.items, phrase.rest.now) c.requires.mark c.requires.known
    (sym c.in_ok-phrase_at.ensures ∙ ap (option_map (λ (p : Phrase). (p.octets.items, p.rest.now))) c.in-Some.is)
