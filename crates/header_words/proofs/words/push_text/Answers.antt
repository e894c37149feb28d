use Rattle.std.proofs.Common.{ap, ◌∙◌}
use Rattle.header_words.specs.EncodedWords.{text_of_words}
use Rattle.header_words.specs.declared.charset.Charset.TheVariants as charset
use Rattle.header_words.proofs.SpanLemmas.{text_added}
use Rattle.header_words.proofs.words.push_text.Goals as goal

pub returns-clause-gathers : goal.returns-clause-gathers
returns-clause-gathers c =
    text_added c.args.spans.now.text.items c.args.spans.now.run.items c.args.text.now c.as_slice-2.result.now c.extend_from_slice.new.self.items
    c.extend_from_slice-2.new.self.items c.new.result.items c.new.ensures.items
    (c.as_slice-2.ensures.value ∙ c.in_ok-before.ensures ∙ ap (text_of_words charset.Utf8) c.as_slice.ensures.value)
    c.in_ok-extend_from_slice.ensures.items c.in_ok-extend_from_slice-2.ensures.items
