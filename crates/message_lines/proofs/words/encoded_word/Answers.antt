use Rattle.std.proofs.Common.{ℕ, List, ◌++◌, string_bytes, ap, ◌∙◌}
use Rattle.base64.specs.Engines.{standard}
use Rattle.base64.specs.GeneralPurpose.{encode_of}
use Rattle.header_words.specs.WordList.{utf8_word}
use Rattle.header_words.proofs.WordListLemmas.{pushed}
use Rattle.message_lines.proofs.words.encoded_word.Goals as goal

pub returns : goal.returns
returns c =
    pushed (string_bytes c.new-word.result) (string_bytes c.push_str.new.self) (string_bytes c.encode_string.new.output) (string_bytes c.push_str-2.new.self) c.args.piece.now
    c.in_ok-push_str.ensures.bytes
    (c.in_ok-encode_string.ensures.ok ∙ ap (λ (u : List ℕ). string_bytes c.push_str.new.self ++ encode_of standard u) c.as_bytes.ensures.value) c.in_ok-push_str-2.ensures.bytes
    ∙ ap (λ (u : List ℕ). u ++ utf8_word c.args.piece.now) c.new-word.ensures.bytes
