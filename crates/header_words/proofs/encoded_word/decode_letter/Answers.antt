use Rattle.std.proofs.Common.{ℕ, List}
use Rattle.header_words.specs.Base64.{IsBase64}
use Rattle.header_words.specs.EncodedWords.{Spells}
use Rattle.header_words.proofs.ShapeLemmas.{none_map, spells_b}
use Rattle.header_words.proofs.encoded_word.decode_letter.Goals as goal

pub returns-in-66-clause-none : goal.returns-in-66-clause-none
returns-in-66-clause-none c =
    let t = c.args.text.now in
    let P : Type 0 = (octets : List ℕ) → IsBase64 octets t → ⊥ in
    let Q : Type 0 = (octets : List ℕ) → Spells c.args.letter octets t → ⊥ in
    none_map {P = P} {Q = Q} c.decode_base64.result (λ n octets s. n octets (spells_b c.args.letter octets t c.in-66.is s)) c.decode_base64.ensures.none
