use Rattle.std.proofs.Common.{◌≡◌, ℕ, List, ◌++◌, length, true, false, eqb, ap, sym, subst, ◌∙◌, string_bytes}
use Rattle.header_words.specs.WordList.{utf8_word, IsWritten}
use Rattle.header_words.proofs.WordListLemmas.{begun, one_more, all_written, none_written, is_empty, is_some}
use Rattle.header_words.proofs.word_list.encode_words.Goals as goal

pub returns-then-is_empty : goal.returns-then-is_empty
returns-then-is_empty c = none_written c.into_bytes.result.items c.args.text.now (is_empty c.args.text.now (let e : eqb (length c.args.text.now) 0 ≡ true = cc in e)) cc

pub loop-rest-init : goal.loop-rest-init
loop-rest-init c =
    let l = c.longest_piece.ensures.longest in (
      l.is.characters_behind,
      begun c.longest_piece.result.0.now c.longest_piece.result.1.now c.args.text.now _
          (is_some c.args.text.now (let e : eqb (length c.args.text.now) 0 ≡ false = cc in e)) l
          (c.in_ok-push_word.ensures ∙ ap (λ (u : List ℕ). u ++ utf8_word c.longest_piece.result.0.now) c.new-words.ensures.bytes),
    )

pub loop-rest-preserved : goal.loop-rest-preserved
loop-rest-preserved c =
    let l = c.longest_piece-in-loop-rest.ensures.longest in
    let piece = c.longest_piece-in-loop-rest.result.0.now in (
      l.is.characters_behind,
      one_more piece c.longest_piece-in-loop-rest.result.1.now (string_bytes c.loop-rest.words) c.loop-rest.rest.now c.args.text.now _
          (is_some c.loop-rest.rest.now (let e : eqb (length c.loop-rest.rest.now) 0 ≡ false = cc in e)) c.loop-rest.invariant.1 l
          (c.in_ok-push_word-2.ensures ∙ ap (λ (u : List ℕ). u ++ utf8_word piece) c.in_ok-push_str.ensures.bytes),
    )

pub returns : goal.returns
returns c =
    let v : c.into_bytes-2.result.items ≡ string_bytes c.loop-rest.words = ap (λ (v : _). v.items) c.into_bytes-2.ensures.value in
    let P : List ℕ → Type 0 = λ u. IsWritten c.args.text.now u in
    subst P (sym v) (all_written (string_bytes c.loop-rest.words) c.loop-rest.rest.now c.args.text.now
    (is_empty c.loop-rest.rest.now (let e : eqb (length c.loop-rest.rest.now) 0 ≡ true = cc in e)) c.loop-rest.invariant.1)
