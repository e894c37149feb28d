use Rattle.std.proofs.Common.{◌≡◌, ℕ, refl, ap, ◌∙◌, length, drop, map, subst, List, arith}
use Rattle.std.proofs.lemmas.List.{nil_from_length}
use Rattle.text_words.specs.Cuts.{front, back}
use Rattle.message_lines.specs.Folding.{FieldPiece, plain_piece}
use Rattle.message_lines.specs.Names.{is_no_space, words_of}
use Rattle.message_lines.proofs.LineLemmas.{Goes, goes_begin}
use Rattle.message_lines.proofs.NameLemmas.{word_written, words_end, behind_space, tail_is, shorter_behind}
use Rattle.message_lines.proofs.names.push_plain_words.Goals as goal

pub loop-rest-init : goal.loop-rest-init
loop-rest-init c =
    let Whole : List FieldPiece → Type 0 = λ ps. ps ≡ map plain_piece (words_of c.args.name.now) in
    word_written Whole c.args.line c.args.text.now c.args.line c.in_ok-after.after c.args.text.now c.push_piece.new.text c.args.name.now c.cut.result.0.now c.cut.result.1.now
    (goes_begin Whole c.args.line c.args.text.now c.args.text.now refl) c.cut.ensures.front c.cut.ensures.back c.in_ok-after.ensures.0 c.in_ok-after.ensures.1

pub loop-rest-smaller : goal.loop-rest-smaller
loop-rest-smaller c = shorter_behind c.loop-rest.rest.now c.cut-in-len1-up.result.1.now c.in-len1-up.len_at_least (c.cut-in-len1-up.ensures.back ∙ ap (back is_no_space) (tail_is c.loop-rest.rest.now))

pub loop-rest-preserved : goal.loop-rest-preserved
loop-rest-preserved c =
    let Whole : List FieldPiece → Type 0 = λ ps. ps ≡ map plain_piece (words_of c.args.name.now) in
    let rest = c.loop-rest.rest.now in
    let cut = c.cut-in-len1-up in
    word_written Whole c.args.line c.args.text.now c.loop-rest.after c.in_ok-after-2.after c.loop-rest.text c.push_piece-in-len1-up.new.text (drop 1 rest) cut.result.0.now cut.result.1.now
    (subst (λ (ws : List (List ℕ)). Goes Whole (λ (ps : List FieldPiece). ps ≡ map plain_piece ws) c.args.line c.args.text.now c.loop-rest.after c.loop-rest.text)
    (behind_space rest c.in-len1-up.len_at_least) c.loop-rest.invariant) (cut.ensures.front ∙ ap (front is_no_space) (tail_is rest)) (cut.ensures.back ∙ ap (back is_no_space) (tail_is rest)) c.in_ok-after-2.ensures.0 c.in_ok-after-2.ensures.1

pub returns : goal.returns
returns c =
    let rest = c.loop-rest.rest.now in
    words_end c.args.name.now c.args.text.now c.args.line c.loop-rest.after c.loop-rest.text rest c.loop-rest.invariant
    (let none : length rest ≡ 0 = omega arith in nil_from_length rest none)
