use Rattle.std.proofs.Common.{◌≡◌, false, true, sym, subst, ◌∙◌}
use Rattle.std.proofs.lemmas.Result.{IfOk-weaker}
use Rattle.text_words.specs.Octets.{is_white}
use Rattle.search_words.specs.SearchTexts.{is_mark}
use Rattle.search_words.specs.reading.OpenMarks.{AreOpen}
use Rattle.search_words.proofs.PhraseLemmas.{mark_no_backslash}
use Rattle.search_words.proofs.OpenLemmas.{are_open_behind, are_open_past_word, white_no_backslash}
use Rattle.search_words.proofs.words.part_at.Goals as goal

pub returns-then-is_white-clause-known : goal.returns-then-is_white-clause-known
returns-then-is_white-clause-known c =
    let white : is_white c.args.octet ≡ true = sym c.is_white.ensures ∙ c.if-is_white.true in
    are_open_behind c.args.unclosed.now c.args.octet c.args.behind.now (white_no_backslash c.args.octet white) c.requires

pub phrase_part-requires-clause-known : goal.phrase_part-requires-clause-known
phrase_part-requires-clause-known c =
    let mark : is_mark c.args.octet ≡ true = sym c.is_mark.ensures ∙ c.if-is_mark.true in
    are_open_behind c.args.unclosed.now c.args.octet c.args.behind.now (mark_no_backslash c.args.octet mark) c.requires

pub returns-clause-known : goal.returns-clause-known
returns-clause-known c =
    let none : is_white c.args.octet ≡ false = sym c.is_white.ensures ∙ c.if-is_white.false in
    IfOk-weaker c.word_part.result _ _
    (λ p part. subst (AreOpen c.args.unclosed.now) (sym part.1) (are_open_past_word c.args.unclosed.now c.args.octet c.args.behind.now none c.requires))
    c.word_part.ensures
