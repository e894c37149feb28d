use Rattle.std.proofs.Common.{◌≡◌, true, false, [], ◌∷◌, ◌++◌, refl, sym, ◌∙◌}
use Rattle.text_words.specs.Octets.{is_same_text}
use Rattle.mail_header.specs.reading.HeaderLines.{Added, Passed}
use Rattle.mail_header.proofs.FieldLemmas.{last_found, last_other}
use Rattle.mail_header.proofs.blocks.later.Goals as goal

pub returns-in-None : goal.returns-in-None
returns-in-None c = λ fs e. (fs, Passed c.in-None.ensures, e)

pub returns-then-same_text : goal.returns-then-same_text
returns-then-same_text c = λ fs e.
    let n = c.in-Some.its_name.now in
    let r = c.in-Some.raw.now in
    let t : is_same_text n c.args.name.now ≡ true = sym c.same_text.ensures.test ∙ c.if-same_text.true in
    (fs ++ (n, r) ∷ [], Added n r c.in-Some.ensures, sym (last_found c.args.name.now fs (n, r) [] t refl))

pub returns-else-same_text : goal.returns-else-same_text
returns-else-same_text c = λ fs e.
    let n = c.in-Some.its_name.now in
    let r = c.in-Some.raw.now in
    let t : is_same_text n c.args.name.now ≡ false = sym c.same_text.ensures.test ∙ c.if-same_text.false in
    (fs ++ (n, r) ∷ [], Added n r c.in-Some.ensures, e ∙ sym (last_other c.args.name.now fs (n, r) t))
