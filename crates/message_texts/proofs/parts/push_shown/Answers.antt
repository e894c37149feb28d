use Rattle.std.proofs.Common.{List, ℕ, None, Some, codes, refl, sym, ap, ◌∙◌}
use Rattle.std.proofs.lemmas.Result.{on_ok_weaker}
use Rattle.message_texts.specs.Parts.{text_leaf, alternative}
use Rattle.message_texts.proofs.PartLemmas.{shown_is}
use Rattle.message_texts.proofs.parts.push_shown.Goals as goal

pub returns-in-Some-html : goal.returns-in-Some-html
returns-in-Some-html c =
    let html = c.as_str.result.now in
    on_ok_weaker c.push_text_leaf.result
    (λ w. shown_is c.args.text.now c.push_text_leaf.new.text c.args.plain.now c.args.html.now None (Some html) (text_leaf (codes "text/html") html) c.in-None.is
    (c.in-Some-html.is ∙ ap (λ (t : List ℕ). Some t) (sym c.as_str.ensures)) refl w) c.push_text_leaf.ensures

pub returns-in-None-html-2 : goal.returns-in-None-html-2
returns-in-None-html-2 c =
    let plain = c.as_str-in-None-html-2.result.now in
    on_ok_weaker c.push_text_leaf-in-None-html-2.result
    (λ w. shown_is c.args.text.now c.push_text_leaf-in-None-html-2.new.text c.args.plain.now c.args.html.now (Some plain) None (text_leaf (codes "text/plain") plain)
    (c.in-Some.is ∙ ap (λ (t : List ℕ). Some t) (sym c.as_str-in-None-html-2.ensures)) c.in-None-html-2.is refl w) c.push_text_leaf-in-None-html-2.ensures

pub returns-in-Some-html-2 : goal.returns-in-Some-html-2
returns-in-Some-html-2 c =
    let plain = c.as_str-in-Some-html-2.result.now in
    let html = c.as_str-in-Some-html-2-2.result.now in
    on_ok_weaker c.push_alternative.result
    (λ w. shown_is c.args.text.now c.push_alternative.new.text c.args.plain.now c.args.html.now (Some plain) (Some html) (alternative plain html)
    (c.in-Some.is ∙ ap (λ (t : List ℕ). Some t) (sym c.as_str-in-Some-html-2.ensures)) (c.in-Some-html-2.is ∙ ap (λ (t : List ℕ). Some t) (sym c.as_str-in-Some-html-2-2.ensures)) refl w)
    c.push_alternative.ensures
