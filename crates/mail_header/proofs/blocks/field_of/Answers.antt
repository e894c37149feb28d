use Rattle.std.proofs.Common.{◌≡◌, ℕ, List, length, true, false, eqb, eqb-true, eq-eqb, sym, ap, ◌∙◌, subst}
use Rattle.std.proofs.lemmas.List.{nil_from_length}
use Rattle.text_words.specs.Cuts.{back}
use Rattle.text_words.specs.Octets.{is_blank}
use Rattle.mail_header.specs.Fields.{IsField}
use Rattle.mail_header.proofs.FieldLemmas.{field_name, field_rest, is_field}
use Rattle.mail_header.proofs.blocks.field_of.Goals as goal

pub returns-then-is_empty : goal.returns-then-is_empty
returns-then-is_empty c = λ name raw f.
    let q : eqb (length c.cut.result.0.now) 0 ≡ true = cc in
    f.is_named.1 (field_name name raw c.args.block.now f ∙ sym c.cut.ensures.front ∙ nil_from_length c.cut.result.0.now (eqb-true _ 0 q))

pub returns-in-None : goal.returns-in-None
returns-in-None c = λ name raw f.
    c.in-None.ensures f.value (c.cut-2.ensures.back ∙ ap (back is_blank) c.cut.ensures.back ∙ field_rest name raw c.args.block.now f)

pub returns-in-Some : goal.returns-in-Some
returns-in-Some c =
    let n = c.cut.result.0.now in
    let w = c.in-Some.value.now in
    let q : eqb (length n) 0 ≡ false = cc in
    subst (λ (u : List ℕ). IsField n u c.args.block.now) (sym c.without_end.ensures)
    (is_field c.args.block.now n c.cut.result.1.now c.cut-2.result.1.now w c.cut.ensures.front c.cut.ensures.back c.cut-2.ensures.back
    (λ e. let z = eq-eqb (length n) 0 (ap length e) in absurd cc) c.in-Some.ensures)
