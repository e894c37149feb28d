use Rattle.std.proofs.Common.{◌≡◌, ◌≢◌, ◌-◌, ℕ, List, [], ◌∷◌, ◌++◌, length, drop, eqb, eqb-true, eq-eqb, true, false, ap, ◌∙◌, sym, arith}
use Rattle.std.proofs.lemmas.List.{length-append, drop_at, take-append-drop, nil_from_length}
use Rattle.mime_fields.proofs.content_id.before.Goals as goal

pub returns-then-is_empty : goal.returns-then-is_empty
returns-then-is_empty c = λ t e.
    let q : eqb (length c.args.text.now) 0 ≡ true = cc in
    omega (arith, eqb-true (length c.args.text.now) 0 q, ap length e, length-append t (c.args.octet ∷ []))

pub returns-in-None : goal.returns-in-None
returns-in-None c = λ t e.
    let text = c.args.text.now in
    let o = c.args.octet in
    c.in-None.ensures [] (c.split_at.ensures.back ∙ ap (λ (u : List ℕ). drop (length text - 1) u) e ∙ drop_at t (o ∷ []) (length text - 1)
    (omega (arith, ap length e, length-append t (o ∷ []))))

pub returns-in-Some : goal.returns-in-Some
returns-in-Some c =
    let text = c.args.text.now in
    let n = length text - 1 in
    let r = c.in-Some.field-0.now in
    let f = c.split_at.result.0.now in
    let q : eqb (length text) 0 ≡ false = cc in
    let some : length text ≢ 0 = λ z. let y = eq-eqb (length text) 0 z in absurd cc in
    let z : r ≡ [] = nil_from_length r (omega (arith, some, c.split_at.ensures.back_len, ap length c.in-Some.ensures)) in
    sym (take-append-drop n text) ∙ ap (λ (u : List ℕ). u ++ drop n text) (sym c.split_at.ensures.front)
    ∙ ap (λ (u : List ℕ). f ++ u) (sym c.split_at.ensures.back ∙ c.in-Some.ensures ∙ ap (λ (u : List ℕ). c.args.octet ∷ u) z)
