use Rattle.std.proofs.Common.{◌≡◌, ◌∙◌, sym, ap, true, false, List, ℕ}
use Rattle.std.specs.List.{flat_map}
use Rattle.mail_maps.specs.Keywords.{keyword_of}
use Rattle.mail_maps.specs.reading.Compared.{ascend, are_among}
use Rattle.mail_maps.proofs.SameKeywords.{all_hold, second_fails, first_fails}
use Rattle.mail_maps.proofs.same_keywords.are_keywords_of_few.Goals as goal
use Rattle.mail_maps.proofs.same_keywords.are_keywords_of_few.Goals.{then-ascend, else-ascend}

pub returns-then-have_keywords : goal.returns-then-have_keywords
returns-then-have_keywords c =
    let names = c.args.names.now in
    let found = flat_map keyword_of c.args.flags.now in
    elim c.if-ascend.branch [
      | then-ascend w ↦
          all_hold names found c.are_of_flags.result (ap ascend (sym c.as_slice.ensures) ∙ sym c.ascend.ensures ∙ w.if-ascend.true)
          (sym (w.have_keywords.ensures ∙ ap (λ (fs : List (List ℕ)). are_among names (flat_map keyword_of fs)) w.as_slice-then-ascend.ensures)
          ∙ sym w.value-is ∙ c.if-have_keywords.true)
          (c.are_of_flags.ensures ∙ ap (λ (fs : List (List ℕ)). are_among (flat_map keyword_of fs) c.as_slice-then-have_keywords.result.now) c.as_slice-then-have_keywords-2.ensures
          ∙ ap (are_among found) c.as_slice-then-have_keywords.ensures)
      | else-ascend w ↦ absurd (let f : false ≡ true = sym w.if-ascend.false ∙ sym w.value-is ∙ c.if-have_keywords.true in cc)
    ]

pub returns-else-have_keywords : goal.returns-else-have_keywords
returns-else-have_keywords c =
    let names = c.args.names.now in
    let found = flat_map keyword_of c.args.flags.now in
    elim c.if-ascend.branch [
      | then-ascend w ↦
          c.if-have_keywords.false ∙ second_fails names found (ap ascend (sym c.as_slice.ensures) ∙ sym c.ascend.ensures ∙ w.if-ascend.true)
          (sym (w.have_keywords.ensures ∙ ap (λ (fs : List (List ℕ)). are_among names (flat_map keyword_of fs)) w.as_slice-then-ascend.ensures)
          ∙ sym w.value-is ∙ c.if-have_keywords.false)
      | else-ascend w ↦ c.if-have_keywords.false ∙ first_fails names found (ap ascend (sym c.as_slice.ensures) ∙ sym c.ascend.ensures ∙ w.if-ascend.false)
    ]
