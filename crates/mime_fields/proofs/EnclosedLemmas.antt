-- What stands in the outer angle brackets of a Content-ID: there is one such text at most.
use Rattle.std.proofs.Common.{◌≡◌, ◌≢◌, ℕ, true, false, List, [], ◌∷◌, ◌++◌, refl, sym, ap, ◌∙◌, subst}
use Rattle.text_words.specs.Cuts.{front, back}
use Rattle.text_words.proofs.CutLemmas.{front_back, front_each, back_is, one_run}
use Rattle.header_tokens.specs.declared.token.Alphabet.TheVariants as alphabet
use Rattle.header_tokens.specs.Closings.{is_no_greater_octet}
use Rattle.header_tokens.specs.Kinds.{has_mark}
use Rattle.header_tokens.specs.Lexemes.{AreLexemes, BeginsWithLexeme}
use Rattle.header_tokens.specs.Tokens.{Spelled}
use Rattle.mime_fields.specs.ContentIds.{IsEnclosed}
use Rattle.mime_fields.proofs.ParameterLemmas.{first_same}

-- where another lexeme comes first, nothing is enclosed
pub no_less : (v : Spelled) (rest t : List ℕ) → BeginsWithLexeme alphabet.Mime v rest t → has_mark 60 v ≡ false → (inner : List ℕ) → IsEnclosed inner t → ⊥
no_less v rest t b n inner h =
    let q = first_same v h.less rest h.behind_less t b h.begins in
    let e = sym n ∙ ap (has_mark 60) q.0 ∙ h.is_less in
    absurd cc

-- what is cut off behind the first lexeme is ">", and what follows it
cut_off : (v : Spelled) (rest t : List ℕ) → BeginsWithLexeme alphabet.Mime v rest t → (inner : List ℕ) (h : IsEnclosed inner t)
    → back is_no_greater_octet rest ≡ 62 ∷ h.behind_greater
cut_off v rest t b inner h =
    let q = first_same v h.less rest h.behind_less t b h.begins in
    ap (back is_no_greater_octet) (q.1 ∙ h.whole) ∙ back_is is_no_greater_octet inner (62 ∷ h.behind_greater) h.no_greater refl

-- where no ">" follows, nothing is enclosed
pub no_greater : (v : Spelled) (rest closed t : List ℕ) → BeginsWithLexeme alphabet.Mime v rest t → closed ≡ back is_no_greater_octet rest
    → ((u : List ℕ) → closed ≢ 62 ∷ u) → (inner : List ℕ) → IsEnclosed inner t → ⊥
no_greater v rest closed t b e n inner h = n h.behind_greater (e ∙ cut_off v rest t b inner h)

-- where more follows than white space and comments, nothing is enclosed
pub more_behind : (v : Spelled) (rest closed more t : List ℕ) → BeginsWithLexeme alphabet.Mime v rest t → closed ≡ back is_no_greater_octet rest
    → closed ≡ 62 ∷ more → (AreLexemes alphabet.Mime [] more → ⊥) → (inner : List ℕ) → IsEnclosed inner t → ⊥
more_behind v rest closed more t b e f n inner h =
    let q : 62 ∷ h.behind_greater ≡ 62 ∷ more = sym (cut_off v rest t b inner h) ∙ sym e ∙ f in
    let r : h.behind_greater ≡ more = cc in
    let P : List ℕ → Type 0 = λ u. AreLexemes alphabet.Mime [] u in
    n (subst P r h.ends)

-- what stands before the ">" is enclosed
pub enclosed_is : (v : Spelled) (rest inner closed more t : List ℕ) → BeginsWithLexeme alphabet.Mime v rest t → has_mark 60 v ≡ true
    → inner ≡ front is_no_greater_octet rest → closed ≡ back is_no_greater_octet rest → closed ≡ 62 ∷ more → AreLexemes alphabet.Mime [] more
    → IsEnclosed inner t
enclosed_is v rest inner closed more t b m f e g h =
    let P : List ℕ → Type 0 = λ u. IsEnclosed u t in
    subst P (sym f) (record {
      less = v;
      behind_less = rest;
      behind_greater = more;
      begins = b;
      is_less = m;
      whole = front_back is_no_greater_octet rest ∙ ap (λ (u : List ℕ). front is_no_greater_octet rest ++ u) (sym e ∙ g);
      no_greater = front_each is_no_greater_octet rest;
      ends = h;
    })

-- a text encloses one text at most
pub one_enclosed : (x y t : List ℕ) → IsEnclosed x t → IsEnclosed y t → x ≡ y
one_enclosed x y t g h =
    let q = first_same g.less h.less g.behind_less h.behind_less t g.begins h.begins in
    let s = one_run is_no_greater_octet x g.behind_greater y h.behind_greater 62 g.no_greater h.no_greater refl (sym g.whole ∙ q.1 ∙ h.whole) in
    s.front
