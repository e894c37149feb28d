-- In angle brackets a Content-ID without white space is kept whole: no comment stands there, and of a quoted text each octet stays.
use Rattle.std.proofs.Common.{◌≡◌, ℕ, zero, suc, ◌+◌, ◌≤◌, Bool, true, false, not, ◌==◌, eqb-true, List, [], ◌∷◌, ◌++◌, length, take, drop, refl, sym, ap, ◌∙◌, subst, arith, take-append-drop, Option, Some, None}
use Rattle.std.specs.List.{filter, flat_map}
use Rattle.std.proofs.lemmas.Bool.{cond-true}
use Rattle.std.proofs.lemmas.List.{append-nil, length-drop}
use Rattle.text_words.specs.Cuts.{Each, IsRun}
use Rattle.text_words.specs.Octets.{is_white}
use Rattle.text_words.specs.Sequence.{Sequence}
use Rattle.text_words.proofs.CutLemmas.{each_right}
use Rattle.mail_header.specs.Lines.{unfolded}
use Rattle.header_tokens.specs.declared.token.Kind.TheVariants as kind
use Rattle.header_tokens.specs.Closings.{is_no_greater_octet}
use Rattle.header_tokens.specs.Tokens.{none, IsQuoted}
use Rattle.header_tokens.specs.reading.TokenReading.{close_in}
use Rattle.header_tokens.proofs.BracketContents.{Apart}
use Rattle.header_tokens.proofs.BracketReading.{bracket_read, none_read}
use Rattle.mime_fields.specs.ContentIds.{is_visible_octet, IsUnit, Quoted, Octet, Unclosed, IsWithoutGaps, IsEnclosed}
use Rattle.mime_fields.proofs.IdLemmas.{comment_first}

-- the text is units of which all octets are kept
record IsWhole (t : List ℕ) : Type 0 where
  units : List (List ℕ)
  are : Sequence (IsUnit false) units t
  joined : flat_map (λ (unit : List ℕ). unit) units ≡ t

behind_unit : (x rest : List ℕ) → IsUnit false x x rest → IsWhole rest → IsWhole (x ++ rest)
behind_unit x rest i w = record {
  units = x ∷ w.units;
  are = record { unit = x; rest = rest; whole = refl; is = i; more = w.are };
  joined = ap (λ (u : List ℕ). x ++ u) w.joined;
}

pub falsehood : (b : Bool) → not b ≡ true → b ≡ false
falsehood true e = absurd cc
falsehood false e = refl

all_visible : (t : List ℕ) → Each is_visible_octet t → filter is_visible_octet t ≡ t
all_visible [] v = refl
all_visible (c ∷ t) v = cond-true (is_visible_octet c) _ _ v.0 ∙ ap (λ (u : List ℕ). c ∷ u) (all_visible t v.1)

apart : Apart none 34
apart = record { opener = λ e. absurd (omega (arith, e)); closer = λ e. absurd (omega (arith, e)); two = λ e. absurd (omega (arith, e)) }

-- a quotation mark that nothing closes is kept with all that follows it
open_quote : (t : List ℕ) → Each is_visible_octet (34 ∷ t) → close_in none 34 0 false t ≡ None → IsWhole (34 ∷ t)
open_quote t v n = record {
  units = filter is_visible_octet (34 ∷ t) ∷ [];
  are = record {
    unit = 34 ∷ t;
    rest = [];
    whole = sym (append-nil (34 ∷ t));
    is = Unclosed 34 t refl (record { comment = λ x y b e. let q = comment_first x y t 34 b e in absurd cc; quoted = none_read 34 none 34 (34 ∷ t) t apart refl n });
    more = refl;
  };
  joined = append-nil (filter is_visible_octet (34 ∷ t)) ∙ all_visible (34 ∷ t) v;
}

-- a quoted text is kept, and what follows it
closed_quote : (n m : ℕ) (t : List ℕ) → length t ≤ n → Each is_visible_octet (34 ∷ t) → close_in none 34 0 false t ≡ Some m
    → ((x : List ℕ) → length x ≤ n → Each is_visible_octet x → IsWhole x) → IsWhole (34 ∷ t)
closed_quote n m t h v s more =
    let x = take (m + 1) (34 ∷ t) in
    let y = drop (m + 1) (34 ∷ t) in
    let w : 34 ∷ t ≡ x ++ y = sym (take-append-drop (m + 1) (34 ∷ t)) in
    let b : IsQuoted x = bracket_read 34 none 34 m (34 ∷ t) t x apart refl s refl in
    let E : List ℕ → Type 0 = λ u. Each is_visible_octet u in
    let rest = more y (omega (arith, h, length-drop (m + 1) (34 ∷ t))) (each_right is_visible_octet x y (subst E w v)) in
    subst IsWhole (sym w) (behind_unit x y (Quoted x y b) rest)

whole_within : (n : ℕ) (t : List ℕ) → length t ≤ n → Each is_visible_octet t → IsWhole t
whole_within n [] h v = record { units = []; are = refl; joined = refl }
whole_within zero (c ∷ t) h v = absurd (omega (arith, h))
whole_within (suc n) (c ∷ t) h v = by (c == 34) refl (λ x. whole_within n x)
  where
    quote : (o : Option ℕ) → close_in none 34 0 false t ≡ o → c ≡ 34 → ((x : List ℕ) → length x ≤ n → Each is_visible_octet x → IsWhole x) → IsWhole (c ∷ t)
    quote o s e more =
        let V : ℕ → Type 0 = λ q. Each is_visible_octet (q ∷ t) in
        let W : ℕ → Type 0 = λ q. IsWhole (q ∷ t) in
        subst W (sym e) (at o s (subst V e v))
      where
        at : (o : Option ℕ) → close_in none 34 0 false t ≡ o → Each is_visible_octet (34 ∷ t) → IsWhole (34 ∷ t)
        at None s u = open_quote t u s
        at (Some m) s u = closed_quote n m t (omega (arith, h)) u s more

    by : (q : Bool) → (c == 34) ≡ q → ((x : List ℕ) → length x ≤ n → Each is_visible_octet x → IsWhole x) → IsWhole (c ∷ t)
    by false e more = behind_unit (c ∷ []) t (Octet c t (falsehood (is_white c) v.0) e) (more t (omega (arith, h)) v.1)
    by true e more = quote (close_in none 34 0 false t) refl (eqb-true c 34 e) more

-- a text without white space and ends of lines is kept whole
pub whole_kept : (t : List ℕ) → Each is_visible_octet t → unfolded t ≡ t → IsWithoutGaps false t t
whole_kept t v u =
    let w = whole_within (length t) t (omega arith) v in
    record { units = w.units; are = w.are; kept_is = sym (ap unfolded w.joined ∙ u) }

-- what stands in angle brackets behind white space is enclosed
pub enclosed_behind : (g inner : List ℕ) → IsRun is_white g → Each is_no_greater_octet inner → IsEnclosed inner (g ++ 60 ∷ (inner ++ 62 ∷ []))
enclosed_behind g inner w n = record {
  less = record { kind = kind.Mark; text = 60 ∷ [] };
  behind_less = inner ++ 62 ∷ [];
  behind_greater = [];
  begins = record {
    gaps = record { kind = kind.Space; text = g } ∷ [];
    begins = (
      refl,
      record {
        unit = g;
        rest = 60 ∷ (inner ++ 62 ∷ []);
        whole = refl;
        is = record { text_is = refl; spelled = w; ends = refl };
        more = record {
          unit = 60 ∷ [];
          rest = inner ++ 62 ∷ [];
          whole = refl;
          is = record { text_is = refl; spelled = (60, refl, refl); ends = tt };
          more = refl;
        };
      },
    );
    is = refl;
  };
  is_less = refl;
  whole = refl;
  no_greater = n;
  ends = record { tokens = []; are = refl; lexemes_are = refl };
}
