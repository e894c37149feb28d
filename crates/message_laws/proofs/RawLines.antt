-- Raw values that are their own form: in UTF-8, and without octets 0.
use Rattle.std.proofs.Common.{◌≡◌, ℕ, true, false, Bool, List, [], ◌∷◌, ◌++◌, IsUtf8, refl, ap, ◌∙◌, arith}
use Rattle.std.specs.List.{filter}
use Rattle.std.specs.Str.Lossy.{utf8_lossy}
use Rattle.std.proofs.lemmas.Bool.{cond-true}
use Rattle.std.proofs.lemmas.Str.{IsUtf8-append, IsUtf8-from_ascii, utf8_lossy-IsUtf8}
use Rattle.std.proofs.lemmas.Str.Ascii.{IsAscii-nil, IsAscii-cons}
use Rattle.text_words.specs.Cuts.{Each}
use Rattle.text_words.proofs.CutLemmas.{each_append}
use Rattle.mail_header.specs.RawForms.{is_no_zero, raw_form}
use Rattle.message_lines.specs.Folding.{gap}

-- in UTF-8, without octets 0
pub record IsClean (t : List ℕ) : Type 0 where
  pub utf8 : IsUtf8 t
  pub no_zero : Each is_no_zero t

pub clean_append : (x y : List ℕ) → IsClean x → IsClean y → IsClean (x ++ y)
clean_append x y a b = record { utf8 = IsUtf8-append x y a.utf8 b.utf8; no_zero = each_append is_no_zero x y a.no_zero b.no_zero }

kept_all : (t : List ℕ) → Each is_no_zero t → filter is_no_zero t ≡ t
kept_all [] e = refl
kept_all (c ∷ t) e = cond-true (is_no_zero c) (c ∷ filter is_no_zero t) (filter is_no_zero t) e.0 ∙ ap (λ (u : List ℕ). c ∷ u) (kept_all t e.1)

pub raw_is : (t : List ℕ) → IsClean t → raw_form t ≡ t
raw_is t c = ap utf8_lossy (kept_all t c.no_zero) ∙ utf8_lossy-IsUtf8 t c.utf8

pub clean_gap : (short : Bool) → IsClean (gap short)
clean_gap true = record { utf8 = IsUtf8-from_ascii (32 ∷ []) (IsAscii-cons 32 [] (omega arith) IsAscii-nil); no_zero = (refl, tt) }
clean_gap false = record {
  utf8 = IsUtf8-from_ascii (13 ∷ 10 ∷ 32 ∷ []) (IsAscii-cons 13 (10 ∷ 32 ∷ []) (omega arith) (IsAscii-cons 10 (32 ∷ []) (omega arith) (IsAscii-cons 32 [] (omega arith) IsAscii-nil)));
  no_zero = (refl, (refl, (refl, tt)));
}
