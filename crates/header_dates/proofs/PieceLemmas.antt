-- The pieces of an atom are its runs.
use Rattle.std.proofs.Common.{◌≡◌, ◌≢◌, ℕ, Bool, true, false, List, [], ◌∷◌, ◌++◌, cond, refl, sym, ap, ◌∙◌, subst, ◌⊎◌, inl, inr, length, get_or, ◌≤◌, eqb, eqb-true, eq-eqb}
use Rattle.std.proofs.Common.{arith}
use Rattle.std.proofs.lemmas.Bool.{cond-true, cond-false}
use Rattle.std.proofs.lemmas.List.{nil_from_length}
use Rattle.text_words.specs.Cuts.{Each, IsRun, Stops, front, back}
use Rattle.text_words.specs.Octets.{is_digit, is_alpha}
use Rattle.text_words.proofs.CutLemmas.{front_back, front_each, back_stops}
use Rattle.header_dates.specs.Dates.{DatePiece, Digits, Letters, Signed, Octet, Other, is_plus_or_minus, single_octet, joined_piece, runs, pieces_in, pieces_of}
use Rattle.header_tokens.specs.declared.token.Alphabet.TheVariants as alphabet
use Rattle.header_tokens.specs.Tokens.{Spelled}
use Rattle.header_dates.specs.reading.DateReading.{pieces_behind}
use Rattle.header_tokens.specs.reading.LexemeReading.{lexemes_in}

abbrev NoDigits : List DatePiece → Type 0
NoDigits [] = Unit {0}
NoDigits (Digits t ∷ ps) = ⊥
NoDigits (p ∷ ps) = Unit {0}

abbrev NoLetters : List DatePiece → Type 0
NoLetters [] = Unit {0}
NoLetters (Letters t ∷ ps) = ⊥
NoLetters (p ∷ ps) = Unit {0}

-- ---- what an octet is joined to

digit_no_letter : (c : ℕ) → is_digit c ≡ true → is_alpha c ≡ false
digit_no_letter c e = grind arith

letter_no_digit : (c : ℕ) → is_alpha c ≡ true → is_digit c ≡ false
letter_no_digit c e = grind arith

letter_no_sign : (c : ℕ) → is_alpha c ≡ true → is_plus_or_minus c ≡ false
letter_no_sign c e = grind arith

sign_no_digit : (c : ℕ) → is_plus_or_minus c ≡ true → is_digit c ≡ false
sign_no_digit c e = grind arith

alone_digit : (c : ℕ) → is_digit c ≡ true → single_octet c ≡ Digits (c ∷ [])
alone_digit c e = cond-true (is_digit c) _ _ e

alone_letter : (c : ℕ) → is_alpha c ≡ true → single_octet c ≡ Letters (c ∷ [])
alone_letter c e = cond-false (is_digit c) _ _ (letter_no_digit c e) ∙ cond-true (is_alpha c) _ _ e

alone_octet : (c : ℕ) → is_digit c ≡ false → is_alpha c ≡ false → single_octet c ≡ Octet c
alone_octet c e f = cond-false (is_digit c) _ _ e ∙ cond-false (is_alpha c) _ _ f

joined_digit : (c : ℕ) (ps : List DatePiece) → NoDigits ps → is_digit c ≡ true → joined_piece c ps ≡ Digits (c ∷ []) ∷ ps
unfolding joined_piece
joined_digit c [] n e = ap (λ (p : DatePiece). p ∷ []) (alone_digit c e)
joined_digit c (Digits t ∷ ps) n e = absurd n
joined_digit c (Letters t ∷ ps) n e = cond-false (is_alpha c) _ _ (digit_no_letter c e) ∙ ap (λ (p : DatePiece). p ∷ Letters t ∷ ps) (alone_digit c e)
joined_digit c (Signed s t ∷ ps) n e = ap (λ (p : DatePiece). p ∷ Signed s t ∷ ps) (alone_digit c e)
joined_digit c (Octet s ∷ ps) n e = ap (λ (p : DatePiece). p ∷ Octet s ∷ ps) (alone_digit c e)
joined_digit c (Other ∷ ps) n e = ap (λ (p : DatePiece). p ∷ Other ∷ ps) (alone_digit c e)

joined_letter : (c : ℕ) (ps : List DatePiece) → NoLetters ps → is_alpha c ≡ true → joined_piece c ps ≡ Letters (c ∷ []) ∷ ps
unfolding joined_piece
joined_letter c [] n e = ap (λ (p : DatePiece). p ∷ []) (alone_letter c e)
joined_letter c (Digits t ∷ ps) n e = cond-false (is_digit c) _ _ (letter_no_digit c e) ∙ cond-false (is_plus_or_minus c) _ _ (letter_no_sign c e)
    ∙ ap (λ (p : DatePiece). p ∷ Digits t ∷ ps) (alone_letter c e)
joined_letter c (Letters t ∷ ps) n e = absurd n
joined_letter c (Signed s t ∷ ps) n e = ap (λ (p : DatePiece). p ∷ Signed s t ∷ ps) (alone_letter c e)
joined_letter c (Octet s ∷ ps) n e = ap (λ (p : DatePiece). p ∷ Octet s ∷ ps) (alone_letter c e)
joined_letter c (Other ∷ ps) n e = ap (λ (p : DatePiece). p ∷ Other ∷ ps) (alone_letter c e)

joined_octet : (c : ℕ) (ps : List DatePiece) → is_digit c ≡ false → is_alpha c ≡ false → NoDigits ps ⊎ (is_plus_or_minus c ≡ false) → joined_piece c ps ≡ Octet c ∷ ps
unfolding joined_piece
joined_octet c [] d a n = ap (λ (p : DatePiece). p ∷ []) (alone_octet c d a)
joined_octet c (Digits t ∷ ps) d a (inl n) = absurd n
joined_octet c (Digits t ∷ ps) d a (inr n) = cond-false (is_digit c) _ _ d ∙ cond-false (is_plus_or_minus c) _ _ n ∙ ap (λ (p : DatePiece). p ∷ Digits t ∷ ps) (alone_octet c d a)
joined_octet c (Letters t ∷ ps) d a n = cond-false (is_alpha c) _ _ a ∙ ap (λ (p : DatePiece). p ∷ Letters t ∷ ps) (alone_octet c d a)
joined_octet c (Signed s t ∷ ps) d a n = ap (λ (p : DatePiece). p ∷ Signed s t ∷ ps) (alone_octet c d a)
joined_octet c (Octet s ∷ ps) d a n = ap (λ (p : DatePiece). p ∷ Octet s ∷ ps) (alone_octet c d a)
joined_octet c (Other ∷ ps) d a n = ap (λ (p : DatePiece). p ∷ Other ∷ ps) (alone_octet c d a)

-- ---- how the pieces of an atom begin

alone_not_digits : (c : ℕ) (ps : List DatePiece) → is_digit c ≡ false → NoDigits (single_octet c ∷ ps)
alone_not_digits c ps e = by (is_digit c) (is_alpha c) e
  where
    by : (q r : Bool) → q ≡ false → NoDigits (cond q (Digits (c ∷ [])) (cond r (Letters (c ∷ [])) (Octet c)) ∷ ps)
    by true r h = absurd cc
    by false true h = tt
    by false false h = tt

alone_not_letters : (c : ℕ) (ps : List DatePiece) → is_alpha c ≡ false → NoLetters (single_octet c ∷ ps)
alone_not_letters c ps e = by (is_digit c) (is_alpha c) e
  where
    by : (q r : Bool) → r ≡ false → NoLetters (cond q (Digits (c ∷ [])) (cond r (Letters (c ∷ [])) (Octet c)) ∷ ps)
    by true r h = tt
    by false true h = absurd cc
    by false false h = tt

begins_no_digits : (c : ℕ) (ps : List DatePiece) → is_digit c ≡ false → NoDigits (joined_piece c ps)
unfolding joined_piece
begins_no_digits c [] e = alone_not_digits c [] e
begins_no_digits c (Digits t ∷ ps) e = by (is_digit c) (is_plus_or_minus c) e (alone_not_digits c (Digits t ∷ ps) e)
  where
    by : (q r : Bool) → q ≡ false → NoDigits (single_octet c ∷ Digits t ∷ ps) → NoDigits (cond q (Digits (c ∷ t) ∷ ps) (cond r (Signed c t ∷ ps) (single_octet c ∷ Digits t ∷ ps)))
    by true r h n = absurd cc
    by false true h n = tt
    by false false h n = n
begins_no_digits c (Letters t ∷ ps) e = by (is_alpha c) (alone_not_digits c (Letters t ∷ ps) e)
  where
    by : (q : Bool) → NoDigits (single_octet c ∷ Letters t ∷ ps) → NoDigits (cond q (Letters (c ∷ t) ∷ ps) (single_octet c ∷ Letters t ∷ ps))
    by true n = tt
    by false n = n
begins_no_digits c (Signed s t ∷ ps) e = alone_not_digits c (Signed s t ∷ ps) e
begins_no_digits c (Octet s ∷ ps) e = alone_not_digits c (Octet s ∷ ps) e
begins_no_digits c (Other ∷ ps) e = alone_not_digits c (Other ∷ ps) e

begins_no_letters : (c : ℕ) (ps : List DatePiece) → is_alpha c ≡ false → NoLetters (joined_piece c ps)
unfolding joined_piece
begins_no_letters c [] e = alone_not_letters c [] e
begins_no_letters c (Digits t ∷ ps) e = by (is_digit c) (is_plus_or_minus c) (alone_not_letters c (Digits t ∷ ps) e)
  where
    by : (q r : Bool) → NoLetters (single_octet c ∷ Digits t ∷ ps) → NoLetters (cond q (Digits (c ∷ t) ∷ ps) (cond r (Signed c t ∷ ps) (single_octet c ∷ Digits t ∷ ps)))
    by true r n = tt
    by false true n = tt
    by false false n = n
begins_no_letters c (Letters t ∷ ps) e = by (is_alpha c) e (alone_not_letters c (Letters t ∷ ps) e)
  where
    by : (q : Bool) → q ≡ false → NoLetters (single_octet c ∷ Letters t ∷ ps) → NoLetters (cond q (Letters (c ∷ t) ∷ ps) (single_octet c ∷ Letters t ∷ ps))
    by true h n = absurd cc
    by false h n = n
begins_no_letters c (Signed s t ∷ ps) e = alone_not_letters c (Signed s t ∷ ps) e
begins_no_letters c (Octet s ∷ ps) e = alone_not_letters c (Octet s ∷ ps) e
begins_no_letters c (Other ∷ ps) e = alone_not_letters c (Other ∷ ps) e

runs_no_digits : (a : List ℕ) → Stops is_digit a → NoDigits (runs a)
unfolding runs
runs_no_digits [] s = tt
runs_no_digits (c ∷ t) s = begins_no_digits c (runs t) s

runs_no_letters : (a : List ℕ) → Stops is_alpha a → NoLetters (runs a)
unfolding runs
runs_no_letters [] s = tt
runs_no_letters (c ∷ t) s = begins_no_letters c (runs t) s

-- ---- the pieces of an atom that begins with a run

-- the pieces of digits, and a rest that doesn't begin with a digit, are the digits as one, and those of the rest
pub digit_run : (u a : List ℕ) → IsRun is_digit u → Stops is_digit a → runs (u ++ a) ≡ Digits u ∷ runs a
unfolding runs joined_piece
digit_run [] a r s = absurd (r.1 refl)
digit_run (c ∷ []) a r s = joined_digit c (runs a) (runs_no_digits a s) r.0.0
digit_run (c ∷ d ∷ u) a r s = ap (joined_piece c) (digit_run (d ∷ u) a (r.0.1, λ e. absurd cc) s) ∙ cond-true (is_digit c) _ _ r.0.0

-- the pieces of letters, and a rest that doesn't begin with a letter, are the letters as one, and those of the rest
pub letter_run : (u a : List ℕ) → IsRun is_alpha u → Stops is_alpha a → runs (u ++ a) ≡ Letters u ∷ runs a
unfolding runs joined_piece
letter_run [] a r s = absurd (r.1 refl)
letter_run (c ∷ []) a r s = joined_letter c (runs a) (runs_no_letters a s) r.0.0
letter_run (c ∷ d ∷ u) a r s = ap (joined_piece c) (letter_run (d ∷ u) a (r.0.1, λ e. absurd cc) s) ∙ cond-true (is_alpha c) _ _ r.0.0

-- the pieces of a sign, digits, and a rest that doesn't begin with a digit, are the sign with the digits as one, and those of the rest
pub signed_run : (c : ℕ) (u a : List ℕ) → is_plus_or_minus c ≡ true → IsRun is_digit u → Stops is_digit a → runs (c ∷ (u ++ a)) ≡ Signed c u ∷ runs a
unfolding runs joined_piece
signed_run c u a e r s = ap (joined_piece c) (digit_run u a r s) ∙ cond-false (is_digit c) _ _ (sign_no_digit c e) ∙ cond-true (is_plus_or_minus c) _ _ e

-- an octet that isn't joined to what follows
pub octet_run : (c : ℕ) (a : List ℕ) → is_digit c ≡ false → is_alpha c ≡ false → Stops is_digit a ⊎ (is_plus_or_minus c ≡ false) → runs (c ∷ a) ≡ Octet c ∷ runs a
unfolding runs
octet_run c a d l (inl s) = joined_octet c (runs a) d l (inl (runs_no_digits a s))
octet_run c a d l (inr n) = joined_octet c (runs a) d l (inr n)

-- ---- what is cut off

-- digits at the front of an atom, if there are some, are its first piece, and the others are those of what follows
pub digits_cut : (t u a : List ℕ) → u ≡ front is_digit t → a ≡ back is_digit t → u ≢ [] → runs t ≡ Digits u ∷ runs a
digits_cut t u a e f n =
    ap runs (front_back is_digit t ∙ ap (λ (x : List ℕ). x ++ back is_digit t) (sym e) ∙ ap (λ (x : List ℕ). u ++ x) (sym f))
    ∙ digit_run u a (subst (λ (x : List ℕ). Each is_digit x) (sym e) (front_each is_digit t), n) (subst (λ (x : List ℕ). Stops is_digit x) (sym f) (back_stops is_digit t))

-- letters at the front of an atom, if there are some, are its first piece, and the others are those of what follows
pub letters_cut : (t u a : List ℕ) → u ≡ front is_alpha t → a ≡ back is_alpha t → u ≢ [] → runs t ≡ Letters u ∷ runs a
letters_cut t u a e f n =
    ap runs (front_back is_alpha t ∙ ap (λ (x : List ℕ). x ++ back is_alpha t) (sym e) ∙ ap (λ (x : List ℕ). u ++ x) (sym f))
    ∙ letter_run u a (subst (λ (x : List ℕ). Each is_alpha x) (sym e) (front_each is_alpha t), n) (subst (λ (x : List ℕ). Stops is_alpha x) (sym f) (back_stops is_alpha t))

-- a sign and the digits after it, if there are some, are the first piece of an atom, and the others are those of what follows
pub signed_cut : (c : ℕ) (t u a : List ℕ) → is_plus_or_minus c ≡ true → u ≡ front is_digit t → a ≡ back is_digit t → u ≢ [] → runs (c ∷ t) ≡ Signed c u ∷ runs a
signed_cut c t u a g e f n =
    ap (λ (x : List ℕ). runs (c ∷ x)) (front_back is_digit t ∙ ap (λ (x : List ℕ). x ++ back is_digit t) (sym e) ∙ ap (λ (x : List ℕ). u ++ x) (sym f))
    ∙ signed_run c u a g (subst (λ (x : List ℕ). Each is_digit x) (sym e) (front_each is_digit t), n) (subst (λ (x : List ℕ). Stops is_digit x) (sym f) (back_stops is_digit t))

-- where nothing is cut off, the text doesn't begin with the class
pub stops_here : (p : ℕ → Bool) (t u : List ℕ) → u ≡ front p t → u ≡ [] → Stops p t
unfolding front
stops_here p [] u e f = tt
stops_here p (c ∷ t) u e f = by (p c) refl (sym e ∙ f)
  where
    by : (q : Bool) → p c ≡ q → cond q (c ∷ front p t) [] ≡ [] → p c ≡ false
    by true h k = absurd cc
    by false h k = h

-- ---- pieces from a place on

-- the first piece of an atom is the first piece from there on, and the others are those from what follows it on
pub behind_runs : (atom a rest : List ℕ) (p : DatePiece) → runs atom ≡ p ∷ runs a → pieces_behind atom rest ≡ p ∷ pieces_behind a rest
unfolding pieces_behind
behind_runs atom a rest p e = ap (λ (ps : List DatePiece). ps ++ pieces_of (lexemes_in alphabet.Mail rest)) e

-- where no atom is left and no lexeme follows, there are no pieces
pub none_behind : (rest : List ℕ) → lexemes_in alphabet.Mail rest ≡ [] → pieces_behind [] rest ≡ []
unfolding pieces_behind runs pieces_of
none_behind rest e = ap pieces_of e

-- where no atom is left, the pieces are those of the next lexeme, and then those from what follows it on
pub lexeme_behind : (v : Spelled) (more rest : List ℕ) → lexemes_in alphabet.Mail rest ≡ v ∷ lexemes_in alphabet.Mail more
    → pieces_behind [] rest ≡ pieces_in v.kind v.text ++ pieces_behind [] more
unfolding pieces_behind runs pieces_of
lexeme_behind v more rest e = ap pieces_of e

-- the pieces of an atom, and then those of what follows it, are the pieces from the atom on
pub atom_behind : (atom rest : List ℕ) → runs atom ++ pieces_behind [] rest ≡ pieces_behind atom rest
unfolding pieces_behind runs
atom_behind atom rest = refl

-- a text whose length is 0 is empty
pub nothing_cut : (t : List ℕ) → eqb (length t) 0 ≡ true → t ≡ []
nothing_cut t e = nil_from_length t (eqb-true (length t) 0 e)

-- a text whose length isn't 0 isn't empty
pub something_cut : (t : List ℕ) → eqb (length t) 0 ≡ false → t ≢ []
something_cut t e n = let z = eq-eqb (length t) 0 (ap length n) in absurd cc

-- where no octet of a class stands at the front of a text that isn't empty, its first octet isn't of the class
pub first_fails : (p : ℕ → Bool) (t u : List ℕ) → u ≡ front p t → eqb (length u) 0 ≡ true → 1 ≤ length t → p (get_or t 0 0) ≡ false
first_fails p [] u e f l = absurd (omega arith)
first_fails p (c ∷ t) u e f l = stops_here p (c ∷ t) u e (nothing_cut u f)

-- where no atom is left, the pieces are those of the lexemes that follow
pub start_behind : (rest : List ℕ) → pieces_behind [] rest ≡ pieces_of (lexemes_in alphabet.Mail rest)
unfolding pieces_behind runs
start_behind rest = refl
