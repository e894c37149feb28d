-- What follows the status of a line has the code whose text it is.
use Rattle.std.proofs.Common.{◌≡◌, ℕ, ◌^◌, ◌<◌, Bool, true, false, List, [], ◌∷◌, ◌++◌, get_or, codes, decimal, inl, inr, refl, sym, ap, subst, ◌∙◌, arith, append_assoc}
use Rattle.std.specs.Prelude.{◌&&◌, ◌==◌}
use Rattle.std.proofs.lemmas.Bool.{eqb-false}
use Rattle.imap_types.proofs.EachLemmas.{each_append, each_all, each_to}
use Rattle.imap_types.proofs.CutLemmas.{other, cut_free, cut_none}
use Rattle.imap_types.specs.declared.code.Code.{Code}
use Rattle.imap_types.specs.declared.code.Code.TheVariants as code
use Rattle.imap_types.specs.declared.uid_set.UidSet.{UidSet}
use Rattle.imap_types.specs.Octets.{is_digit, is_text, is_word}
use Rattle.imap_types.specs.Texts.{Each, crlf, IsWord}
use Rattle.imap_types.specs.Codes.{IsKnown, in_brackets, Bracketed, HasCode}
use Rattle.imap_types.specs.Lines.{IsLine, IsRest, IsCodedRest}
use Rattle.imap_types.specs.reading.CodeReading.{cut}
use Rattle.imap_values.proofs.Cuts.{small, text_small}
use Rattle.store_responses.specs.ResponseTexts.{ranges_text, code_words, code_text}
use Rattle.store_responses.specs.Sendable.{IsNonZeroNumber, IsSendableSet, IsSendableCode}
use Rattle.store_responses.proofs.Numerals.{decimal_class, nonzero_text, long_text}
use Rattle.store_responses.proofs.SetTexts.{set_text, set_class}

-- ---- octets between the brackets

-- of text, but not `]`
abbrev is_coded : ℕ → Bool
is_coded c = is_text c && in_brackets c

digit_coded : (c : ℕ) → is_digit c ≡ true → is_coded c ≡ true
digit_coded c e = grind arith

coded_text : (c : ℕ) → is_coded c ≡ true → is_text c ≡ true
coded_text c e = grind arith

coded_inside : (c : ℕ) → is_coded c ≡ true → in_brackets c ≡ true
coded_inside c e = grind arith

number_coded : (n : ℕ) → n < 2 ^ 63 → Each is_coded (decimal n)
number_coded n lt = decimal_class is_coded n digit_coded (omega arith)

nonzero_coded : (n : ℕ) → IsNonZeroNumber n → Each is_coded (decimal n)
nonzero_coded n h = number_coded n (omega (arith, h.1))

two_coded : (x y : List ℕ) → Each is_coded x → Each is_coded y → Each is_coded (x ++ 32 ∷ y)
two_coded x y h g = each_append is_coded x (32 ∷ y) h (refl, g)

words_coded : (c : Code) → IsSendableCode c → Each is_coded (code_words c)
words_coded code.Absent h = tt
words_coded (code.UidValidity n) h = each_append is_coded (codes "UIDVALIDITY ") (decimal n) (each_all is_coded (codes "UIDVALIDITY ") refl) (nonzero_coded n h)
words_coded (code.UidNext n) h = each_append is_coded (codes "UIDNEXT ") (decimal n) (each_all is_coded (codes "UIDNEXT ") refl) (nonzero_coded n h)
words_coded (code.HighestModSeq n) h = each_append is_coded (codes "HIGHESTMODSEQ ") (decimal n) (each_all is_coded (codes "HIGHESTMODSEQ ") refl) (number_coded n h)
words_coded code.NoModSeq h = each_all is_coded (codes "NOMODSEQ") refl
words_coded code.Closed h = each_all is_coded (codes "CLOSED") refl
words_coded (code.AppendUid validity uid) h =
    each_append is_coded (codes "APPENDUID ") (decimal validity ++ 32 ∷ decimal uid) (each_all is_coded (codes "APPENDUID ") refl)
    (two_coded (decimal validity) (decimal uid) (nonzero_coded validity h.0) (nonzero_coded uid h.1))
words_coded (code.CopyUid validity from to) h =
    each_append is_coded (codes "COPYUID ") (decimal validity ++ (32 ∷ ranges_text from.ranges ++ 32 ∷ ranges_text to.ranges)) (each_all is_coded (codes "COPYUID ") refl)
    (two_coded (decimal validity) (ranges_text from.ranges ++ 32 ∷ ranges_text to.ranges) (nonzero_coded validity h.0)
    (two_coded (ranges_text from.ranges) (ranges_text to.ranges) (set_class is_coded from.ranges digit_coded refl refl h.1)
    (set_class is_coded to.ranges digit_coded refl refl h.2)))
words_coded code.OverQuota h = each_all is_coded (codes "OVERQUOTA") refl
words_coded code.Other h = each_all is_coded (codes "READ-WRITE") refl

-- ---- the code that is told

abbrev pub line_end : List ℕ
line_end = codes " done" ++ crlf

-- a rest of a line that has a code of A
record CodedBy (A : List ℕ → Type 0) (t : List ℕ) : Type 0 where
  rest : IsRest t
  code : Bracketed A t
  octet : is_word (get_or t 0 0) ≡ false

bracketed : (A : List ℕ → Type 0) (inner : List ℕ) → Each is_coded inner → A inner → CodedBy A ((32 ∷ 91 ∷ inner ++ 93 ∷ []) ++ line_end)
bracketed A inner each says = record {
  rest = inr (
    91 ∷ (inner ++ 93 ∷ []) ++ line_end,
    refl,
    record {
      text = 91 ∷ (inner ++ 93 ∷ []) ++ codes " done";
      whole = ap (λ (x : List ℕ). 91 ∷ x) (sym (append_assoc (inner ++ 93 ∷ []) (codes " done") crlf));
      text_is = (
        refl,
        each_append is_text (inner ++ 93 ∷ []) (codes " done")
            (each_append is_text inner (93 ∷ []) (each_to is_coded is_text inner coded_text each) (refl, tt)) (each_all is_text (codes " done") refl),
      );
    },
  );
  code = record {
    inner = inner;
    behind = line_end;
    whole = ap (λ (x : List ℕ). 32 ∷ 91 ∷ x) (append_assoc inner (93 ∷ []) line_end);
    each = each_to is_coded in_brackets inner coded_inside each;
    says = says;
  };
  octet = refl;
}

-- ---- the word of no code

no_space : (front back : List ℕ) → codes "READ-WRITE" ≡ front ++ 32 ∷ back → ⊥
no_space front back e =
    let free : Each (other 32) (codes "READ-WRITE") = each_all (other 32) (codes "READ-WRITE") refl in
    cut_none 32 front back (ap (cut 32) (sym e) ∙ cut_free 32 (codes "READ-WRITE") free)

other_word : (c : ℕ) (w : List ℕ) → IsWord (c ∷ w) (codes "READ-WRITE") → (114 == c) ≡ false → ⊥
other_word c w e f = eqb-false 114 c f (ap (λ (u : List ℕ). get_or u 0 0) e)

not_known : (c : Code) → IsKnown c (codes "READ-WRITE") → ⊥
not_known code.Absent k = k
not_known (code.UidValidity n) k = no_space k.front k.back k.whole
not_known (code.UidNext n) k = no_space k.front k.back k.whole
not_known (code.HighestModSeq n) k = no_space k.front k.back k.whole
not_known code.NoModSeq k = other_word 110 (codes "omodseq") k refl
not_known code.Closed k = other_word 99 (codes "losed") k refl
not_known (code.AppendUid validity uid) k = no_space k.front k.back k.whole
not_known (code.CopyUid validity from to) k = no_space k.front k.back k.whole
not_known code.OverQuota k = other_word 111 (codes "verquota") k refl
not_known code.Other k = k

-- ---- all codes

pub record HasRest (c : Code) (t : List ℕ) : Type 0 where
  pub rest : IsCodedRest c t
  pub octet : is_word (get_or t 0 0) ≡ false

no_bracket : (inner behind : List ℕ) → line_end ≡ 32 ∷ 91 ∷ inner ++ 93 ∷ behind → ⊥
no_bracket inner behind e = eqb-false 100 91 refl (ap (λ (u : List ℕ). get_or u 1 0) e)

-- a code in brackets, whose words are of A
in_rest : (c : Code) (A : List ℕ → Type 0) (inner : List ℕ) → Each is_coded inner → A inner
    → (Bracketed A ((32 ∷ 91 ∷ inner ++ 93 ∷ []) ++ line_end) → HasCode c ((32 ∷ 91 ∷ inner ++ 93 ∷ []) ++ line_end))
    → HasRest c ((32 ∷ 91 ∷ inner ++ 93 ∷ []) ++ line_end)
in_rest c A inner each says code = let b = bracketed A inner each says in record { rest = (b.rest, code b.code); octet = b.octet }

append_known : (validity uid : ℕ) → IsNonZeroNumber validity → IsNonZeroNumber uid → IsKnown (code.AppendUid validity uid) (code_words (code.AppendUid validity uid))
append_known validity uid h g = record {
  front = codes "APPENDUID";
  back = decimal validity ++ 32 ∷ decimal uid;
  whole = refl;
  first = refl;
  second = record { front = decimal validity; back = decimal uid; whole = refl; first = nonzero_text validity h; second = nonzero_text uid g };
}

copy_known : (validity : ℕ) (from to : UidSet) → IsNonZeroNumber validity → IsSendableSet from.ranges → IsSendableSet to.ranges
    → IsKnown (code.CopyUid validity from to) (code_words (code.CopyUid validity from to))
copy_known validity from to h f g = record {
  front = codes "COPYUID";
  back = decimal validity ++ (32 ∷ ranges_text from.ranges ++ 32 ∷ ranges_text to.ranges);
  whole = refl;
  first = refl;
  second = record {
    front = decimal validity;
    back = ranges_text from.ranges ++ 32 ∷ ranges_text to.ranges;
    whole = refl;
    first = nonzero_text validity h;
    second = record { front = ranges_text from.ranges; back = ranges_text to.ranges; whole = refl; first = set_text from.ranges f; second = set_text to.ranges g };
  };
}

-- a status line goes on, after the status, with its code
pub code_spelled : (c : Code) → IsSendableCode c → HasRest c (code_text c ++ line_end)
code_spelled code.Absent h = record {
  rest = (inr (codes "done" ++ crlf, refl, record { text = codes "done"; whole = refl; text_is = each_all is_text (codes "done") refl }), no_bracket);
  octet = refl;
}
code_spelled (code.UidValidity n) h =
    let c = code.UidValidity n in
    in_rest c (IsKnown c) (code_words c) (words_coded c h) (record { front = codes "UIDVALIDITY"; back = decimal n; whole = refl; first = refl; second = nonzero_text n h }) (λ b. b)
code_spelled (code.UidNext n) h =
    let c = code.UidNext n in
    in_rest c (IsKnown c) (code_words c) (words_coded c h) (record { front = codes "UIDNEXT"; back = decimal n; whole = refl; first = refl; second = nonzero_text n h }) (λ b. b)
code_spelled (code.HighestModSeq n) h =
    let c = code.HighestModSeq n in
    in_rest c (IsKnown c) (code_words c) (words_coded c h) (record { front = codes "HIGHESTMODSEQ"; back = decimal n; whole = refl; first = refl; second = long_text n h }) (λ b. b)
code_spelled code.NoModSeq h = let c = code.NoModSeq in in_rest c (IsKnown c) (code_words c) (words_coded c h) refl (λ b. b)
code_spelled code.Closed h = let c = code.Closed in in_rest c (IsKnown c) (code_words c) (words_coded c h) refl (λ b. b)
code_spelled (code.AppendUid validity uid) h =
    let c = code.AppendUid validity uid in in_rest c (IsKnown c) (code_words c) (words_coded c h) (append_known validity uid h.0 h.1) (λ b. b)
code_spelled (code.CopyUid validity from to) h =
    let c = code.CopyUid validity from to in in_rest c (IsKnown c) (code_words c) (words_coded c h) (copy_known validity from to h.0 h.1 h.2) (λ b. b)
code_spelled code.OverQuota h = let c = code.OverQuota in in_rest c (IsKnown c) (code_words c) (words_coded c h) refl (λ b. b)
code_spelled code.Other h =
    let c = code.Other in in_rest c (λ inner. (k : Code) → IsKnown k inner → ⊥) (code_words c) (words_coded c h) not_known (λ b. b)

-- ---- octets

pub line_small : (t : List ℕ) → IsLine t → Each small t
line_small t l = subst (Each small) (sym l.whole) (each_append small l.text crlf (each_to is_text small l.text text_small l.text_is) (refl, (refl, tt)))

pub rest_small : (t : List ℕ) → IsRest t → Each small t
rest_small t (inl e) = subst (Each small) (sym e) (refl, (refl, tt))
rest_small t (inr l) = subst (Each small) (sym l.1) (refl, line_small l.0 l.2)
