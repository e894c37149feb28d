-- Where octets are cut inside a target.
use Rattle.std.proofs.Common.{◌≡◌, ◌≢◌, ◌<◌, ◌++◌, ◌==◌, ◌&&◌, ◌||◌, ℕ, Bool, true, false, cond, List, [], ◌∷◌, length, drop, refl, sym, ap, ◌∙◌, subst, arith}
use Rattle.std.proofs.Common.{append_assoc, inl, inr}
use Rattle.std.proofs.lemmas.Bool.{eqb-true}
use Rattle.std.proofs.lemmas.List.{append-nil}
use Rattle.std.proofs.lemmas.List.Concat.{flat_map-append}
use Rattle.std.proofs.lemmas.List.Elements.{All-head, All-tail, All-cons, All-nil}
use Rattle.httparse.specs.Grammar.{LineEnd, crlf, lf, print_end, print_blank, AllPass, is_token_byte, is_uri_byte, EndsInTarget, NeverHasRequest, HasNoRequest, ReadsRequest}
use Rattle.httparse.proofs.PieceLemmas.{print_end_unique, space_ends_token, Stops_token}
use Rattle.text_words.specs.LineEnds.{line_end_len, begins_with_lf}
use Rattle.text_words.specs.Cuts.{Each, front, back}
use Rattle.text_words.proofs.CutLemmas.{front_back, front_each, front_is, back_is}
use Rattle.http_service.specs.Heads.{IsIncomplete}
use Rattle.http_service.specs.reading.Parses.{IsRefused}
use Rattle.http_service.specs.reading.Targets.{IsAfterBlankLines}
use Rattle.http_service.proofs.LineEndLemmas.{no_head_in_target}

-- the line end at the front
line_end_front : (text : List ℕ) → line_end_len text ≢ 0 → (e : LineEnd) × (text ≡ print_end e ++ drop (line_end_len text) text)
line_end_front [] some = absurd (some refl)
line_end_front (c ∷ t) some = first (c == 10) refl some
  where
    second : (b : Bool) → (c == 13) ≡ b → (u : List ℕ) → (l : Bool) → begins_with_lf u ≡ l → (◌≢◌ {A = ℕ} (cond (b && l) 2 0) 0)
        → (e : LineEnd) × (c ∷ u ≡ print_end e ++ drop (cond (b && l) 2 0) (c ∷ u))
    second true is [] true feed some = absurd (let k = feed in cc)
    second true is (d ∷ u) true feed some =
        let return = eqb-true c 13 is in
        let line = eqb-true d 10 feed in
        (crlf, λ i. return i ∷ (line i ∷ u))
    second true is u false feed some = absurd (some refl)
    second false is u l feed some = absurd (some refl)

    first : (b : Bool) → (c == 10) ≡ b → (◌≢◌ {A = ℕ} (cond b 1 (cond ((c == 13) && begins_with_lf t) 2 0)) 0)
        → (e : LineEnd) × (c ∷ t ≡ print_end e ++ drop (cond b 1 (cond ((c == 13) && begins_with_lf t) 2 0)) (c ∷ t))
    first true is some = (lf, λ i. eqb-true c 10 is i ∷ t)
    first false is some = second (c == 13) refl t (begins_with_lf t) refl some

-- one empty line more
pub blank_more : (octets rest : List ℕ) → (ends : List LineEnd) × (octets ≡ print_blank ends ++ rest) → line_end_len rest ≢ 0
    → (ends : List LineEnd) × (octets ≡ print_blank ends ++ drop (line_end_len rest) rest)
blank_more octets rest (ends, whole) some =
    let at = line_end_front rest some in (
      ends ++ at.0 ∷ [],
      whole
          ∙ ap (λ (l : List ℕ). print_blank ends ++ l) at.1
          ∙ sym (append_assoc (print_blank ends) (print_end at.0) (drop (line_end_len rest) rest))
          ∙ ap (λ (l : List ℕ). l ++ drop (line_end_len rest) rest)
          (ap (λ (l : List ℕ). print_blank ends ++ l) (sym (append-nil (print_end at.0))) ∙ sym (flat_map-append print_end ends (at.0 ∷ []))),
    )

no_end_front : (text : List ℕ) → line_end_len text ≡ 0 → (e : LineEnd) (r : List ℕ) → text ≡ print_end e ++ r → ⊥
no_end_front text none crlf r is = absurd (let k : line_end_len (13 ∷ 10 ∷ r) ≡ 0 = subst (λ (l : List ℕ). line_end_len l ≡ 0) is none in cc)
no_end_front text none lf r is = absurd (let k : line_end_len (10 ∷ r) ≡ 0 = subst (λ (l : List ℕ). line_end_len l ≡ 0) is none in cc)

same_rest : (a b : List LineEnd) (r q : List ℕ) → line_end_len r ≡ 0 → line_end_len q ≡ 0 → print_blank a ++ r ≡ print_blank b ++ q → r ≡ q
same_rest [] [] r q none_r none_q whole = whole
same_rest [] (y ∷ b) r q none_r none_q whole = absurd (no_end_front r none_r y (print_blank b ++ q) (whole ∙ append_assoc (print_end y) (print_blank b) q))
same_rest (x ∷ a) [] r q none_r none_q whole = absurd (no_end_front q none_q x (print_blank a ++ r) (sym whole ∙ append_assoc (print_end x) (print_blank a) r))
same_rest (x ∷ a) (y ∷ b) r q none_r none_q whole =
    let heads = print_end_unique x y _ _ (sym (append_assoc (print_end x) (print_blank a) r) ∙ whole ∙ append_assoc (print_end y) (print_blank b) q) in
    same_rest a b r q none_r none_q heads.1

each_of : (test : ℕ → Bool) (l : List ℕ) → AllPass test l → Each test l
each_of test [] all = tt
each_of test (c ∷ l) all = (All-head (λ v. test v ≡ true) c l all, each_of test l (All-tail (λ v. test v ≡ true) c l all))

pass_of : (test : ℕ → Bool) (l : List ℕ) → Each test l → AllPass test l
pass_of test [] each = All-nil (λ v. test v ≡ true)
pass_of test (c ∷ l) each = All-cons (λ v. test v ≡ true) c l each.0 (pass_of test l each.1)

some_long : (l : List ℕ) → l ≢ [] → 0 < length l
some_long [] some = absurd (some refl)
some_long (c ∷ l) some = omega arith

-- the octets end inside a target
pub in_target : (octets rest target : List ℕ) → IsAfterBlankLines octets rest → back is_token_byte rest ≡ 32 ∷ target → front is_token_byte rest ≢ [] → Each is_uri_byte target
    → EndsInTarget octets
in_target octets rest target (ends, whole, none) is some each = (
  ends,
  front is_token_byte rest,
  target,
  (some_long (front is_token_byte rest) some, pass_of is_token_byte (front is_token_byte rest) (front_each is_token_byte rest)),
  pass_of is_uri_byte target each,
  whole
      ∙ ap (λ (l : List ℕ). print_blank ends ++ l) (front_back is_token_byte rest ∙ ap (λ (l : List ℕ). front is_token_byte rest ++ l) is)
      ∙ sym (append_assoc (print_blank ends) (front is_token_byte rest) (32 ∷ target)),
)

-- a method begins no line end
method_first : (method rest : List ℕ) → 0 < length method → AllPass is_token_byte method → line_end_len (method ++ rest) ≡ 0
method_first [] rest some all = absurd (omega (arith, some))
method_first (c ∷ method) rest some all = by (c == 10) (c == 13) refl refl (Stops_token (c ∷ method) rest some all)
  where
    by : (a b : Bool) → (c == 10) ≡ a → (c == 13) ≡ b → (b || a) ≡ false → ◌≡◌ {A = ℕ} (cond a 1 (cond (b && begins_with_lf (method ++ rest)) 2 0)) 0
    by true true is so stops = absurd cc
    by true false is so stops = absurd cc
    by false true is so stops = absurd cc
    by false false is so stops = refl

-- the parts of octets that end inside a target
pub target_parts : (octets rest : List ℕ) → IsAfterBlankLines octets rest → EndsInTarget octets
    → (target : List ℕ) × (back is_token_byte rest ≡ 32 ∷ target) × (front is_token_byte rest ≢ []) × Each is_uri_byte target
target_parts octets rest (ends, whole, none) (blank, method, target, (some, token), all, text) =
    let first = method_first method (32 ∷ target) some token in
    let same : rest ≡ method ++ 32 ∷ target =
    same_rest ends blank rest (method ++ 32 ∷ target) none first (sym whole ∙ text ∙ append_assoc (print_blank blank) method (32 ∷ target)) in
    let each = each_of is_token_byte method token in (
      target,
      ap (back is_token_byte) same ∙ back_is is_token_byte method (32 ∷ target) each space_ends_token,
      λ empty. omega (arith, some, ap length (sym (ap (front is_token_byte) same ∙ front_is is_token_byte method (32 ∷ target) each space_ends_token) ∙ empty)),
      each_of is_uri_byte target all,
    )

-- octets that never have a head have none
never_now : (octets : List ℕ) → NeverHasRequest octets → HasNoRequest octets
never_now octets never h rest reads = never [] h rest (subst (λ (l : List ℕ). ReadsRequest l h rest) (sym (append-nil octets)) reads)

-- texts that are equal with a space before each are equal
pub same_tail : (t u : List ℕ) → 32 ∷ t ≡ 32 ∷ u → t ≡ u
same_tail t u is = cc

-- octets that end inside a target are incomplete, where the parser refuses them
pub cut_incomplete : (octets : List ℕ) → IsRefused octets → EndsInTarget octets → IsIncomplete octets
cut_incomplete octets (inl never) cut = (never_now octets never, inr cut)
cut_incomplete octets (inr (h, rest, reads, none)) cut = absurd (no_head_in_target octets h rest cut reads)
