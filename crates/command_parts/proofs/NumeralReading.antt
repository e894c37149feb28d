-- Numbers are read as what they are.
use Rattle.std.proofs.Common.{◌≡◌, ℕ, ◌+◌, ◌-◌, ◌*◌, ◌/◌, ◌%◌, ◌<◌, ◌≤◌, min, Bool, true, false, ◌&&◌, List, [], ◌∷◌, ◌++◌, cond, Option, Some, None, refl, sym, ap, subst, ◌∙◌}
use Rattle.std.proofs.Common.{append_assoc, arith}
use Rattle.std.specs.Prelude.{◌==◌, nat_le}
use Rattle.std.specs.Fmt.{decimal}
use Rattle.std.proofs.lemmas.Bool.{leb-true, le-leb, eqb-false, ne_eqb}
use Rattle.std.proofs.lemmas.List.{append-nil}
use Rattle.std.proofs.lemmas.Nat.{div-mul-add, mod-mul-add, div-add-mod', mod_below}
use Rattle.std.proofs.lemmas.Fmt.{decimal_digit, decimal_step, decimal_by_steps}
use Rattle.imap_types.specs.Octets.{is_digit}
use Rattle.command_parts.specs.Fields.{fits_octet}
use Rattle.command_parts.specs.declared.no_command.NoCommand.TheVariants.{NeedMore}
use Rattle.command_parts.specs.declared.lexeme.LexemeStep.TheVariants.{Fail, On, End}
use Rattle.command_parts.specs.declared.follow.Follow.{Follow}
use Rattle.command_parts.specs.declared.follow.Follow.TheVariants as follow
use Rattle.command_parts.specs.declared.numeral.Numeral.{Numeral}
use Rattle.command_parts.specs.reading.Steps.{read_from}
use Rattle.command_parts.specs.reading.Lexemes.{may_follow, within, with_digit, is_begun, numeral_ended, numeral_on, numeral_advance, value_or_zero, numeral_at, number_at}
use Rattle.command_parts.proofs.Readers.{IsReader}
use Rattle.command_parts.proofs.Chains.{Viewed, viewed, view_reader, same_reader}
use Rattle.command_parts.proofs.Lexing.{Accepts, AcceptsBy, IsPlain, IsAlive, is_fail, lexeme_reader}
use Rattle.command_parts.proofs.Literals.{follow_octet, follows, follow_small}
use Rattle.command_parts.proofs.Stepping.{from_if, at_true, at_false, on_if, go_if}

abbrev num : ℕ → Follow → Option ℕ → ℕ → Numeral
num most f value end = record { most = most; follow = f; value = value; end = end }

-- ---- digits

digit_fits : (c : ℕ) → is_digit c ≡ true → fits_octet c ≡ true
digit_fits c e = grind arith

digit_no_line : (c : ℕ) → is_digit c ≡ true → (c == 10) ≡ false
digit_no_line c e = grind arith

digit_value : (c : ℕ) → is_digit c ≡ true → (c - 48 < 10) × (48 + (c - 48) ≡ c)
digit_value c e = (grind arith, grind arith)

digit_of : (d : ℕ) → d < 10 → (is_digit (48 + d) ≡ true) × (48 + d - 48 ≡ d)
digit_of d lt = (grind arith, omega arith)

follow_no_digit : (f : Follow) (c : ℕ) → may_follow f c ≡ true → is_digit c ≡ false
follow_no_digit follow.Space c e = grind arith
follow_no_digit follow.Line c e = grind arith
follow_no_digit follow.SpaceOrLine c e = grind arith
follow_no_digit follow.ColonOrSpace c e = grind arith
follow_no_digit follow.Close c e = grind arith

-- a number that isn't 0 and one digit more
grow_one : (k d : ℕ) → 0 < k → d < 10 → 10 * k + d < 18446744073709551616 → decimal (10 * k + d) ≡ decimal k ++ (48 + d) ∷ []
grow_one k d some lt most =
    let e : 10 * k + d ≡ k * 10 + d = omega arith in
    ap decimal e ∙ decimal_step (k * 10 + d) (omega (arith, some)) (omega (arith, most)) ∙ ap (λ (i : ℕ). decimal i ++ (48 + (k * 10 + d) % 10) ∷ []) (div-mul-add k 10 d lt)
    ∙ ap (λ (i : ℕ). decimal k ++ (48 + i) ∷ []) (mod-mul-add k 10 d lt)

-- ---- steps

within_some : (n most w : ℕ) → within n most ≡ Some w → (w ≡ n) × (w ≤ most)
within_some n most w e = by (nat_le n most) refl e
  where
    by : (b : Bool) → nat_le n most ≡ b → cond b (Some n) None ≡ Some w → (w ≡ n) × (w ≤ most)
    by true f g = let same : n ≡ w = cc in let le = leb-true n most f in (sym same, omega (arith, same, le))
    by false f g = absurd cc

within_is : (n most : ℕ) → n ≤ most → within n most ≡ Some n
within_is n most le = ap (λ (b : Bool). cond b (Some n) None) (le-leb n most le)

more_some : (k d most w : ℕ) → with_digit (Some k) d most ≡ Some w → (0 < k) × (w ≡ 10 * k + d) × (w ≤ most)
more_some k d most w e = by (k == 0) refl e
  where
    by : (b : Bool) → (k == 0) ≡ b → cond b None (within (10 * k + d) most) ≡ Some w → (0 < k) × (w ≡ 10 * k + d) × (w ≤ most)
    by true f g = absurd cc
    by false f g = let r = within_some (10 * k + d) most w g in let ne = eqb-false k 0 f in (omega (arith, ne), r.0, r.1)

more_is : (k d most : ℕ) → 0 < k → 10 * k + d ≤ most → with_digit (Some k) d most ≡ Some (10 * k + d)
more_is k d most some le =
    ap (λ (b : Bool). cond b None (within (10 * k + d) most)) (ne_eqb k 0 (λ e. omega (arith, e, some))) ∙ within_is (10 * k + d) most le

-- ---- which octets a number has

on_go : (n : Numeral) (c : ℕ) (o : Option ℕ) → is_digit c ≡ true → (is_fail (numeral_on n o) ≡ true → ⊥) → fits_octet c ≡ true
on_go n c o e h = digit_fits c e

ended_go : (n : Numeral) (c : ℕ) → (is_fail (numeral_ended n c) ≡ true → ⊥) → fits_octet c ≡ true
ended_go n c h = go_if (is_begun n.value && may_follow n.follow c) (End (record n { end = c })) Fail (λ e k. by n.value e) (λ e k. absurd (k refl)) h
  where
    by : (o : Option ℕ) → (is_begun o && may_follow n.follow c) ≡ true → fits_octet c ≡ true
    by None e = absurd cc
    by (Some k) e = follow_small n.follow c e

on_step : (n p : Numeral) (c : ℕ) (o : Option ℕ) → is_digit c ≡ true → numeral_on n o ≡ On p → (c == 10) ≡ false
on_step n p c o e h = digit_no_line c e

numeral_plain : IsPlain numeral_advance
numeral_plain = record {
  small = λ n c h. go_if (is_digit c) (numeral_on n (with_digit n.value (c - 48) n.most)) (numeral_ended n c) (λ e k. digit_fits c e) (λ e k. ended_go n c k) h;
  on_line = λ n p c h. on_if (is_digit c) (numeral_on n (with_digit n.value (c - 48) n.most)) (numeral_ended n c) p (λ e k. digit_no_line c e)
      (λ e k. on_if (is_begun n.value && may_follow n.follow c) (End (record n { end = c })) Fail p (λ f g. absurd cc) (λ f g. absurd cc) k) h;
}

-- ---- how a number ends

ends_number : (most : ℕ) (f : Follow) (k e c : ℕ) → may_follow f c ≡ true → Accepts numeral_advance (num most f (Some k) e) (num most f (Some k) c) (c ∷ [])
ends_number most f k e c may =
    at_false (is_digit c) (numeral_on (num most f (Some k) e) (with_digit (Some k) (c - 48) most)) (numeral_ended (num most f (Some k) e) c) (λ p. ⊥) (num most f (Some k) c) []
    (follow_no_digit f c may) (at_true (may_follow f c) (End (num most f (Some k) c)) Fail (λ p. ⊥) (num most f (Some k) c) [] may (refl, refl))

zero_fits : (most : ℕ) → with_digit None 0 most ≡ Some 0
zero_fits most = within_is 0 most (omega arith)

numeral_some : (n : Numeral) → (v : Numeral) × (t : List ℕ) × Accepts numeral_advance n v t
numeral_some n = by n.value refl
  where
    c : ℕ
    c = follow_octet n.follow

    by : (o : Option ℕ) → n.value ≡ o → (v : Numeral) × (t : List ℕ) × Accepts numeral_advance n v t
    by (Some k) e = (
      num n.most n.follow (Some k) c,
      c ∷ [],
      subst (λ (o : Option ℕ). Accepts numeral_advance (num n.most n.follow o n.end) (num n.most n.follow (Some k) c) (c ∷ [])) (sym e)
          (ends_number n.most n.follow k n.end c (follows n.follow)),
    )
    by None e = (
      num n.most n.follow (Some 0) c,
      48 ∷ c ∷ [],
      subst (λ (o : Option ℕ). Accepts numeral_advance (num n.most n.follow o n.end) (num n.most n.follow (Some 0) c) (48 ∷ c ∷ [])) (sym e)
          (subst (λ (o : Option ℕ). AcceptsBy (numeral_on (num n.most n.follow None n.end) o) (λ p. Accepts numeral_advance p (num n.most n.follow (Some 0) c) (c ∷ []))
          (num n.most n.follow (Some 0) c) (c ∷ []))
          (sym (zero_fits n.most)) (ends_number n.most n.follow 0 n.end c (follows n.follow))),
    )

numeral_alive : IsAlive numeral_advance (λ s. Unit {0})
numeral_alive = record { keeps = λ s p c inv e. tt; some = λ s inv. numeral_some s }

-- ---- the texts

-- what is read after digits that make k
record DigitsRest (most : ℕ) (f : Follow) (k : ℕ) (v : Numeral) (t : List ℕ) : Type 0 where
  front : List ℕ
  number : ℕ
  whole : t ≡ front ++ v.end ∷ []
  value : v.value ≡ Some number
  most_is : number ≤ most
  digits : decimal k ++ front ≡ decimal number
  may : may_follow f v.end ≡ true

ended_rest : (most : ℕ) (f : Follow) (k e c : ℕ) (v : Numeral) (t : List ℕ) → k ≤ most → AcceptsBy (numeral_ended (num most f (Some k) e) c)
    (λ p. Accepts numeral_advance p v t) v t
    → DigitsRest most f k v (c ∷ t)
ended_rest most f k e c v t le h = from_if (may_follow f c) (End (num most f (Some k) c)) Fail (λ p. Accepts numeral_advance p v t) v t
    (λ may g. record {
      front = [];
      number = k;
      whole = ap (λ (u : List ℕ). c ∷ u) g.1 ∙ ap (λ (n : Numeral). n.end ∷ []) (sym g.0);
      value = ap (λ (n : Numeral). n.value) g.0;
      most_is = le;
      digits = append-nil (decimal k);
      may = ap (λ (n : Numeral). may_follow f n.end) g.0 ∙ may;
    }) (λ may g. absurd g) h

digit_rest : (most : ℕ) (f : Follow) (k c w : ℕ) (v : Numeral) (t : List ℕ) → most < 18446744073709551616 → is_digit c ≡ true → with_digit (Some k) (c - 48) most ≡ Some w
    → DigitsRest most f w v t → DigitsRest most f k v (c ∷ t)
digit_rest most f k c w v t small digit e r =
    let m = more_some k (c - 48) most w e in
    let d = digit_value c digit in
    let grown : decimal w ≡ decimal k ++ c ∷ [] =
    ap decimal m.1 ∙ grow_one k (c - 48) m.0 d.0 (omega (arith, m.1, m.2, small)) ∙ ap (λ (i : ℕ). decimal k ++ i ∷ []) d.1 in
    record {
      front = c ∷ r.front;
      number = r.number;
      whole = ap (λ (u : List ℕ). c ∷ u) r.whole;
      value = r.value;
      most_is = r.most_is;
      digits = sym (append_assoc (decimal k) (c ∷ []) r.front) ∙ ap (λ (u : List ℕ). u ++ r.front) (sym grown) ∙ r.digits;
      may = r.may;
    }

digits_forth : (t : List ℕ) (most : ℕ) (f : Follow) (k e : ℕ) (v : Numeral) → most < 18446744073709551616 → k ≤ most → Accepts numeral_advance (num most f (Some k) e) v t
    → DigitsRest most f k v t
digits_forth [] most f k e v small le h = absurd h
digits_forth (c ∷ t) most f k e v small le h =
    from_if (is_digit c) (numeral_on (num most f (Some k) e) (with_digit (Some k) (c - 48) most)) (numeral_ended (num most f (Some k) e) c) (λ p. Accepts numeral_advance p v t) v t
    (λ digit g. by digit (with_digit (Some k) (c - 48) most) refl g (λ w m. digits_forth t most f w e v small m)) (λ digit g. ended_rest most f k e c v t le g) h
  where
    by : is_digit c ≡ true → (o : Option ℕ) → with_digit (Some k) (c - 48) most ≡ o → AcceptsBy (numeral_on (num most f (Some k) e) o) (λ p. Accepts numeral_advance p v t) v t
        → ((w : ℕ) → w ≤ most → Accepts numeral_advance (num most f (Some w) e) v t → DigitsRest most f w v t) → DigitsRest most f k v (c ∷ t)
    by digit None g h ih = absurd h
    by digit (Some w) g h ih = digit_rest most f k c w v t small digit g (ih w (more_some k (c - 48) most w g).2 h)

-- a number, and the octet that follows it
abbrev pub NumeralText : ℕ → Follow → ℕ × ℕ → List ℕ → Type 0
NumeralText most f v t = (t ≡ decimal v.0 ++ v.1 ∷ []) × (v.0 ≤ most) × (may_follow f v.1 ≡ true)

number_forth : (t : List ℕ) (most : ℕ) (f : Follow) (v : Numeral) → most < 18446744073709551616 → Accepts numeral_advance (num most f None 0) v t
    → NumeralText most f (value_or_zero v.value, v.end) t
number_forth [] most f v small h = absurd h
number_forth (c ∷ t) most f v small h =
    from_if (is_digit c) (numeral_on (num most f None 0) (within (c - 48) most)) (numeral_ended (num most f None 0) c) (λ p. Accepts numeral_advance p v t) v t
    (λ digit g. by digit (within (c - 48) most) refl g) (λ digit g. absurd g) h
  where
    by : is_digit c ≡ true → (o : Option ℕ) → within (c - 48) most ≡ o → AcceptsBy (numeral_on (num most f None 0) o) (λ p. Accepts numeral_advance p v t) v t
        → NumeralText most f (value_or_zero v.value, v.end) (c ∷ t)
    by digit None g h = absurd h
    by digit (Some w) g h =
        let s = within_some (c - 48) most w g in
        let d = digit_value c digit in
        let r = digits_forth t most f w 0 v small s.1 h in
        let first : decimal w ≡ c ∷ [] = decimal_digit w (omega (arith, s.0, d.0)) ∙ ap (λ (i : ℕ). i ∷ []) (ap (λ (i : ℕ). 48 + i) s.0 ∙ d.1) in
        let value : value_or_zero v.value ≡ r.number = ap value_or_zero r.value in
        let digits : c ∷ r.front ≡ decimal r.number = ap (λ (u : List ℕ). u ++ r.front) (sym first) ∙ r.digits in
        (ap (λ (u : List ℕ). c ∷ u) r.whole ∙ ap (λ (u : List ℕ). u ++ v.end ∷ []) (digits ∙ ap decimal (sym value)), omega (arith, value, r.most_is), r.may)

-- ---- back

-- the digits lead from one state to another, whatever follows
abbrev Leads : Numeral → List ℕ → Numeral → Type 0
Leads s ds p = (v : Numeral) (t : List ℕ) → Accepts numeral_advance p v t → Accepts numeral_advance s v (ds ++ t)

leads_digit : (most : ℕ) (f : Follow) (o : Option ℕ) (d w : ℕ) → d < 10 → with_digit o d most ≡ Some w → Leads (num most f o 0) ((48 + d) ∷ []) (num most f (Some w) 0)
leads_digit most f o d w lt e v t h =
    let c = digit_of d lt in
    at_true (is_digit (48 + d)) (numeral_on (num most f o 0) (with_digit o (48 + d - 48) most)) (numeral_ended (num most f o 0) (48 + d))
    (λ p. Accepts numeral_advance p v t) v t c.0
    (subst (λ (q : Option ℕ). AcceptsBy (numeral_on (num most f o 0) q) (λ p. Accepts numeral_advance p v t) v t) (sym (ap (λ (i : ℕ). with_digit o i most) c.1 ∙ e)) h)

decimal_leads : (most : ℕ) (f : Follow) (n : ℕ) → n < 18446744073709551616 → n ≤ most → Leads (num most f None 0) (decimal n) (num most f (Some n) 0)
decimal_leads most f n small = decimal_by_steps (λ n ds. n ≤ most → Leads (num most f None 0) ds (num most f (Some n) 0)) one more n small
  where
    one : (n : ℕ) → n < 10 → n ≤ most → Leads (num most f None 0) ((48 + n) ∷ []) (num most f (Some n) 0)
    one n lt le = leads_digit most f None n n lt (within_is n most le)

    more : (n : ℕ) (ds : List ℕ) → 10 ≤ n → (n / 10 ≤ most → Leads (num most f None 0) ds (num most f (Some (n / 10)) 0)) → n ≤ most
        → Leads (num most f None 0) (ds ++ (48 + n % 10) ∷ []) (num most f (Some n) 0)
    more n ds ten ih le v t h =
        let whole : n / 10 * 10 + n % 10 ≡ n = div-add-mod' n 10 in
        let digit : n % 10 < 10 = mod_below n 10 (omega arith) in
        let value : 10 * (n / 10) + n % 10 ≡ n = omega (arith, whole) in
        let next : with_digit (Some (n / 10)) (n % 10) most ≡ Some n =
        more_is (n / 10) (n % 10) most (omega (arith, whole, digit, ten)) (omega (arith, value, le)) ∙ ap (λ (i : ℕ). Some i) value in
        subst (Accepts numeral_advance (num most f None 0) v) (sym (append_assoc ds ((48 + n % 10) ∷ []) t))
        (ih (omega (arith, whole, le)) v ((48 + n % 10) ∷ t) (leads_digit most f (Some (n / 10)) (n % 10) n digit next v t h))

number_back : (most : ℕ) (f : Follow) (n c : ℕ) → most < 18446744073709551616 → n ≤ most → may_follow f c ≡ true
    → Accepts numeral_advance (num most f None 0) (num most f (Some n) c) (decimal n ++ c ∷ [])
number_back most f n c small le may = decimal_leads most f n (omega (arith, small, le)) le (num most f (Some n) c) (c ∷ []) (ends_number most f n 0 c may)

-- ---- the readers

abbrev told : Numeral → List ℕ → ℕ × ℕ
told n b = (value_or_zero n.value, n.end)

-- a number is read with the octet that follows it
pub numeral_reader : (most : ℕ) (f : Follow) → most < 18446744073709551616 → IsReader NeedMore (NumeralText most f) (numeral_at most f)
unfolding numeral_at
numeral_reader most f small = same_reader NeedMore (Viewed told (Accepts numeral_advance (num most f None 0))) (NumeralText most f)
    (viewed told (read_from numeral_advance (num most f None 0))) forth back
    (view_reader NeedMore told (Accepts numeral_advance (num most f None 0)) (read_from numeral_advance (num most f None 0))
    (lexeme_reader numeral_advance (λ s. Unit {0}) numeral_plain numeral_alive (num most f None 0) tt) (λ a t rest h. refl))
  where
    forth : (v : ℕ × ℕ) (t : List ℕ) → Viewed told (Accepts numeral_advance (num most f None 0)) v t → NumeralText most f v t
    forth v t h = subst (λ (w : ℕ × ℕ). NumeralText most f w t) (sym h.2) (number_forth t most f h.0 small h.1)

    back : (v : ℕ × ℕ) (t : List ℕ) → NumeralText most f v t → Viewed told (Accepts numeral_advance (num most f None 0)) v t
    back v t h = (
      num most f (Some v.0) v.1,
      subst (Accepts numeral_advance (num most f None 0) (num most f (Some v.0) v.1)) (sym h.0)
          (number_back most f v.0 v.1 small h.1 h.2),
      refl,
    )

abbrev at_most : ℕ × ℕ → List ℕ → ℕ × ℕ
at_most v b = (min v.0 4294967295, v.1)

-- up to 2^32 - 1
pub number_reader : (f : Follow) → IsReader NeedMore (NumeralText 4294967295 f) (number_at f)
unfolding number_at
number_reader f = same_reader NeedMore (Viewed at_most (NumeralText 4294967295 f)) (NumeralText 4294967295 f) (viewed at_most (numeral_at 4294967295 f)) forth back
    (view_reader NeedMore at_most (NumeralText 4294967295 f) (numeral_at 4294967295 f) (numeral_reader 4294967295 f (omega arith)) (λ a t rest h. refl))
  where
    least : (n : ℕ) → n ≤ 4294967295 → min n 4294967295 ≡ n
    least n le = omega (arith, le)

    forth : (v : ℕ × ℕ) (t : List ℕ) → Viewed at_most (NumeralText 4294967295 f) v t → NumeralText 4294967295 f v t
    forth v t h = subst (λ (w : ℕ × ℕ). NumeralText 4294967295 f w t) (sym (h.2 ∙ ap (λ (n : ℕ). (n, h.0.1)) (least h.0.0 h.1.1))) h.1

    back : (v : ℕ × ℕ) (t : List ℕ) → NumeralText 4294967295 f v t → Viewed at_most (NumeralText 4294967295 f) v t
    back v t h = (v, h, ap (λ (n : ℕ). (n, v.1)) (sym (least v.0 h.1)))
