-- Literals are read as what they are, from behind their opening brace on.
use Rattle.std.proofs.Common.{◌≡◌, ℕ, zero, suc, ◌+◌, ◌-◌, ◌*◌, ◌<◌, ◌≤◌, Bool, true, false, ◌&&◌, List, [], ◌∷◌, ◌++◌, length, cond, refl, sym, ap, subst, ◌∙◌, append_assoc}
use Rattle.std.proofs.Common.{arith}
use Rattle.std.specs.Prelude.{◌==◌, nat_lt, nat_le}
use Rattle.std.proofs.lemmas.Bool.{and_parts, and_from, eqb-true, ltb-true, leb-true, lt-ltb, le-leb}
use Rattle.imap_types.specs.Octets.{is_digit, is_inside}
use Rattle.imap_types.specs.Texts.{Each, plain_octets}
use Rattle.imap_types.specs.Numbers.{value_from}
use Rattle.command_parts.specs.Fields.{fits_octet}
use Rattle.command_parts.specs.declared.no_command.NoCommand.TheVariants.{NeedMore, WantsLiteral}
use Rattle.command_parts.specs.declared.lexeme.LexemeStep.{LexemeStep}
use Rattle.command_parts.specs.declared.lexeme.LexemeStep.TheVariants.{Fail, On, End}
use Rattle.command_parts.specs.declared.follow.Follow.{Follow}
use Rattle.command_parts.specs.declared.literal.LiteralHead.{LiteralHead}
use Rattle.command_parts.specs.declared.literal.LiteralHead.TheVariants as head
use Rattle.command_parts.specs.reading.Steps.{read_from}
use Rattle.command_parts.specs.reading.Lexemes.{may_follow, head_advance, count_of}
use Rattle.command_parts.specs.reading.Strings.{octets_at, literal_at}
use Rattle.command_parts.proofs.Readers.{ends_with_line, stop_of, IsReader}
use Rattle.command_parts.proofs.Chains.{Chain, chained, chain_reader, same_reader}
use Rattle.command_parts.proofs.Lexing.{Accepts, AcceptsBy, IsPlain, IsAlive, is_fail, lexeme_reader, accepted_last}
use Rattle.command_parts.proofs.Literals.{IsOctetsBefore, octets_reader}
use Rattle.command_parts.proofs.Stepping.{from_if, at_true, on_if, end_if, go_if}

abbrev grown : ℕ → ℕ → ℕ
grown value c = 10 * value + (c - 48)

abbrev may_grow : ℕ → ℕ → ℕ → Bool
may_grow value count c = nat_lt count 8 && nat_le (grown value c) 50000000

abbrev digit_step : ℕ → ℕ → ℕ → LexemeStep LiteralHead
digit_step value count c = cond (may_grow value count c) (On (head.Digits (grown value c) (count + 1))) Fail

abbrev brace_step : ℕ → ℕ → ℕ → LexemeStep LiteralHead
brace_step value count c = cond (c == 125 && nat_lt 0 count) (On (head.Closed value)) Fail

-- ---- which octets a head has

digit_fits : (c : ℕ) → is_digit c ≡ true → (fits_octet c ≡ true) × ((c == 10) ≡ false)
digit_fits c e = (grind arith, grind arith)

sign_fits : (c d : ℕ) → fits_octet d ≡ true → (c == d) ≡ true → fits_octet c ≡ true
sign_fits c d h e = ap fits_octet (eqb-true c d e) ∙ h

sign_line : (c d : ℕ) (b : Bool) → (d == 10) ≡ b → (c == d) ≡ true → (c == 10) ≡ b
sign_line c d b h e = ap (λ (n : ℕ). n == 10) (eqb-true c d e) ∙ h

head_small : (s : LiteralHead) (c : ℕ) → (is_fail (head_advance s c) ≡ true → ⊥) → fits_octet c ≡ true
head_small (head.Digits v n) c h = go_if (is_digit c) (digit_step v n c) (brace_step v n c) (λ e k. (digit_fits c e).0)
    (λ e k. go_if (c == 125 && nat_lt 0 n) (On (head.Closed v)) Fail (λ f g. sign_fits c 125 refl (and_parts (c == 125) (nat_lt 0 n) f).0) (λ f g. absurd (g refl)) k) h
head_small (head.Closed v) c h = go_if (c == 13) (On (head.Line v)) Fail (λ e k. sign_fits c 13 refl e) (λ e k. absurd (k refl)) h
head_small (head.Line v) c h = go_if (c == 10) (End (head.Line v)) Fail (λ e k. sign_fits c 10 refl e) (λ e k. absurd (k refl)) h

head_line : (s p : LiteralHead) (c : ℕ) → head_advance s c ≡ On p → (c == 10) ≡ false
head_line (head.Digits v n) p c h = on_if (is_digit c) (digit_step v n c) (brace_step v n c) p (λ e k. (digit_fits c e).1)
    (λ e k. on_if (c == 125 && nat_lt 0 n) (On (head.Closed v)) Fail p (λ f g. sign_line c 125 false refl (and_parts (c == 125) (nat_lt 0 n) f).0) (λ f g. absurd cc) k) h
head_line (head.Closed v) p c h = on_if (c == 13) (On (head.Line v)) Fail p (λ e k. sign_line c 13 false refl e) (λ e k. absurd cc) h
head_line (head.Line v) p c h = on_if (c == 10) (End (head.Line v)) Fail p (λ e k. absurd cc) (λ e k. absurd cc) h

head_plain : IsPlain head_advance
head_plain = record { small = head_small; on_line = head_line }

-- a head ends with an LF
head_end : (s p : LiteralHead) (c : ℕ) → head_advance s c ≡ End p → (c == 10) ≡ true
head_end (head.Digits v n) p c h = end_if (is_digit c) (digit_step v n c) (brace_step v n c) p
    (λ e k. end_if (may_grow v n c) (On (head.Digits (grown v c) (n + 1))) Fail p (λ f g. absurd cc) (λ f g. absurd cc) k)
    (λ e k. end_if (c == 125 && nat_lt 0 n) (On (head.Closed v)) Fail p (λ f g. absurd cc) (λ f g. absurd cc) k) h
head_end (head.Closed v) p c h = end_if (c == 13) (On (head.Line v)) Fail p (λ e k. absurd cc) (λ e k. absurd cc) h
head_end (head.Line v) p c h = end_if (c == 10) (End (head.Line v)) Fail p (λ e k. e) (λ e k. absurd cc) h

-- ---- the texts

-- what a state still reads, up to a count of n
abbrev HeadRest : LiteralHead → ℕ → List ℕ → Type 0
HeadRest (head.Digits v count) n t =
    (ds : List ℕ) × Each is_digit ds × (t ≡ ds ++ 125 ∷ 13 ∷ 10 ∷ []) × (0 < count + length ds) × (count + length ds ≤ 8) × (n ≡ value_from v ds) × (n ≤ 50000000)
HeadRest (head.Closed v) n t = (t ≡ 13 ∷ 10 ∷ []) × (n ≡ v)
HeadRest (head.Line v) n t = (t ≡ 10 ∷ []) × (n ≡ v)

-- registers that digits can make
abbrev Fine : LiteralHead → Type 0
Fine (head.Digits v count) = (count ≤ 8) × (v ≤ 50000000) × (count ≡ 0 → v ≡ 0)
Fine (head.Closed v) = v ≤ 50000000
Fine (head.Line v) = v ≤ 50000000

head_step : (s v : LiteralHead) (c : ℕ) (t : List ℕ) → Fine s → ((p : LiteralHead) → Fine p → Accepts head_advance p v t → HeadRest p (count_of v) t)
    → AcceptsBy (head_advance s c) (λ p. Accepts head_advance p v t) v t → HeadRest s (count_of v) (c ∷ t)
head_step (head.Digits w n) v c t fine ih h = from_if (is_digit c) (digit_step w n c) (brace_step w n c) (λ p. Accepts head_advance p v t) v t
    (λ e k. from_if (may_grow w n c) (On (head.Digits (grown w c) (n + 1))) Fail (λ p. Accepts head_advance p v t) v t
    (λ f g.
    let m = and_parts (nat_lt n 8) (nat_le (grown w c) 50000000) f in
    let few = ltb-true n 8 m.0 in
    let le = leb-true (grown w c) 50000000 m.1 in
    let r = ih (head.Digits (grown w c) (n + 1)) (omega (arith, few), le, λ z. absurd (omega (arith, z))) g in
    (c ∷ r.0, (e, r.1), ap (λ (u : List ℕ). c ∷ u) r.2, omega arith, omega (arith, r.4), r.5, r.6)) (λ f g. absurd g) k)
    (λ e k. from_if (c == 125 && nat_lt 0 n) (On (head.Closed w)) Fail (λ p. Accepts head_advance p v t) v t
    (λ f g.
    let m = and_parts (c == 125) (nat_lt 0 n) f in
    let some = ltb-true 0 n m.1 in
    let r = ih (head.Closed w) fine.1 g in
    ([], tt, ap (λ (d : ℕ). d ∷ t) (eqb-true c 125 m.0) ∙ ap (λ (u : List ℕ). 125 ∷ u) r.0, omega (arith, some), omega (arith, fine.0), r.1, omega (arith, r.1, fine.1)))
    (λ f g. absurd g) k) h
head_step (head.Closed w) v c t fine ih h = from_if (c == 13) (On (head.Line w)) Fail (λ p. Accepts head_advance p v t) v t
    (λ e k. let r = ih (head.Line w) fine k in (ap (λ (d : ℕ). d ∷ t) (eqb-true c 13 e) ∙ ap (λ (u : List ℕ). 13 ∷ u) r.0, r.1)) (λ e k. absurd k) h
head_step (head.Line w) v c t fine ih h = from_if (c == 10) (End (head.Line w)) Fail (λ p. Accepts head_advance p v t) v t
    (λ e k. (ap (λ (d : ℕ). d ∷ t) (eqb-true c 10 e) ∙ ap (λ (u : List ℕ). 10 ∷ u) k.1, ap count_of k.0)) (λ e k. absurd k) h

head_forth : (t : List ℕ) (s v : LiteralHead) → Fine s → Accepts head_advance s v t → HeadRest s (count_of v) t
head_forth [] s v fine h = absurd h
head_forth (c ∷ t) s v fine h = head_step s v c t fine (λ p f k. head_forth t p v f k) h

no_digit : (c : ℕ) → (c == 125) ≡ true → is_digit c ≡ false
no_digit c e = grind arith

value_mono : (v : ℕ) (t : List ℕ) → v ≤ value_from v t
value_mono v [] = omega arith
value_mono v (c ∷ t) = let ih = value_mono (10 * v + (c - 48)) t in omega (arith, ih)

-- digits and the end of a head lead to their number
head_back : (ds : List ℕ) (v count : ℕ) → Each is_digit ds → 0 < count + length ds → count + length ds ≤ 8 → value_from v ds ≤ 50000000
    → Accepts head_advance (head.Digits v count) (head.Line (value_from v ds)) (ds ++ 125 ∷ 13 ∷ 10 ∷ [])
head_back [] v count each some few le =
    at_true (nat_lt 0 count) (On (head.Closed v)) Fail (λ p. Accepts head_advance p (head.Line v) (13 ∷ 10 ∷ [])) (head.Line v) (13 ∷ 10 ∷ [])
    (lt-ltb 0 count (omega (arith, some))) (refl, refl)
head_back (c ∷ ds) v count each some few le =
    let w : LiteralHead = head.Line (value_from (grown v c) ds) in
    let t : List ℕ = ds ++ 125 ∷ 13 ∷ 10 ∷ [] in
    let mono = value_mono (grown v c) ds in
    at_true (is_digit c) (digit_step v count c) (brace_step v count c) (λ p. Accepts head_advance p w t) w t each.0
    (at_true (may_grow v count c) (On (head.Digits (grown v c) (count + 1))) Fail (λ p. Accepts head_advance p w t) w t
    (and_from (nat_lt count 8) (nat_le (grown v c) 50000000) (lt-ltb count 8 (omega (arith, few))) (le-leb (grown v c) 50000000 (omega (arith, mono, le))))
    (head_back ds (grown v c) (count + 1) each.1 (omega arith) (omega (arith, few)) le))

-- ---- the reader

head_keeps : (s p : LiteralHead) (c : ℕ) → Fine s → head_advance s c ≡ On p → Fine p
head_keeps (head.Digits v n) p c fine h = on_if (is_digit c) (digit_step v n c) (brace_step v n c) p
    (λ e k. on_if (may_grow v n c) (On (head.Digits (grown v c) (n + 1))) Fail p
    (λ f g.
    let m = and_parts (nat_lt n 8) (nat_le (grown v c) 50000000) f in
    let few = ltb-true n 8 m.0 in
    let le = leb-true (grown v c) 50000000 m.1 in
    let same : head.Digits (grown v c) (n + 1) ≡ p = cc in
    subst Fine same (omega (arith, few), le, λ z. absurd (omega (arith, z)))) (λ f g. absurd cc) k)
    (λ e k. on_if (c == 125 && nat_lt 0 n) (On (head.Closed v)) Fail p (λ f g. let same : head.Closed v ≡ p = cc in subst Fine same fine.1) (λ f g. absurd cc) k) h
head_keeps (head.Closed v) p c fine h = on_if (c == 13) (On (head.Line v)) Fail p (λ e k. let same : head.Line v ≡ p = cc in subst Fine same fine) (λ e k. absurd cc) h
head_keeps (head.Line v) p c fine h = on_if (c == 10) (End (head.Line v)) Fail p (λ e k. absurd cc) (λ e k. absurd cc) h

head_some : (s : LiteralHead) → Fine s → (v : LiteralHead) × (t : List ℕ) × Accepts head_advance s v t
head_some (head.Digits v zero) fine =
    let none = fine.2 refl in
    (head.Line (value_from v (48 ∷ [])), 48 ∷ 125 ∷ 13 ∷ 10 ∷ [], head_back (48 ∷ []) v 0 (refl, tt) (omega arith) (omega arith) (omega (arith, none)))
head_some (head.Digits v (suc n)) fine = (head.Line v, 125 ∷ 13 ∷ 10 ∷ [], head_back [] v (suc n) tt (omega arith) (omega (arith, fine.0)) fine.1)
head_some (head.Closed v) fine = (head.Line v, 13 ∷ 10 ∷ [], (refl, refl))
head_some (head.Line v) fine = (head.Line v, 10 ∷ [], (refl, refl))

head_alive : IsAlive head_advance Fine
head_alive = record { keeps = head_keeps; some = head_some }

start_fine : Fine (head.Digits 0 0)
start_fine = (omega arith, omega arith, λ z. refl)

-- a literal behind its opening brace, and the octet that follows it
pub record LiteralText (f : Follow) (s t : List ℕ) : Type 0 where
  pub digits : List ℕ
  pub octets : List ℕ
  pub stop : ℕ
  pub whole : t ≡ digits ++ 125 ∷ 13 ∷ 10 ∷ (octets ++ stop ∷ [])
  pub are_digits : Each is_digit digits
  pub some : 0 < length digits
  pub few : length digits ≤ 8
  pub counted : length octets ≡ value_from 0 digits
  pub most : length octets ≤ 50000000
  pub inside : Each is_inside octets
  pub string : s ≡ plain_octets octets
  pub may : may_follow f stop ≡ true

stop_line : (t : List ℕ) → ends_with_line t ≡ true → stop_of NeedMore t ≡ WantsLiteral
stop_line [] e = absurd cc
stop_line (c ∷ t) e = ap (λ (b : Bool). cond b WantsLiteral NeedMore) e

abbrev Heads : LiteralHead → List ℕ → Type 0
Heads v t = Accepts head_advance (head.Digits 0 0) v t

abbrev Octets : Follow → LiteralHead → List ℕ → List ℕ → Type 0
Octets f v s t = IsOctetsBefore (count_of v) f s t

literal_forth : (f : Follow) (s t : List ℕ) → Chain Heads (Octets f) s t → LiteralText f s t
literal_forth f s t h =
    let th = h.1 in
    let r = head_forth th.front (head.Digits 0 0) h.0 start_fine th.first in
    let o = th.second in
    record {
      digits = r.0;
      octets = o.octets;
      stop = o.stop;
      whole = th.whole ∙ ap (λ (u : List ℕ). u ++ th.back) r.2 ∙ append_assoc r.0 (125 ∷ 13 ∷ 10 ∷ []) th.back ∙ ap (λ (u : List ℕ). r.0 ++ 125 ∷ 13 ∷ 10 ∷ u) o.whole;
      are_digits = r.1;
      some = omega (arith, r.3);
      few = omega (arith, r.4);
      counted = o.counted ∙ r.5;
      most = omega (arith, o.counted, r.6);
      inside = o.inside;
      string = o.value;
      may = o.may;
    }

literal_back : (f : Follow) (s t : List ℕ) → LiteralText f s t → Chain Heads (Octets f) s t
literal_back f s t h = (
  head.Line (value_from 0 h.digits),
  record {
    front = h.digits ++ 125 ∷ 13 ∷ 10 ∷ [];
    back = h.octets ++ h.stop ∷ [];
    whole = h.whole ∙ sym (append_assoc h.digits (125 ∷ 13 ∷ 10 ∷ []) (h.octets ++ h.stop ∷ []));
    first = head_back h.digits 0 0 h.are_digits (omega (arith, h.some)) (omega (arith, h.few)) (omega (arith, h.counted, h.most));
    second = record {
      octets = h.octets;
      stop = h.stop;
      whole = refl;
      inside = h.inside;
      counted = h.counted;
      value = h.string;
      may = h.may;
    };
  },
)

-- a literal is read with the octet that follows it
pub literal_reader : (f : Follow) → IsReader NeedMore (LiteralText f) (literal_at f)
unfolding literal_at
literal_reader f = same_reader NeedMore (Chain Heads (Octets f)) (LiteralText f) (chained (read_from head_advance (head.Digits 0 0)) (λ v. octets_at (count_of v) f))
    (literal_forth f) (literal_back f)
    (chain_reader NeedMore (λ v. WantsLiteral) Heads (Octets f) (read_from head_advance (head.Digits 0 0)) (λ v. octets_at (count_of v) f)
    (lexeme_reader head_advance Fine head_plain head_alive (head.Digits 0 0) start_fine) (λ v. octets_reader (count_of v) f)
    (λ v t h. stop_line t (accepted_last head_advance true head_end (head.Digits 0 0) v t h)))
